use Rattle.std.proofs.Common.{◌≡◌, ◌-◌, ◌++◌, sym, subst, take, drop, length}
use Rattle.std.proofs.lemmas.List.{append-nil, take_rest}
use Rattle.can_frame.specs.Reading.{ReadsOnBy, StandsAfter}
use Rattle.can_frame.proofs.Anew.{stands_on_by}
use Rattle.can_frame.proofs.reader.Reader.read_anew.Goals as goal

pub loop-level-init : goal.loop-level-init
loop-level-init c =
    let text = c.args.text.now in
    let begun = c.begin-begun.result in
    let read = c.reads_on_by-read.result in
    let same : take (length text - begun) (drop begun text) ≡ drop begun text = take_rest text begun in
    let on = subst (λ ahead. ReadsOnBy c.begin-begun.new.self (take read ahead) c.reads_on_by-read.new.self) same
    c.reads_on_by-read.ensures.on in
    subst (StandsAfter c.reads_on_by-read.new.self)
    (sym (append-nil (take begun text ++ take read (drop begun text))))
    (stands_on_by (take read (drop begun text)) c.begin-begun.new.self c.reads_on_by-read.new.self (take begun text) on
    c.begin-begun.ensures.stands)
