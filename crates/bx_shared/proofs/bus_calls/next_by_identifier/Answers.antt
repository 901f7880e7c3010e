-- All three keys were read, each since the look.
use Rattle.std.proofs.Common.{◌≡◌, ℕ, ◌<◌, ap, ◌∙◌, arith}
use Rattle.bx_words.specs.Lanes.{mark_of, IsRequested}
use Rattle.bx_words.proofs.Cases.{of_mailboxes}
use Rattle.bx_shared.specs.declared.bus_view.BusView.{BusView}
use Rattle.bx_shared.specs.Steps.{bus_of}
use Rattle.bx_shared.specs.BusSteps.{GoesNext}
use Rattle.bx_shared.proofs.Readying.{if_some_more, goes_least}
use Rattle.bx_shared.proofs.bus_calls.next_by_identifier.Goals as goal

pub returns-clause-next : goal.returns-clause-next
returns-clause-next c =
    let word = c.args.word in
    let d = bus_of c.read_key-third.new.seat.me in
    let seen : BusView → ℕ = λ x. x.seen in
    let first = c.read_key-first in
    let second = c.read_key-second in
    let third = c.read_key-third in
    if_some_more c.least.result _ (λ m. (m < 3) × GoesNext d word m)
    (goes_least d word first.result second.result third.result (ap seen third.ensures.read.is
    ∙ ap seen second.ensures.read.is ∙ ap seen first.ensures.read.is ∙ c.requires.seen) c.requires.counts
    (of_mailboxes (λ j. IsRequested word j → mark_of word j ≡ 3) c.if-is_busy.ensures c.if-is_busy-2.ensures
    c.if-is_busy-3.ensures)
    (λ r. third.ensures.others 0 first.result (λ e. omega arith)
    (second.ensures.others 0 first.result (λ e. omega arith) (first.ensures.key r)))
    (λ r. third.ensures.others 1 second.result (λ e. omega arith) (second.ensures.key r))
    third.ensures.key) c.least.ensures.some
