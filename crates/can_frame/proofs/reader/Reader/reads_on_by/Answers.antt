use Rattle.std.proofs.Common.{rules, refl, sym, subst, take, false, get_or, arith, ap, ◌∙◌}
use Rattle.std.proofs.lemmas.List.{take_more}
use Rattle.can_frame.specs.Reading.{GoesOnWith, GoesOnWithAll, ReadsOnBy, read_behind}
use Rattle.can_frame.proofs.ReaderLaws.{reads_on_by-more}
use Rattle.can_frame.proofs.ReadingOn.{goes_on-more, read_behind-more}
use Rattle.can_frame.proofs.reader.Reader.reads_on_by.Goals as goal

pub loop-place-init : goal.loop-place-init
loop-place-init c = record { on = refl; goes = tt; value = refl }

pub loop-place-preserved : goal.loop-place-preserved
loop-place-preserved c =
    let old = c.args.self.now in
    let levels = c.args.levels.now in
    let place = c.loop-place.place in
    let level = get_or levels place false in
    let so_far = take place levels in
    let is = c.loop-place.invariant.value in
    let goes = c.reads_on.ensures.goes (search rules) in
    let more = take_more levels place false c.loop-place-test.true in
    record {
      on = rw more (reads_on_by-more old c.loop-place.self c.reads_on.new.self so_far level c.loop-place.invariant.on
          (c.reads_on.ensures.on (search rules)));
      goes = rw more (goes_on-more old so_far level c.loop-place.invariant.goes (subst (GoesOnWith level) is goes.0));
      value = rw more (goes.1 ∙ ap (λ r. read_behind r level) is ∙ sym (read_behind-more old so_far level));
    }

pub returns-then-not-reads_on-clause-on : goal.returns-then-not-reads_on-clause-on
returns-then-not-reads_on-clause-on c =
    subst (ReadsOnBy c.args.self.now (take c.loop-place.place c.args.levels.now))
    (sym (c.reads_on.ensures.other c.if-not-reads_on.true)) c.loop-place.invariant.on

pub returns-then-not-reads_on-clause-goes : goal.returns-then-not-reads_on-clause-goes
returns-then-not-reads_on-clause-goes c = c.loop-place.invariant.goes

pub returns-then-not-reads_on-clause-ends : goal.returns-then-not-reads_on-clause-ends
returns-then-not-reads_on-clause-ends c within goes =
    c.reads_on.ensures.ends c.if-not-reads_on.true
    (subst (GoesOnWith (get_or c.args.levels.now c.loop-place.place false)) (sym c.loop-place.invariant.value) goes)

pub returns-clause-on : goal.returns-clause-on
returns-clause-on c =
    subst (λ n. ReadsOnBy c.args.self.now (take n c.args.levels.now) c.loop-place.self)
    (omega (arith, c.loop-place-test.false, c.loop-place.auto.place-end)) c.loop-place.invariant.on

pub returns-clause-goes : goal.returns-clause-goes
returns-clause-goes c =
    subst (λ n. GoesOnWithAll c.args.self.now (take n c.args.levels.now))
    (omega (arith, c.loop-place-test.false, c.loop-place.auto.place-end)) c.loop-place.invariant.goes
