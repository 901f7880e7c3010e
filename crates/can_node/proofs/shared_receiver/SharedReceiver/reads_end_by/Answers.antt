use Rattle.std.proofs.Common.{rules, refl, sym, subst, take, false, get_or, arith}
use Rattle.std.proofs.lemmas.List.{take_more}
use Rattle.can_node.specs.SharedReceiver.{ReadsAlongBy}
use Rattle.can_node.proofs.SendRuns.{along_more}
use Rattle.can_node.proofs.shared_receiver.SharedReceiver.reads_end_by.Goals as goal

pub loop-place-init : goal.loop-place-init
loop-place-init c = refl

pub loop-place-preserved : goal.loop-place-preserved
loop-place-preserved c =
    let levels = c.args.levels.now in
    let place = c.loop-place.place in
    rw (take_more levels place false c.loop-place-test.true)
    (along_more c.args.self.now c.loop-place.self c.reads_end.new.self (take place levels) (get_or levels place false)
    c.loop-place.invariant (c.reads_end.ensures.along (search rules)))

pub returns-then-not-reads_end-clause-along : goal.returns-then-not-reads_end-clause-along
returns-then-not-reads_end-clause-along c =
    subst (ReadsAlongBy c.args.self.now (take c.loop-place.place c.args.levels.now))
    (sym (c.reads_end.ensures.other c.if-not-reads_end.true)) c.loop-place.invariant

pub returns-clause-along : goal.returns-clause-along
returns-clause-along c =
    subst (λ n. ReadsAlongBy c.args.self.now (take n c.args.levels.now) c.loop-place.self)
    (omega (arith, c.loop-place-test.false, c.loop-place.auto.place-end)) c.loop-place.invariant
