use Rattle.std.proofs.Common.{arith}
use Rattle.std.proofs.lemmas.Option.{slice_get-get_or}
use Rattle.can_segment.proofs.Shown.{all_below, none_below, one_below}
use Rattle.can_segment.proofs.counts_shown.show_each.Goals as goal

pub loop-place-init : goal.loop-place-init
loop-place-init c = none_below c.args.first c.args.members.now c.args.counters.now.items

pub loop-place-preserved : goal.loop-place-preserved
loop-place-preserved c =
    let members = c.args.members.now in
    let place = c.loop-place.place in
    one_below c.args.first members c.args.counters.now.items c.loop-place.counters.items place _ c.counters.result
    (omega (arith, c.requires.room, c.loop-place-test.true))
    (slice_get-get_or members place c.index-members-place.result (omega (arith, c.loop-place-test.true)))
    c.counters.ensures.is c.loop-place.invariant

pub returns-clause-shown : goal.returns-clause-shown
returns-clause-shown c = all_below c.args.first c.args.members.now c.args.counters.now.items
    c.loop-place.counters.items c.loop-place.place (omega (arith, c.loop-place-test.false)) c.loop-place.invariant
