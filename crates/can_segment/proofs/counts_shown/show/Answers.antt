use Rattle.can_segment.proofs.Shown.{shown_end, shown_start}
use Rattle.can_segment.proofs.counts_shown.show.Goals as goal

pub loop-place-init : goal.loop-place-init
loop-place-init c = shown_start c.args.first c.args.members.now c.args.counters.now.items c.args.active
    c.requires.active
    c.requires.any_deferred

pub returns-clause-shown : goal.returns-clause-shown
returns-clause-shown c =
    shown_end c.args.first c.args.members.now c.args.counters.now.items c.loop-place.counters.items c.loop-place.left
    c.in_default.ensures.none.0 c.loop-place.invariant
