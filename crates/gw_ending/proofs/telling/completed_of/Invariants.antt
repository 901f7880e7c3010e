use Rattle.std.proofs.Common.{◌≡◌, take}
use Rattle.bx_core.specs.Stands.{entries_of}
use Rattle.can_segment.specs.Brought.{all_in, sent_in, kinds_of}
use Rattle.gw_ending.proofs.telling.completed_of.Given as goal

abbrev pub invariant-loop-event : goal.invariant-loop-event
invariant-loop-event l =
    l.all.items ≡ entries_of l.route (all_in sent_in (kinds_of l.node (take l.event-index l.events)))
