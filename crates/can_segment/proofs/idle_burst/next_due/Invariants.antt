use Rattle.std.specs.Prelude.{◌≡◌, ◌<◌, ℕ, Some, slice_get}
use Rattle.can_station.specs.declared.member.Member.{Member}
use Rattle.can_station.specs.declared.plan.Talker.{Talker}
use Rattle.can_station.specs.Queues.{IsNotDueBefore}
use Rattle.can_segment.proofs.idle_burst.next_due.Given as goal

abbrev pub invariant-loop-place : goal.invariant-loop-place
invariant-loop-place l = (k : ℕ) (m : Member) (talker : Talker) → k < l.place → slice_get l.talkers k ≡ Some m →
    slice_get l.plan k ≡ Some talker → IsNotDueBefore talker.queue.items m.station.completed l.first
