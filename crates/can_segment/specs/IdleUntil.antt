-- Until when the bus of a segment idles.
use Rattle.std.specs.Prelude.{ℕ, ◌+◌, ◌<◌, ◌≤◌, List}
use Rattle.can_station.specs.declared.current_faults.CurrentFaults.{CurrentFaults}
use Rattle.can_station.specs.declared.member.Member.{Member}
use Rattle.can_station.specs.declared.plan.SegmentPlan.{SegmentPlan}
use Rattle.can_station.specs.CurrentFaults.{IsFaultless, IsCurrent}
use Rattle.can_segment.specs.declared.deferred.Deferred.{Deferred}
use Rattle.can_segment.specs.declared.record.Record.{Record}
use Rattle.can_segment.specs.DeferredState.{AreIdle}

-- no fault of a plan stands before this bit, so that the current faults need no look-up up to it
abbrev pub FaultlessUntil : SegmentPlan → CurrentFaults → ℕ → Type 0
FaultlessUntil plan faults until = (bit : ℕ) → bit < until → IsCurrent plan bit faults →
    IsFaultless plan bit × IsCurrent plan (bit + 1) faults

-- Before this bit the bus idles as long as no controller is given a request: all nodes are deferred on an idle bus, no
-- talker has a frame that is due, and no fault stands. The plan has these bits, and the record has room for their
-- levels.
pub record IdlesUntil (until : ℕ) (plan : SegmentPlan) (made : Record) (faults : CurrentFaults) (deferred : Deferred)
    (talkers controllers : List Member) : Type 0 where
  pub idle : AreIdle deferred until plan.talkers.items talkers controllers
  pub faultless : FaultlessUntil plan faults until
  pub within : until ≤ plan.bits
  pub room : until ≤ made.levels.capacity
