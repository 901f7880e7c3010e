-- Bits at which no port is needed: nothing is reported of any node, and no controller wants to start.
use Rattle.std.specs.Prelude.{◌≡◌, ℕ, Bool, true, false, List, [], ◌∷◌, ◌++◌, length}
use Rattle.can_station.specs.declared.current_faults.CurrentFaults.{CurrentFaults}
use Rattle.can_station.specs.declared.member.Member.{Member}
use Rattle.can_station.specs.declared.plan.SegmentPlan.{SegmentPlan}
use Rattle.can_segment.specs.declared.record.Record.{Record}
use Rattle.can_segment.specs.declared.deferred.Deferred.{Deferred}
use Rattle.can_station.specs.CurrentFaults.{IsFaultless, IsCurrent}
use Rattle.can_segment.specs.DeferredState.{IsUneventfulBit}
use Rattle.can_segment.specs.Segments.{SegmentValue, wants_next}

-- A segment makes one more such bit: its record grows by a level alone, and each controller has on the bus what it had.
pub record MakesUneventfulBit (old new : SegmentValue) : Type 0 where
  pub level : Bool
  pub plan_is : new.plan ≡ old.plan
  pub levels_is : new.levels ≡ old.levels ++ level ∷ []
  pub events_is : new.events ≡ old.events
  pub counters_is : new.counters ≡ old.counters
  pub sending_is : new.sending ≡ old.sending
  pub none_wants : (k : ℕ) → wants_next old k ≡ false

-- it makes such bits, or none
pub data MakeUneventfulBits : SegmentValue → SegmentValue → Type 0 where
  no_bit : {segment : SegmentValue} → MakeUneventfulBits segment segment
  one_more : {old mid new : SegmentValue} → MakeUneventfulBits old mid → MakesUneventfulBit mid new → MakeUneventfulBits
      old new

-- A segment makes one more bit of an idle bus: its record grows by a recessive level alone, and each controller has on
-- the bus what it had. One that wants to start begins nothing.
pub record MakesIdleBit (old new : SegmentValue) : Type 0 where
  pub plan_is : new.plan ≡ old.plan
  pub levels_is : new.levels ≡ old.levels ++ true ∷ []
  pub events_is : new.events ≡ old.events
  pub counters_is : new.counters ≡ old.counters
  pub sending_is : new.sending ≡ old.sending

-- it makes such bits, or none
pub data MakeIdleBits : SegmentValue → SegmentValue → Type 0 where
  no_idle_bit : {segment : SegmentValue} → MakeIdleBits segment segment
  one_idle_bit : {old mid new : SegmentValue} → MakesIdleBit old mid → MakeIdleBits mid new → MakeIdleBits old new

-- A record grows by the level of a bit at which nothing is reported of any node, and by nothing else. No fault is at
-- it.
pub record GrowsUneventfully (faults : CurrentFaults) (old new : Record) (deferred after : Deferred)
    (t0 t1 c0 c1 : List Member) : Type 0 where
  pub level : Bool
  pub sends : IsUneventfulBit (length old.levels.items) level deferred after t0 t1 c0 c1
  pub faultless : (plan : SegmentPlan) → IsCurrent plan (length old.levels.items) faults →
      IsFaultless plan (length old.levels.items)
  pub levels_is : new.levels.items ≡ old.levels.items ++ level ∷ []
  pub events_is : new.events ≡ old.events
  pub counters_is : new.counters ≡ old.counters
