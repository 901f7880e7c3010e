use Rattle.std.specs.Prelude.{◌≡◌, ◌-◌, ◌<◌, ℕ, Some, length, slice_get}
use Rattle.can_station.specs.FaultWindows.{IsWindow}
use Rattle.can_station.proofs.fault_window.FaultWindow.advance.Given as goal

abbrev pub invariant-loop-self : goal.invariant-loop-self
invariant-loop-self l = IsWindow l.bit l.self × (l.self.ranges ≡ l.initial.self.ranges)

abbrev pub decreases-loop-self : goal.decreases-loop-self
decreases-loop-self l = length l.self.ranges.items - l.self.next

abbrev pub invariant-loop-self-2 : goal.invariant-loop-self-2
invariant-loop-self-2 l = record {
  window : IsWindow l.bit l.self;
  ranges : l.self.ranges ≡ l.initial.self.ranges;
  later : (earliest : ℕ) → slice_get l.self.earliest.items l.self.next ≡ Some earliest → l.bit < earliest;
}

abbrev pub decreases-loop-self-2 : goal.decreases-loop-self-2
decreases-loop-self-2 l = l.self.next - l.self.first
