-- Faults of a line and of the nodes on it.
use Rattle.std.specs.Prelude.{ℕ, ◌==◌, ◌&&◌, nat_le, nat_lt, Bool, not, List, fold, if◌then◌else◌}
use Rattle.std.specs.List.{list_any}
use Rattle.can_station.specs.declared.plan.LineFault.{LineFault}
use Rattle.can_station.specs.declared.plan.NodeFault.{NodeFault}

-- a fault from a bit on and before another stands at this bit
abbrev pub stands : ℕ → ℕ → ℕ → Bool
stands from until bit = nat_le from bit && nat_lt bit until

-- the level of the line at a bit at which the nodes make this one: of the faults that stand there the last in
-- the list counts
abbrev pub line_level : List LineFault → ℕ → Bool → Bool
line_level faults bit made =
    fold (λ level fault. if stands fault.bit fault.until bit then fault.level else level) made faults

-- a fault stands at this node and bit
abbrev pub is_inverted : List NodeFault → ℕ → ℕ → Bool
is_inverted faults node bit =
    list_any (λ fault. fault.node == node && stands fault.bit fault.until bit) faults

-- what a node samples at a bit at which the line has this level
abbrev pub sampled_level : List NodeFault → ℕ → ℕ → Bool → Bool
sampled_level faults node bit level = if is_inverted faults node bit then not level else level
