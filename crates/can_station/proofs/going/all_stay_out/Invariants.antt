use Rattle.std.proofs.Common.{ℕ, ◌<◌, ◌≤◌, length, take}
use Rattle.can_station.specs.PlaceSets.{HasPlace}
use Rattle.can_station.proofs.GoingBy.{StaysBeside}
use Rattle.can_station.proofs.PlaceSets.{EachBut}
use Rattle.can_station.proofs.going.all_stay_out.Given as goal

abbrev pub invariant-loop-place : goal.invariant-loop-place
invariant-loop-place l = record {
  few : l.count ≤ length l.levels;
  within : (k : ℕ) → HasPlace l.left k → k < length l.members;
  out : 0 < l.count → EachBut (StaysBeside l.but l.bit (take l.count l.levels)) l.members l.left;
}

abbrev pub decreases-loop-place : goal.decreases-loop-place
decreases-loop-place l = l.left.bits
