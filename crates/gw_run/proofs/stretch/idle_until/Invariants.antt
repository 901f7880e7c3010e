use Rattle.std.proofs.Common.{◌+◌, ◌-◌, ◌≤◌}
use Rattle.can_station.specs.Places.{AtPlaces}
use Rattle.gw_run.specs.Sites.{SiteIdles}
use Rattle.gw_run.specs.Worlds.{AreFar}
use Rattle.gw_run.proofs.stretch.idle_until.Given as goal

abbrev pub invariant-loop-made : goal.invariant-loop-made
invariant-loop-made l = AtPlaces (λ i. SiteIdles (l.made + 1)) l.initial.sites l.sites × (l.initial.made ≤ l.made)
    × (l.made ≤ l.last) × AreFar l.made l.sites

abbrev pub decreases-loop-made : goal.decreases-loop-made
decreases-loop-made l = l.last - l.made
