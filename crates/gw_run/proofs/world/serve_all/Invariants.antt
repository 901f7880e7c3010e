use Rattle.std.proofs.Common.{◌≡◌, ◌<◌, ℕ, true, Some, slice_get}
use Rattle.can_station.proofs.Places.{AtPlacesBelow}
use Rattle.gw_opening.specs.declared.lane.Lane.{Lane}
use Rattle.gw_run.specs.Lanes.{AskedInVain}
use Rattle.gw_run.specs.Worlds.{WorldHolds, SameSegments, LanesKeep, SitesKeep, CountsByIts, NoneShort}
use Rattle.gw_run.proofs.world.serve_all.Given as goal

abbrev pub invariant-loop-place : goal.invariant-loop-place
invariant-loop-place g l = WorldHolds l.sites l.lanes × SameSegments l.initial.sites l.sites
    × LanesKeep l.initial.lanes l.lanes × SitesKeep l.initial.lanes l.initial.sites l.sites
    × AtPlacesBelow (CountsByIts l.schedules l.tick) l.initial.lanes l.lanes l.place
    × (NoneShort l.initial.sites → NoneShort l.sites)
    × (l.idle ≡ true → (k : ℕ) (lane : Lane) → k < l.place → slice_get l.lanes k ≡ Some lane → AskedInVain lane.hand)
