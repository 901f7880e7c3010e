use Rattle.std.proofs.Common.{◌≡◌, ◌<◌, ◌≤◌, ℕ, true, Some, length, slice_get}
use Rattle.can_station.proofs.Places.{AtPlacesBelow}
use Rattle.gw_run.specs.Ports.{Site}
use Rattle.gw_run.specs.Sites.{SiteIdles}
use Rattle.gw_run.specs.Worlds.{AllReach}
use Rattle.gw_run.proofs.stretch.all_idle_on.Given as goal

abbrev pub invariant-loop-place : goal.invariant-loop-place
invariant-loop-place l = AtPlacesBelow (λ i. SiteIdles l.until) l.initial.sites l.sites l.place
    × (l.all ≡ true → (i : ℕ) (site : Site) → i < l.place → slice_get l.sites i ≡ Some site →
    l.until ≤ length site.segment.levels)
    × (AllReach l.until l.initial.sites → (i : ℕ) (site : Site) → i < l.place → slice_get l.sites i ≡ Some site →
    l.until ≤ length site.segment.levels)
