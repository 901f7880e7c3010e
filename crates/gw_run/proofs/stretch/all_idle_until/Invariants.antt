use Rattle.std.proofs.Common.{◌≡◌, ◌<◌, ◌≤◌, ℕ, Some, slice_get}
use Rattle.gw_run.specs.Ports.{Site}
use Rattle.gw_run.specs.Sites.{Reaches}
use Rattle.gw_run.specs.Worlds.{AreFar}
use Rattle.gw_run.proofs.stretch.all_idle_until.Given as goal

abbrev pub invariant-loop-site : goal.invariant-loop-site
invariant-loop-site l = ((i : ℕ) (site : Site) → i < l.site-index → slice_get l.sites i ≡ Some site → Reaches l.until
    site) × (l.until ≤ l.last) × ((made : ℕ) → made ≤ l.last → AreFar made l.sites → made ≤ l.until)
