use Rattle.std.proofs.Common.{◌-◌, ◌≤◌, length}
use Rattle.gw_run.specs.Sites.{IsAheadUpTo, SiteMoves}
use Rattle.gw_run.proofs.site.bits_of.Given as goal

abbrev pub invariant-loop-site : goal.invariant-loop-site
invariant-loop-site g l =
    SiteMoves l.initial.site l.site × (length l.site.segment.levels ≤ l.bits) × IsAheadUpTo l.until l.site.segment

abbrev pub decreases-loop-site : goal.decreases-loop-site
decreases-loop-site g l = l.until - length l.site.segment.levels
