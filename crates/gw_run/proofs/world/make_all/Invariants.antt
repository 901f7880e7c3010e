use Rattle.std.proofs.Common.{◌≡◌, ◌-◌, ◌≤◌, true, false}
use Rattle.gw_run.specs.Worlds.{AllAskedInVain, WorldHolds, HaveMade, LanesKeep, SitesKeep, HaveTurned, NoneQueues, NoneShort}
use Rattle.gw_run.proofs.world.make_all.Given as goal

abbrev pub invariant-loop-made : goal.invariant-loop-made
invariant-loop-made g l = WorldHolds l.sites l.lanes × HaveMade l.bits l.made l.sites
    × LanesKeep l.initial.lanes l.lanes × SitesKeep l.initial.lanes l.initial.sites l.sites
    × HaveTurned l.schedules l.made l.lanes × (NoneShort l.initial.sites → NoneShort l.sites) × (l.made ≤ l.bits)
    × (l.idle ≡ true → AllAskedInVain l.lanes) × (l.queues ≡ false → NoneQueues l.lanes)

abbrev pub decreases-loop-made : goal.decreases-loop-made
decreases-loop-made g l = l.bits - l.made
