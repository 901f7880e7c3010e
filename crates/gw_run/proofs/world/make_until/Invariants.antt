use Rattle.std.proofs.Common.{◌+◌, ◌-◌, ◌<◌, ◌≤◌}
use Rattle.gw_run.specs.Worlds.{AllFull, HaveMade, LanesKeep, NoneShort, NoneTurns, SitesKeep, WorldHolds}
use Rattle.gw_run.proofs.world.make_until.Given as goal

abbrev pub invariant-loop-tick : goal.invariant-loop-tick
invariant-loop-tick g l = record {
  world : WorldHolds l.sites l.lanes;
  made : HaveMade l.bits l.tick l.sites;
  first : l.fn.made + 1 ≤ l.tick;
  last : l.tick ≤ l.until;
  turned : NoneTurns l.fn.lanes l.lanes;
  full : l.fn.made + 1 < l.tick → AllFull l.lanes;
  lanes : LanesKeep l.fn.lanes l.lanes;
  keeps : SitesKeep l.fn.lanes l.fn.sites l.sites;
  short : NoneShort l.fn.sites → NoneShort l.sites;
}

abbrev pub decreases-loop-tick : goal.decreases-loop-tick
decreases-loop-tick g l = l.until - l.tick
