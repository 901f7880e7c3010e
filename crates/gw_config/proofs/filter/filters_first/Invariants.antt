use Rattle.std.proofs.Common.{◌≡◌, take}
use Rattle.gw_config.specs.Filters.{filters_first}
use Rattle.gw_config.proofs.filter.filters_first.Given as goal

abbrev pub invariant-loop-number : goal.invariant-loop-number
invariant-loop-number l = l.banks ≡ filters_first (take l.number l.filters)
