use Rattle.std.proofs.Common.{◌≡◌, ◌≤◌, ◌+◌, drop}
use Rattle.std.specs.List.{position_from}
use Rattle.std.specs.Str.{bytes_eq}
use Rattle.gw_config.specs.Controllers.{controller_names, controllers_on}
use Rattle.gw_config.proofs.node_place.controller_on.Given as goal

abbrev pub invariant-loop-controller : goal.invariant-loop-controller
invariant-loop-controller l = record {
  rest : position_from (bytes_eq l.name) l.place
      (controller_names (controllers_on l.segment (drop l.controller-index l.controllers)))
      ≡ position_from (bytes_eq l.name) l.first (controller_names (controllers_on l.segment l.controllers));
  few : l.place ≤ l.first + l.controller-index;
}
