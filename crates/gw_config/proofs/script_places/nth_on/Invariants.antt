use Rattle.std.proofs.Common.{◌≡◌, ◌==◌, drop, slice_get}
use Rattle.gw_config.specs.Controllers.{ControllerValue, controllers_on}
use Rattle.gw_config.specs.Nodes.{places_where}
use Rattle.gw_config.proofs.script_places.nth_on.Given as goal

abbrev pub invariant-loop-place : goal.invariant-loop-place
invariant-loop-place l = record {
  value : slice_get (places_where (λ (c : ControllerValue). c.segment == l.segment) l.place
      (drop l.place l.controllers)) l.left
      ≡ slice_get (places_where (λ (c : ControllerValue). c.segment == l.segment) 0 l.controllers) l.nth;
  controller : slice_get (controllers_on l.segment (drop l.place l.controllers)) l.left
      ≡ slice_get (controllers_on l.segment l.controllers) l.nth;
}
