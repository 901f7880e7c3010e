-- What a script says of a segment and of a route, as the plan of a run.
use Rattle.std.specs.Prelude.{◌≡◌, ℕ, ◌<◌, ◌==◌, Option, Some, None, slice_get, List, filter_map, if◌then◌else◌}
use Rattle.can_station.specs.declared.plan.Talker.{Talker}
use Rattle.can_station.specs.declared.plan.Controller.{Controller}
use Rattle.can_station.specs.declared.plan.NodeFault.{NodeFault}
use Rattle.can_station.specs.declared.plan.LineFault.{LineFault}
use Rattle.can_station.specs.declared.plan.SegmentPlan.{SegmentPlan}
use Rattle.gw_config.specs.declared.planned_fault.PlannedFault.{PlannedFault}
use Rattle.gw_config.specs.declared.planned_fault.PlannedFault.TheVariants.{AtNode, OnLine}
use Rattle.gw_config.specs.declared.planned_abort.PlannedAbort.{PlannedAbort}
use Rattle.gw_route.specs.declared.route_abort.RouteAbort.{RouteAbort}
use Rattle.gw_config.specs.Talkers.{TalkerValue}
use Rattle.gw_config.specs.Controllers.{ControllerValue, controllers_on}
use Rattle.gw_config.specs.Scripts.{ScriptValue}
use Rattle.gw_config.specs.Nodes.{talkers_on}
use Rattle.gw_site.specs.Pairs.{Pairs}
use Rattle.gw_opening.specs.Queues.{IsQueueOf}

-- the place of its node fits 32 bits
abbrev pub IsSmall : PlannedFault → Type 0
IsSmall (AtNode node bit until) = node.place < 4294967296
IsSmall (OnLine place bit until level) = Unit {0}

-- a fault at a node of this segment
abbrev pub node_fault_in : ℕ → PlannedFault → Option NodeFault
node_fault_in segment (AtNode node bit until) =
    if node.segment == segment then Some (record { node = node.place; bit = bit; until = until }) else None
node_fault_in segment (OnLine place bit until level) = None

-- a fault on the line of this segment
abbrev pub line_fault_in : ℕ → PlannedFault → Option LineFault
line_fault_in segment (AtNode node bit until) = None
line_fault_in segment (OnLine place bit until level) =
    if place == segment then Some (record { bit = bit; until = until; level = level }) else None

-- a talker is switched on and sends as the script says
pub record IsTalkerOf (said : TalkerValue) (talker : Talker) : Type 0 where
  pub on_is : talker.on ≡ said.on
  pub queue_is : IsQueueOf said.messages talker.queue.items

-- a controller is switched on as the script says
abbrev pub IsControllerOf : ControllerValue → Controller → Type 0
IsControllerOf said controller = controller.on ≡ said.on

-- the plan of the segment at this place: all the script's bits, its talkers, the controllers on it, and its faults,
-- each in the order of the script
pub record IsPlanOf (s : ScriptValue) (segment : ℕ) (plan : SegmentPlan) : Type 0 where
  pub bits_is : plan.bits ≡ s.bits
  pub talkers : Pairs (λ k. IsTalkerOf) (talkers_on (slice_get s.segments segment)) plan.talkers.items
  pub controllers : Pairs (λ k. IsControllerOf) (controllers_on segment s.controllers) plan.controllers.items
  pub node_faults : plan.node_faults.items ≡ filter_map (node_fault_in segment) s.faults
  pub line_faults : plan.line_faults.items ≡ filter_map (line_fault_in segment) s.faults

-- an abort of this route
abbrev pub abort_in : ℕ → PlannedAbort → Option RouteAbort
abort_in route abort = if abort.route == route then Some (record { number = abort.number; turn = abort.turn }) else None

-- the aborts of a route, in the order of the script
abbrev pub aborts_of : ScriptValue → ℕ → List RouteAbort
aborts_of s route = filter_map (abort_in route) s.aborts
