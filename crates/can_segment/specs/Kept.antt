-- How the nodes of a segment agree with the trace behind which they stand. Private clauses cite it.
use Rattle.std.specs.Prelude.{◌≡◌, Bool, ℕ, ◌+◌, ◌≤◌, max, Some, List, length, slice_get}
use Rattle.can_node.specs.Node.{StandsAfter, bit_of}
use Rattle.can_station.specs.declared.member.Member.{Member}
use Rattle.can_station.specs.declared.plan.Talker.{Talker}
use Rattle.can_station.specs.declared.plan.Controller.{Controller}
use Rattle.can_station.specs.declared.plan.SegmentPlan.{SegmentPlan}
use Rattle.can_station.specs.declared.event.Event.{Event}
use Rattle.can_station.specs.Actions.{no_action}
use Rattle.can_segment.specs.Traces.{Bit, past_of, sending_of, completed_of}
use Rattle.can_segment.specs.Runs.{Run}

-- the node of this place, on from this bit on, stands behind the trace
pub record StandsBehind (on k : ℕ) (trace : List Bit) (member : Member) : Type 0 where
  pub on_is : member.on ≡ on
  pub stands : StandsAfter member.station.node (past_of on k trace)
  pub sending_is : member.station.sending ≡ sending_of k trace
  pub completed_is : member.station.completed ≡ completed_of k trace
  pub bit_is : bit_of member.station.node ≡ max on (length trace)
  pub uneventful : length trace ≤ on → member.action ≡ no_action

-- all nodes of a plan stand behind the trace
pub record SegmentStands (plan : SegmentPlan) (trace : List Bit) (talkers controllers : List Member) : Type 0 where
  pub talkers_size : length talkers ≡ length plan.talkers.items
  pub controllers_size : length controllers ≡ length plan.controllers.items
  pub talkers_stand : (k : ℕ) (talker : Talker) (member : Member) → slice_get plan.talkers.items k ≡ Some talker →
      slice_get talkers k ≡ Some member → StandsBehind talker.on k trace member
  pub controllers_stand : (k : ℕ) (controller : Controller) (member : Member) →
      slice_get plan.controllers.items k ≡ Some controller → slice_get controllers k ≡ Some member →
      StandsBehind controller.on (length plan.talkers.items + k) trace member

-- all nodes stand behind the bits of a run that was recorded so
pub record SegmentKept (plan : SegmentPlan) (levels : List Bool) (events : List Event)
    (talkers controllers : List Member) : Type 0 where
  pub trace : List Bit
  pub run : Run plan trace levels events
  pub stands : SegmentStands plan trace talkers controllers
