-- A run of a segment: a trace in which every node goes by the rules of a node, and the line by the wired AND.
-- Bosch CAN Specification 2.0, part B, 2 BASIC CONCEPTS, Bus values; ISO 11898-1.
use Rattle.std.specs.Prelude.{◌≡◌, ℕ, ◌+◌, ◌<◌, ◌≤◌, Bool, true, Option, Some, None, List, []}
use Rattle.std.specs.Prelude.{◌∷◌, ◌++◌, length, map, slice_get, option_map, IsSome, if◌then◌else◌}
use Rattle.std.specs.List.{list_all}
use Rattle.can_frame.specs.Frames.{FrameValue}
use Rattle.can_node.specs.Histories.{Past, IsHistory}
use Rattle.can_node.specs.Node.{with_begin, IsWanting, IsSending}
use Rattle.can_station.specs.declared.plan.Talker.{Talker}
use Rattle.can_station.specs.declared.plan.Controller.{Controller}
use Rattle.can_station.specs.declared.plan.SegmentPlan.{SegmentPlan}
use Rattle.can_confinement.specs.declared.counters.Counters.{Counters}
use Rattle.can_confinement.specs.Counters.{StandsAfter as CountersStandAfter}
use Rattle.can_station.specs.declared.event.Event.{Event}
use Rattle.can_station.specs.declared.event.Label.{Label}
use Rattle.can_segment.specs.declared.record.Record.{Record}
use Rattle.can_station.specs.declared.transmission.Transmission.{Transmission}
use Rattle.can_station.specs.Faults.{line_level, sampled_level}
use Rattle.can_segment.specs.Traces.{Act, Bit, with_act, past_of, completed_of, sending_now, sending_of}
use Rattle.can_station.specs.Outcomes.{is_failure}
use Rattle.can_station.specs.Queues.{due_at}
use Rattle.can_segment.specs.Tells.{events_at}

-- a node begins to send only where it wants to start, and the start is the SOF of what it sends then
pub record IsBegun (past : Past) (sent : Transmission) : Type 0 where
  pub wants : IsWanting past true
  pub sends : IsSending (with_begin past sent.frame) (Some sent.start)

-- an act of a node with this past, to which the line shows this level
pub record IsAct (past : Past) (level : Bool) (act : Act) : Type 0 where
  pub history : IsHistory (with_act past (Some act))
  pub samples : act.sampled ≡ level
  pub begins : (sent : Transmission) → act.begun ≡ Some sent → IsBegun past sent

-- a talker that wants to start begins its next frame, where it has one, and no other
pub record IsTalking (next : Option FrameValue) (past : Past) (act : Act) : Type 0 where
  pub wants : Bool
  pub is_wanting : IsWanting past wants
  pub begins : option_map (λ sent. sent.frame) act.begun ≡ (if wants then next else None)
  pub no_label : (sent : Transmission) → act.begun ≡ Some sent → sent.label ≡ None
  pub no_reaping : act.reaped ≡ None

-- a request ends by a failure only where one was sent, and it is that one
pub record IsReaping (sending : Option Transmission) (act : Act) (label : Label) : Type 0 where
  pub sent : Transmission
  pub sends : sending_now sending act.begun ≡ Some sent
  pub is_its_label : sent.label ≡ Some label
  pub fails : is_failure act.outcome ≡ true

-- a controller may begin to send requests of its mailboxes
pub record IsControlling (sending : Option Transmission) (act : Act) : Type 0 where
  pub labelled : (sent : Transmission) → act.begun ≡ Some sent → IsSome sent.label
  pub reaps : (label : Label) → act.reaped ≡ Some label → IsReaping sending act label

-- the level that a node drives at a bit; a node that is not on drives none
abbrev pub drives : Option Act → Bool
drives None = true
drives (Some act) = act.driven

-- a node that is on from a bit on acts by these rules from there on, and does nothing before
pub record ActsAt (plan : SegmentPlan) (on node : ℕ) (Rules : Act → Type 0) (trace : List Bit)
    (bit : Bit) : Type 0 where
  pub before : length trace < on → slice_get bit.acts node ≡ Some None
  pub from_there_on : on ≤ length trace →
      (act : Act) × (slice_get bit.acts node ≡ Some (Some act))
      × IsAct (past_of on node trace) (sampled_level plan.node_faults.items node (length trace) bit.level) act
      × Rules act

-- one more bit of a run
pub record IsBit (plan : SegmentPlan) (trace : List Bit) (bit : Bit) : Type 0 where
  pub still : length trace < plan.bits
  pub each : length bit.acts ≡ length plan.talkers.items + length plan.controllers.items
  pub level_is : bit.level ≡ line_level plan.line_faults.items (length trace) (list_all drives bit.acts)
  pub talkers : (k : ℕ) (talker : Talker) → slice_get plan.talkers.items k ≡ Some talker →
      ActsAt plan talker.on k (λ act. IsTalking (due_at talker.queue.items (completed_of k trace) (length trace))
      (past_of talker.on k trace) act) trace bit
  pub controllers : (k : ℕ) (controller : Controller) → slice_get plan.controllers.items k ≡ Some controller →
      ActsAt plan controller.on (length plan.talkers.items + k)
      (λ act. IsControlling (sending_of (length plan.talkers.items + k) trace) act) trace bit

-- a run so far: its bits, the levels of the line, and what is reported
pub data Run (plan : SegmentPlan) : List Bit → List Bool → List Event → Type 0 where
  no_bit : Run plan [] [] []
  one_more : {trace : List Bit} {levels : List Bool} {events : List Event} (bit : Bit) →
      Run plan trace levels events → IsBit plan trace bit →
      Run plan (trace ++ bit ∷ []) (levels ++ bit.level ∷ []) (events ++ events_at trace bit)

-- the first bit of each node, in their order
abbrev pub firsts : SegmentPlan → List ℕ
firsts plan = map (λ talker. talker.on) plan.talkers.items ++ map (λ controller. controller.on) plan.controllers.items

-- the counters of each node show what its events make of them
abbrev pub Shows : SegmentPlan → List Bit → List Counters → Type 0
Shows plan trace counters = (k on : ℕ) (shown : Counters) → slice_get (firsts plan) k ≡ Some on →
    slice_get counters k ≡ Some shown → CountersStandAfter shown (past_of on k trace).events

-- A record is that of a run of the plan: there is a trace that it tells.
pub record IsRun (plan : SegmentPlan) (record_of : Record) : Type 0 where
  pub trace : List Bit
  pub run : Run plan trace record_of.levels.items record_of.events.items
  pub size : length record_of.counters.items ≡ length (firsts plan)
  pub shows : Shows plan trace record_of.counters.items
