-- What holds of every script that is read: its ranges, that each place which it names is there, and that names and
-- FIFOs are not used twice.
use Rattle.std.specs.Prelude.{◌≡◌, ◌≢◌, ℕ, ◌+◌, ◌-◌, ◌*◌, ◌<◌, ◌≤◌, IfSome, List, ◌++◌, length, AllPairs}
use Rattle.bx_core.specs.Lists.{Each}
use Rattle.gw_config.specs.declared.planned_fault.PlannedFault.{PlannedFault}
use Rattle.gw_config.specs.declared.planned_fault.PlannedFault.TheVariants.{AtNode, OnLine}
use Rattle.gw_config.specs.declared.pace.Pace.{Pace}
use Rattle.gw_config.specs.declared.planned_abort.PlannedAbort.{PlannedAbort}
use Rattle.gw_config.specs.Messages.{MessageValue, instances_of}
use Rattle.gw_config.specs.Talkers.{TalkerValue}
use Rattle.gw_config.specs.Segments.{SegmentValue, segment_names, all_talker_names}
use Rattle.gw_config.specs.Controllers.{ControllerValue, controller_names}
use Rattle.gw_config.specs.Routes.{RouteValue, routes_into, route_names}
use Rattle.gw_config.specs.Scripts.{ScriptValue}
use Rattle.gw_config.specs.Nodes.{names_of_nodes}

-- it has at least one instance, and all of its instances are due within the run
pub record IsMessageIn (bits : ℕ) (m : MessageValue) : Type 0 where
  pub some : 1 ≤ m.count
  pub first : m.at < bits
  pub last : m.at + (m.count - 1) * m.every < bits
  pub few : m.every ≤ 100000000

-- it is switched on within the run, its messages are due within the run, and they have at most 1,000,000 instances
pub record IsTalkerIn (bits : ℕ) (t : TalkerValue) : Type 0 where
  pub on : t.on < bits
  pub messages : Each (IsMessageIn bits) t.messages
  pub few : instances_of t.messages ≤ 1000000

abbrev pub IsSegmentIn : ℕ → SegmentValue → Type 0
IsSegmentIn bits s = Each (IsTalkerIn bits) s.talkers

-- it is switched on within the run, and its segment is there
abbrev pub IsControllerIn : ℕ → List SegmentValue → ControllerValue → Type 0
IsControllerIn bits segments c = (c.on < bits) × (c.segment < length segments)

-- turns are made behind every tick to behind every millionth one, 1 to 1,000 of them
abbrev pub IsPaceIn : Pace → Type 0
IsPaceIn p = IfSome p.every (λ ticks. (1 ≤ ticks) × (ticks ≤ 1000000)) × (1 ≤ p.burst) × (p.burst ≤ 1000)

-- its controllers are there, there are two FIFOs, and a queue has room for 1 to 1,024 frames
abbrev pub IsRouteIn : List ControllerValue → RouteValue → Type 0
IsRouteIn controllers r = (r.source < length controllers) × (r.fifo ≤ 1) × (r.target < length controllers)
    × IsPaceIn r.pace × IfSome r.queue (λ size. (1 ≤ size) × (size ≤ 1024))

-- it begins at a bit of the run, lasts at least one bit, and ends with the run at the latest
abbrev pub LastsIn : ℕ → ℕ → ℕ → Type 0
LastsIn bits bit until = (bit < bits) × (bit < until) × (until ≤ bits)

-- its segment is there, and its bits are within the run
abbrev pub IsFaultIn : ℕ → List SegmentValue → PlannedFault → Type 0
IsFaultIn bits segments (AtNode node bit until) = (node.segment < length segments) × LastsIn bits bit until
IsFaultIn bits segments (OnLine segment bit until level) = (segment < length segments) × LastsIn bits bit until

-- its route is there, and numbers and turns are counted from 1
abbrev pub IsAbortIn : List RouteValue → PlannedAbort → Type 0
IsAbortIn routes a = (a.route < length routes) × (1 ≤ a.number) × (a.number ≤ 16777215) × (1 ≤ a.turn)
    × (a.turn ≤ 1000000)

-- it has at most 10,000 messages
abbrev pub HasFewMessages : TalkerValue → Type 0
HasFewMessages t = length t.messages ≤ 10000

-- the node is one of its segment's
abbrev pub IsAtNode : ScriptValue → PlannedFault → Type 0
IsAtNode s (AtNode node bit until) = node.place < length (names_of_nodes s node.segment)
IsAtNode s (OnLine segment bit until level) = Unit {0}

-- they don't take from the same FIFO
abbrev pub TakesElsewhere : RouteValue → RouteValue → Type 0
TakesElsewhere r q = ¬ ((r.source ≡ q.source) × (r.fifo ≡ q.fifo))

-- no name stands twice
abbrev pub AreApart : List (List ℕ) → Type 0
AreApart names = AllPairs (λ name later. name ≢ later) names

pub record IsSound (s : ScriptValue) : Type 0 where
  pub some_bits : 1 ≤ s.bits
  pub few_bits : s.bits ≤ 100000000
  pub some_segments : 1 ≤ length s.segments
  pub few_segments : length s.segments ≤ 8
  pub few_controllers : length s.controllers ≤ 16
  pub few_routes : length s.routes ≤ 16
  pub few_faults : length s.faults ≤ 10000
  pub few_aborts : length s.aborts ≤ 1000
  pub segments : Each (IsSegmentIn s.bits) s.segments
  pub controllers : Each (IsControllerIn s.bits s.segments) s.controllers
  pub routes : Each (IsRouteIn s.controllers) s.routes
  pub faults : Each (IsFaultIn s.bits s.segments) s.faults
  pub aborts : Each (IsAbortIn s.routes) s.aborts
  pub few_nodes : (segment : ℕ) → segment < length s.segments → length (names_of_nodes s segment) ≤ 64
  pub few_into : (controller : ℕ) → routes_into controller s.routes ≤ 8
  pub few_messages : Each (λ (segment : SegmentValue). Each HasFewMessages segment.talkers) s.segments
  pub own_fifos : AllPairs TakesElsewhere s.routes
  pub fault_nodes : Each (IsAtNode s) s.faults
  pub segment_names : AreApart (segment_names s.segments)
  pub node_names : AreApart (all_talker_names s.segments ++ controller_names s.controllers)
  pub route_names : AreApart (route_names s.routes)
