-- What a node does at a bit of its segment.
use Rattle.std.specs.Prelude.{◌≡◌, ℕ, ◌+◌, ◌<◌, ◌≤◌, Bool, true, false, nat_le, Option}
use Rattle.std.specs.Prelude.{Some, None, IfSome, List, [], ◌++◌, slice_get, ◌&&◌, if◌then◌else◌}
use Rattle.can_frame.specs.Frames.{FrameValue}
use Rattle.can_node.specs.Histories.{Past, IsHistory}
use Rattle.can_confinement.specs.declared.counters.Counters.{Counters}
use Rattle.can_node.specs.Node.{counters_in, StandsAfter, IsSample, bit_of, driven_by, may_begin}
use Rattle.can_node.specs.declared.outcome.Outcome.TheVariants.{Nothing}
use Rattle.bx_core.specs.TxBus.{Item, BusPast, BusCall}
use Rattle.can_station.specs.declared.action.Action.{Action}
use Rattle.can_station.specs.declared.member.Member.{Member}
use Rattle.can_station.specs.declared.plan.NodeFault.{NodeFault}
use Rattle.can_station.specs.declared.transmission.Transmission.{Transmission}
use Rattle.can_station.specs.declared.plan.Talker.{Talker}
use Rattle.can_station.specs.Faults.{sampled_level}
use Rattle.can_station.specs.Ports.{item_of, Undone, Asks, started, started_item, settled, taken_by, Reaps}
use Rattle.can_station.specs.declared.due_frame.DueFrame.{DueFrame}
use Rattle.can_station.specs.Queues.{due_at}
use Rattle.can_station.specs.Stations.{IsTalk, IsRequest}
use Rattle.can_station.specs.Actions.{Names}
use Rattle.can_station.specs.Outcomes.{sending_after, completed_by}

-- it is on at this bit
abbrev pub is_on : ℕ → Member → Bool
is_on bit member = nat_le member.on bit

-- it is on and wants to start at this bit
abbrev pub wants_at : ℕ → Member → Bool
wants_at bit member = is_on bit member && may_begin member.station.node

-- a talker at the start of a bit
pub record StartsTalking (bit : ℕ) (old new : Member) (queue : List DueFrame) : Type 0 where
  pub off : bit < old.on → new ≡ old
  pub on_is : new.on ≡ old.on
  pub talks : old.on ≤ bit →
      IsTalk old.station new.station (due_at queue old.station.completed bit) new.action.began

-- a controller at the start of a bit
pub record StartsRequest (bit : ℕ) (old new : Member) : Type 0 where
  pub off : bit < old.on → new ≡ old
  pub on_is : new.on ≡ old.on
  pub requests : old.on ≤ bit → IsRequest old.station new.station new.action.began

-- the level that it drives at a bit
abbrev pub drives_at : ℕ → Member → Bool
drives_at bit member = if is_on bit member then driven_by member.station.node else true

-- it samples a level
pub record SamplesOn (level : Bool) (old new : Member) : Type 0 where
  pub began_is : new.action.began ≡ old.action.began
  pub names : Names new.action old.station.sending
  pub stands : IsSample old.station.node level new.action.outcome new.station.node
  pub history : (past : Past) → StandsAfter new.station.node past → IsHistory past
  pub sending_is : new.station.sending ≡ sending_after old.station.sending new.action.outcome
  pub completed_is : new.station.completed ≡ old.station.completed + completed_by new.action.outcome
  pub bit_is : bit_of new.station.node ≡ bit_of old.station.node + 1

pub record Samples (bit : ℕ) (level : Bool) (old new : Member) : Type 0 where
  pub off : bit < old.on → new ≡ old
  pub on_is : new.on ≡ old.on
  pub samples : old.on ≤ bit → SamplesOn level old new
  pub reaps_none : old.on ≤ bit → new.action.reaped ≡ None

-- What became of a node at a bit has not come to its port, which transmits what the node sent.
pub record IsUnsettled (transmits : Option Item) (bit : ℕ) (member : Member) : Type 0 where
  pub sent : Option Transmission
  pub transmits_is : transmits ≡ item_of sent
  pub off : bit < member.on → member.station.sending ≡ sent
  pub names : member.on ≤ bit → Names member.action sent
  pub sending_is : member.on ≤ bit → member.station.sending ≡ sending_after sent member.action.outcome
  pub none_yet : member.on ≤ bit → member.action.reaped ≡ None

-- it comes to its port, and a request that failed may have been reaped
pub record Settles (bit : ℕ) (old new : Member) : Type 0 where
  pub off : bit < old.on → new ≡ old
  pub uneventful : old.action.outcome ≡ Nothing → new ≡ old
  pub on_is : new.on ≡ old.on
  pub station_is : new.station ≡ old.station
  pub began_is : new.action.began ≡ old.action.began
  pub sent_is : new.action.sent ≡ old.action.sent
  pub outcome_is : new.action.outcome ≡ old.action.outcome
  pub reaps : old.on ≤ bit → IfSome new.action.reaped (λ label. Reaps new.action.sent new.action.outcome label)

-- a controller does so, and a request that failed may have been reaped
pub record SamplesAndSettles (bit : ℕ) (level : Bool) (old new : Member) : Type 0 where
  pub off : bit < old.on → new ≡ old
  pub on_is : new.on ≡ old.on
  pub samples : old.on ≤ bit → SamplesOn level old new
  pub reaps : old.on ≤ bit → IfSome new.action.reaped (λ label. Reaps new.action.sent new.action.outcome label)

-- the past of its bus side behind a bit
abbrev pub settled_at : Bool → BusPast → Action → BusPast
settled_at true past action = settled past (item_of action.sent) action.outcome action.reaped
settled_at false past action = past

-- what its sink was offered at a bit
abbrev pub taken_at : Bool → Action → List FrameValue
taken_at true action = taken_by action.outcome
taken_at false action = []

-- each node samples what its faults make of the level of the line; the first of them has this number
abbrev pub NodeSamples : ℕ → ℕ → Bool → List NodeFault → ℕ → Member → Member → Type 0
NodeSamples first bit level faults k old new = Samples bit (sampled_level faults (first + k) bit level) old new

-- what each talker does at the start of a bit
abbrev pub TalkerStarts : ℕ → List Talker → ℕ → Member → Member → Type 0
TalkerStarts bit talkers k old new = (talker : Talker) → slice_get talkers k ≡ Some talker →
    StartsTalking bit old new talker.queue.items

-- each talker samples what its faults make of the level of the line
abbrev pub TalkerSamples : ℕ → Bool → List NodeFault → ℕ → Member → Member → Type 0
TalkerSamples bit level faults k old new = Samples bit (sampled_level faults k bit level) old new

-- what each controller and its port do at the start of a bit
pub record PortStarts {P : Type 0} (after : P → BusPast → Type 0) (asked : P → List BusCall → Type 0)
    (transmitting : P → Option Item) (stays : P → P → Type 0) (bit : ℕ) (old new : Member) (from to : P) : Type 0 where
  pub member : StartsRequest bit old new
  pub bus : (past : BusPast) → after from past →
      after to (started past (started_item (is_on bit new && new.action.began) new.station.sending))
  pub undone : (past : BusPast) → after from past →
      Undone past (started_item (is_on bit new && new.action.began) new.station.sending)
  pub asks : Asks asked (wants_at bit old) (started_item (is_on bit new && new.action.began) new.station.sending) from
      to
  pub transmits : transmitting to ≡ item_of new.station.sending
  pub stays_on : stays from to

-- and behind it, when the node has sampled
pub record PortSettled {P : Type 0} (after : P → BusPast → Type 0) (asked : P → List BusCall → Type 0)
    (transmitting : P → Option Item) (sink : P → List FrameValue → Type 0) (stays : P → P → Type 0)
    (bit : ℕ) (old new : Member) (from to : P) : Type 0 where
  pub member : Settles bit old new
  pub bus : (past : BusPast) → after from past → after to (settled_at (is_on bit old) past new.action)
  pub asks_none : (calls : List BusCall) → asked from calls → asked to calls
  pub transmits : transmitting to ≡ item_of new.station.sending
  pub offers : (past : List FrameValue) → sink from past → sink to (past ++ taken_at (is_on bit old) new.action)
  pub stays_on : stays from to

-- both in one
pub record PortSettles {P : Type 0} (after : P → BusPast → Type 0) (asked : P → List BusCall → Type 0)
    (transmitting : P → Option Item) (sink : P → List FrameValue → Type 0) (stays : P → P → Type 0)
    (bit : ℕ) (level : Bool) (old new : Member) (from to : P) : Type 0 where
  pub member : SamplesAndSettles bit level old new
  pub bus : (past : BusPast) → after from past → after to (settled_at (is_on bit old) past new.action)
  pub asks_none : (calls : List BusCall) → asked from calls → asked to calls
  pub transmits : transmitting to ≡ item_of new.station.sending
  pub offers : (past : List FrameValue) → sink from past → sink to (past ++ taken_at (is_on bit old) new.action)
  pub stays_on : stays from to

-- counters show those of a node
abbrev pub AreOf : Member → Counters → Type 0
AreOf member counters = counters ≡ counters_in member.station.node
