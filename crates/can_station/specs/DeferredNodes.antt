-- Lists of nodes of which some are deferred: a shared receiver is simulated for them (can_segment's src/deferred.rt).
use Rattle.std.specs.Prelude.{◌≡◌, ◌≢◌, ◌⊎◌, ℕ, ◌+◌, ◌≤◌, ◌<◌, Bool, true, false}
use Rattle.std.specs.Prelude.{Option, None, Some, List, [], ◌∷◌, length, slice_get, if◌then◌else◌}
use Rattle.bx_core.specs.TxBus.{Item}
use Rattle.can_confinement.specs.KnownCounts.{Knows}
use Rattle.can_confinement.specs.declared.known_counts.KnownCounts.{KnownCounts}
use Rattle.can_node.specs.Histories.{Past, IsHistory}
use Rattle.can_node.specs.SharedReceiver.{AllShare, Receives, Matches, materialized as materialized_node}
use Rattle.can_node.specs.Node.{IsSample, StandsAfter, bit_of, counters_in, may_begin}
use Rattle.can_node.specs.declared.outcome.Outcome.TheVariants.{Nothing}
use Rattle.can_node.specs.declared.shared_sample.SharedSample.{SharedSample}
use Rattle.can_node.specs.PlainBits.{MayGoOn, MayGoOnBy}
use Rattle.can_node.specs.declared.shared_receiver.SharedReceiver.{SharedReceiver}
use Rattle.can_station.specs.declared.member.Member.{Member}
use Rattle.can_station.specs.declared.plan.NodeFault.{NodeFault}
use Rattle.can_station.specs.declared.plan.Talker.{Talker}
use Rattle.can_station.specs.declared.place_set.PlaceSet.{PlaceSet}
use Rattle.can_station.specs.Faults.{is_inverted}
use Rattle.can_station.specs.Actions.{IsUneventful, no_action}
use Rattle.can_station.specs.Members.{Samples, drives_at}
use Rattle.can_station.specs.Places.{AtPlaces}
use Rattle.can_station.specs.PlaceSets.{HasPlace}
use Rattle.can_station.specs.Ports.{item_of}
use Rattle.can_station.specs.Queues.{IsNotDueBefore}

-- the node with the state of its shared receiver copied into it before this bit
abbrev pub materialized_member : SharedReceiver → ℕ → Member → Member
materialized_member shared_receiver bit member = record {
  on = member.on;
  is_deferred = false;
  station = record {
    node = materialized_node member.station.node shared_receiver bit;
    sending = member.station.sending;
    completed = member.station.completed;
  };
  action = member.action;
}

-- The node that contracts speak of before this bit: a deferred node with the state of the shared receiver copied into
-- it, any other node as it is.
abbrev pub resumed : SharedReceiver → ℕ → Member → Member
resumed shared_receiver bit member = record {
  on = member.on;
  is_deferred = false;
  station = record {
    node = if member.is_deferred then materialized_node member.station.node shared_receiver bit else
        member.station.node;
    sending = member.station.sending;
    completed = member.station.completed;
  };
  action = member.action;
}

-- A node that was deferred up to this bit has sampled this level as each does that its shared receiver stands for, and
-- is active; any other node is as it was.
pub record Shares (shared : SharedSample) (bit : ℕ) (level : Bool) (old new : Member) : Type 0 where
  pub was_active : old.is_deferred ≡ false → new ≡ old
  pub resumes : new.is_deferred ≡ false
  pub samples : old.is_deferred ≡ true → old.on ≤ bit → IsUneventful old.action → (shared_receiver : SharedReceiver) →
      AllShare shared_receiver level shared → Samples bit level (materialized_member shared_receiver bit old) new

-- nothing is reported of the node if it was deferred
abbrev pub TellsNone : Member → Member → Type 0
TellsNone old new = old.is_deferred ≡ true → IsUneventful new.action

-- a deferred node has counted that it received a frame, and stays deferred; any other node is as it was
pub record CountsReceived (old new : Member) : Type 0 where
  pub was_active : old.is_deferred ≡ false → new ≡ old
  pub stays_deferred : new.is_deferred ≡ old.is_deferred
  pub on_is : new.on ≡ old.on
  pub action_is : new.action ≡ old.action
  pub sending_is : new.station.sending ≡ old.station.sending
  pub completed_is : new.station.completed ≡ old.station.completed
  pub receives : old.is_deferred ≡ true → Receives old.station.node new.station.node

-- `known` says what is known of the node's error counters if it is deferred
abbrev pub KnowsDeferred : KnownCounts → Member → Member → Type 0
KnowsDeferred known old new = new.is_deferred ≡ true → Knows known (counters_in new.station.node)

-- a step of an active node, which stays active; a deferred node is as it was
pub record IfActive (Step : Member → Member → Type 0) (old new : Member) : Type 0 where
  pub stays_deferred : old.is_deferred ≡ true → new ≡ old
  pub stays_active : old.is_deferred ≡ false → new.is_deferred ≡ false
  pub steps : old.is_deferred ≡ false → Step old new

-- the same of a node and its port
pub record IfActiveBoth {P : Type 0} (Step : Member → Member → P → P → Type 0) (old new : Member)
    (from to : P) : Type 0 where
  pub stays_deferred : old.is_deferred ≡ true → (new ≡ old) × (to ≡ from)
  pub stays_active : old.is_deferred ≡ false → new.is_deferred ≡ false
  pub steps : old.is_deferred ≡ false → Step old new from to

-- none of these nodes is deferred
abbrev pub NoneDeferred : List Member → Type 0
NoneDeferred members = (k : ℕ) (m : Member) → slice_get members k ≡ Some m → m.is_deferred ≡ false

-- all active nodes of the list have their indices in the set
pub record ActiveWithin (set : PlaceSet) (members : List Member) : Type 0 where
  pub within : (k : ℕ) → HasPlace set k → k < length members
  pub has : (k : ℕ) (m : Member) → slice_get members k ≡ Some m → m.is_deferred ≡ false → HasPlace set k

-- the node is as it was, or was resumed
abbrev pub MayResume : SharedReceiver → ℕ → Member → Member → Type 0
MayResume shared_receiver bit old new = (new ≡ old) ⊎ (new ≡ resumed shared_receiver bit old)

-- the node may have been resumed before this bit; where it stays deferred, it is a talker with no frame due before
-- `limit`
pub record ResumesDue (shared_receiver : SharedReceiver) (bit limit : ℕ) (talkers : List Talker) (k : ℕ)
    (old new : Member) : Type 0 where
  pub resumes : MayResume shared_receiver bit old new
  pub not_due : new.is_deferred ≡ true → (talker : Talker) → slice_get talkers k ≡ Some talker →
      IsNotDueBefore talker.queue.items new.station.completed limit

-- the node may have been resumed; where it stays deferred, it has no fault of its own at this bit
pub record ResumesFaulted (shared_receiver : SharedReceiver) (bit : ℕ) (faults : List NodeFault) (first k : ℕ)
    (old new : Member) : Type 0 where
  pub resumes : MayResume shared_receiver bit old new
  pub unfaulted : new.is_deferred ≡ true → is_inverted faults (first + k) bit ≡ false

-- the deferred nodes of a list, the first of which has this number, have no fault of their own at this bit
abbrev pub Unfaulted : List NodeFault → ℕ → ℕ → List Member → Type 0
Unfaulted faults first bit members = (k : ℕ) (m : Member) → slice_get members k ≡ Some m → m.is_deferred ≡ true →
    is_inverted faults (first + k) bit ≡ false

-- the nodes that are deferred were deferred before, and are as they were
abbrev pub LeavesDeferred : List Member → List Member → Type 0
LeavesDeferred old new = (k : ℕ) (m : Member) → slice_get new k ≡ Some m → m.is_deferred ≡ true → slice_get old k ≡ Some
    m

-- a node that may be deferred before this bit, with this shared receiver
pub record MayBeDeferred (shared_receiver : SharedReceiver) (bit : ℕ) (member : Member) : Type 0 where
  pub active : member.is_deferred ≡ false
  pub is_on : member.on ≤ bit
  pub bit_is : bit_of member.station.node ≡ bit
  pub stands : Matches member.station.node shared_receiver

-- the node deferred, with what it did cleared
abbrev pub deferred_member : Member → Member
deferred_member member = record { on = member.on; is_deferred = true; station = member.station; action = no_action }

-- the node with what it did cleared
abbrev pub cleared : Member → Member
cleared member = record {
  on = member.on;
  is_deferred = member.is_deferred;
  station = member.station;
  action = no_action;
}

-- what the node did is cleared where something was reported
abbrev pub ClearsAction : Bool → Member → Member → Type 0
ClearsAction reported old new = new ≡ (if reported then cleared old else old)

-- the node is as it was, or was deferred
abbrev pub MayDefer : SharedReceiver → ℕ → Member → Member → Type 0
MayDefer shared_receiver bit old new = (new ≡ old) ⊎ (MayBeDeferred shared_receiver bit old × (new ≡ deferred_member
    old))

-- a node in place of another between two bits
pub record IsAlike (old new : Member) : Type 0 where
  pub on_is : new.on ≡ old.on
  pub sending_is : new.station.sending ≡ old.station.sending
  pub completed_is : new.station.completed ≡ old.station.completed
  pub bit_is : bit_of new.station.node ≡ bit_of old.station.node
  pub counters_are : counters_in new.station.node ≡ counters_in old.station.node
  pub begins : may_begin new.station.node ≡ may_begin old.station.node
  pub stands : (past : Past) → StandsAfter old.station.node past → StandsAfter new.station.node past
  pub uneventful : old.action ≡ no_action → new.action ≡ no_action

abbrev pub AreAlike : List Member → List Member → Type 0
AreAlike = AtPlaces (λ k. IsAlike)

-- the test of an element, if there is one
abbrev pub passes : {M : Type 0} → (M → Bool) → Option M → Bool
passes test None = true
passes test (Some x) = test x

-- each of these nodes that is active and on may sample one more bit
abbrev pub HasRoom : ℕ → ℕ → List Member → Type 0
HasRoom limit bit members = (k : ℕ) (m : Member) → slice_get members k ≡ Some m → m.is_deferred ≡ false → m.on ≤ bit →
    (bit_of m.station.node < limit) × (m.station.completed < limit)

-- nothing is reported of those of these nodes that are active and on at this bit
abbrev pub ActiveAreUneventful : ℕ → List Member → Type 0
ActiveAreUneventful bit members = (k : ℕ) (m : Member) → slice_get members k ≡ Some m → m.is_deferred ≡ false → m.on ≤
    bit →
    IsUneventful m.action

-- each port transmits what its node sends
abbrev pub TransmitsAll : {P : Type 0} → (P → Option Item) → List Member → List P → Type 0
TransmitsAll {P = P} transmitting members ports = (k : ℕ) (m : Member) (p : P) → slice_get members k ≡ Some m →
    slice_get ports k ≡ Some p → transmitting p ≡ item_of m.station.sending

-- the node continues with this bit if the bit has this level, and nothing is reported of it
pub record MayGo (bit : ℕ) (level : Bool) (member : Member) : Type 0 where
  pub active : member.is_deferred ≡ false
  pub is_on : member.on ≤ bit
  pub uneventful : IsUneventful member.action
  pub goes : MayGoOn level member.station.node

-- each active node of the list does
abbrev pub MayAllGo : ℕ → Bool → List Member → Type 0
MayAllGo bit level members = (k : ℕ) (m : Member) → slice_get members k ≡ Some m → m.is_deferred ≡ false → MayGo bit
    level m

-- an active node samples this level; nothing is reported or counted of it, and it begins nothing
pub record MemberGoes (bit : ℕ) (level : Bool) (old new : Member) : Type 0 where
  pub active : old.is_deferred ≡ false
  pub is_on : old.on ≤ bit
  pub uneventful : IsUneventful old.action
  pub begins_none : may_begin old.station.node ≡ false
  pub samples : IsSample old.station.node level Nothing new.station.node
  pub history : (past : Past) → StandsAfter new.station.node past → IsHistory past
  pub bit_is : bit_of new.station.node ≡ bit_of old.station.node + 1
  pub counts_none : counters_in new.station.node ≡ counters_in old.station.node
  pub active_too : new.is_deferred ≡ false
  pub on_is : new.on ≡ old.on
  pub action_is : new.action ≡ old.action
  pub sending_is : new.station.sending ≡ old.station.sending
  pub completed_is : new.station.completed ≡ old.station.completed

-- all active nodes do, and the deferred ones are as they were
abbrev pub AllGo : ℕ → Bool → List Member → List Member → Type 0
AllGo bit level = AtPlaces (λ k. IfActive (MemberGoes bit level))

-- The node continues with these levels, one after another from this bit on, and nothing is reported of it: it sends
-- them in a frame, or continues without sending, in bus off, in a passive error flag, in what it waits for behind a
-- frame, or in the stuffed region of a frame that it receives by itself.
pub record MayGoBy (is_sender : Bool) (bit : ℕ) (levels : List Bool) (member : Member) : Type 0 where
  pub active : member.is_deferred ≡ false
  pub is_on : member.on ≤ bit
  pub uneventful : IsUneventful member.action
  pub goes : MayGoOnBy is_sender levels member.station.node

-- all active nodes but the one at this index continue so without sending
abbrev pub OthersStayOut : ℕ → ℕ → List Bool → List Member → Type 0
OthersStayOut place bit levels members = (k : ℕ) (m : Member) → slice_get members k ≡ Some m → k ≢ place →
    m.is_deferred ≡ false → MayGoBy false bit levels m

-- an active node samples these levels, one after another, and continues with each: it drives them where it sends, and
-- drives recessive elsewhere
abbrev pub MemberGoesBy : Bool → ℕ → List Bool → Member → Member → Type 0
MemberGoesBy is_sender bit [] old new = new ≡ old
MemberGoesBy is_sender bit (level ∷ levels) old new = (mid : Member) × MemberGoes bit level old mid
    × (drives_at bit old ≡ if is_sender then level else true) × MemberGoesBy is_sender (bit + 1) levels mid new

-- the same from each bit from which it may
abbrev pub GoesAsItMay : List Bool → Member → Member → Type 0
GoesAsItMay levels old new =
    (is_sender : Bool) (bit : ℕ) → MayGoBy is_sender bit levels old → MemberGoesBy is_sender bit levels old new
