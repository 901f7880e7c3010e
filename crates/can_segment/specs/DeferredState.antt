-- Deferred nodes: what they mean, and what holds of them between bits. src/deferred.rt explains the idea.
use Rattle.std.specs.Prelude.{◌≡◌, ◌⊎◌, ℕ, ◌+◌, ◌<◌, ◌≤◌, ◌&&◌, Bool, true, false}
use Rattle.std.specs.Prelude.{Some, List, [], ◌∷◌, length, map, slice_get, if◌then◌else◌}
use Rattle.std.specs.List.{list_all}
use Rattle.can_confinement.specs.KnownCounts.{Knows}
use Rattle.can_node.specs.SharedReceiver.{Acknowledges, Follows, Idles, IsListening, materialized as materialized_node}
use Rattle.can_node.specs.Node.{counters_in, driven_by, may_begin}
use Rattle.can_confinement.specs.declared.counters.Counters.{Counters}
use Rattle.can_node.specs.declared.node.Node.{Node}
use Rattle.can_station.specs.declared.member.Member.{Member}
use Rattle.can_station.specs.declared.plan.Talker.{Talker}
use Rattle.can_segment.specs.declared.deferred.Deferred.{Deferred}
use Rattle.can_station.specs.Actions.{IsUneventful}
use Rattle.can_station.specs.Members.{drives_at}
use Rattle.can_station.specs.Queues.{IsNotDueBefore}
use Rattle.can_station.specs.DeferredNodes.{AllGo, AreAlike, ActiveWithin, LeavesDeferred}
use Rattle.can_station.specs.DeferredNodes.{MayDefer, NoneDeferred, resumed}

-- The nodes that contracts speak of before this bit: each deferred node with the state of the shared receiver copied
-- into it, every other node as it is.
abbrev pub materialized : Deferred → ℕ → List Member → List Member
materialized deferred bit = map (resumed deferred.shared_receiver bit)

-- what holds of a deferred node before a bit
pub record IsDeferred (deferred : Deferred) (bit : ℕ) (member : Member) : Type 0 where
  pub some_deferred : deferred.any_deferred ≡ true
  pub is_on : member.on ≤ bit
  pub uneventful : IsUneventful member.action
  pub known : Knows deferred.known (counters_in member.station.node)
  pub listening : IsListening deferred.shared_receiver

-- the same of each deferred node of a list
abbrev pub AreDeferred : Deferred → ℕ → List Member → Type 0
AreDeferred deferred bit members = (k : ℕ) (m : Member) → slice_get members k ≡ Some m → m.is_deferred ≡ true →
    IsDeferred deferred bit m

-- no deferred talker has a frame that is due before the bit `next_start`
abbrev pub AreNotDue : Deferred → List Talker → List Member → Type 0
AreNotDue deferred talkers members = (k : ℕ) (m : Member) (talker : Talker) → slice_get members k ≡ Some m →
    slice_get talkers k ≡ Some talker → m.is_deferred ≡ true →
    IsNotDueBefore talker.queue.items m.station.completed deferred.next_start

-- the invariant: what holds of the deferred nodes and of the sets of active ones before a bit
pub record DeferredHolds (deferred : Deferred) (bit : ℕ) (plan : List Talker) (talkers controllers : List Member) : Type
    0 where
  pub talkers_deferred : AreDeferred deferred bit talkers
  pub controllers_deferred : AreDeferred deferred bit controllers
  pub talkers_not_due : AreNotDue deferred plan talkers
  pub controllers_active : 0 < deferred.next_start → NoneDeferred controllers
  pub talkers_within : ActiveWithin deferred.talkers talkers
  pub controllers_within : ActiveWithin deferred.controllers controllers
  pub talkers_fit : length talkers ≤ 64
  pub controllers_fit : length controllers ≤ 64

-- no deferred node wants to start at this bit, or none has anything to send at it
abbrev pub NoneStarts : Deferred → ℕ → Type 0
NoneStarts deferred bit = (bit < deferred.next_start) ⊎ ((node : Node) (next : ℕ) →
    may_begin (materialized_node node deferred.shared_receiver next) ≡ false)

-- each deferred node drives this level
abbrev pub Drives : Deferred → Bool → Type 0
Drives deferred drive = IsListening deferred.shared_receiver → (node : Node) (bit : ℕ) →
    drive ≡ driven_by (materialized_node node deferred.shared_receiver bit)

-- the shared receiver follows a bit at which the deferred nodes sample this level
pub record FollowsThrough (bit : ℕ) (level : Bool) (old new : Deferred) : Type 0 where
  pub any_deferred : new.any_deferred ≡ old.any_deferred
  pub talkers_is : new.talkers ≡ old.talkers
  pub controllers_is : new.controllers ≡ old.controllers
  pub known_is : new.known ≡ old.known
  pub next_start_is : new.next_start ≡ old.next_start
  pub follows : Follows old.known old.shared_receiver bit level new.shared_receiver
  pub listens : IsListening old.shared_receiver → IsListening new.shared_receiver

-- the shared receiver follows an ACK slot with this level; the deferred nodes acknowledge a frame, and have still to
-- count it
pub record FollowsAck (level : Bool) (old new : Deferred) : Type 0 where
  pub any_deferred_is : new.any_deferred ≡ old.any_deferred
  pub talkers_is : new.talkers ≡ old.talkers
  pub controllers_is : new.controllers ≡ old.controllers
  pub next_start_is : new.next_start ≡ old.next_start
  pub acknowledges : Acknowledges old.shared_receiver level new.shared_receiver
  pub listens : IsListening new.shared_receiver

-- nothing changed but what is known of the counters
pub record IsSameButCounts (old new : Deferred) : Type 0 where
  pub shared_receiver_is : new.shared_receiver ≡ old.shared_receiver
  pub any_deferred_is : new.any_deferred ≡ old.any_deferred
  pub talkers_is : new.talkers ≡ old.talkers
  pub controllers_is : new.controllers ≡ old.controllers
  pub next_start_is : new.next_start ≡ old.next_start

-- The deferred nodes go through a bit at which they sample this level: the shared receiver followed it. Some may have
-- been resumed before it.
pub record GoesThrough (before after : Deferred) (bit : ℕ) (level : Bool) (old new : List Member) : Type 0 where
  pub same : materialized before bit new ≡ materialized before bit old
  pub left : LeavesDeferred old new
  pub through : (k : ℕ) (m : Member) → slice_get new k ≡ Some m → m.is_deferred ≡ true → FollowsThrough bit level before
      after

-- more nodes are deferred, so less is known of all of them
pub record IsLess (old new : Deferred) : Type 0 where
  pub shared_receiver_is : new.shared_receiver ≡ old.shared_receiver
  pub any_deferred_is : new.any_deferred ≡ old.any_deferred
  pub knows : (counters : Counters) → Knows old.known counters → Knows new.known counters
  pub sooner : new.next_start ≤ old.next_start
  pub talkers_is : new.talkers ≡ old.talkers
  pub controllers_is : new.controllers ≡ old.controllers

-- a node that may have been deferred, and what is known of all deferred nodes then
pub record Defers (bit next_due : ℕ) (before after : Deferred) (old new : Member) : Type 0 where
  pub less : IsLess before after
  pub may_defer : MayDefer before.shared_receiver bit old new
  pub some_deferred : old.is_deferred ≡ false → new.is_deferred ≡ true → after.any_deferred ≡ true
  pub known : old.is_deferred ≡ false → new.is_deferred ≡ true → Knows after.known (counters_in new.station.node)
  pub not_due : old.is_deferred ≡ false → new.is_deferred ≡ true → after.next_start ≤ next_due

-- nothing changed of what the deferred nodes have in common
pub record IsSame (old new : Deferred) : Type 0 where
  pub shared_receiver_is : new.shared_receiver ≡ old.shared_receiver
  pub any_deferred_is : new.any_deferred ≡ old.any_deferred
  pub known_is : new.known ≡ old.known
  pub next_start_is : new.next_start ≡ old.next_start

-- where no node is deferred, the shared receiver may be taken from another node
pub record ChoosesReceiver (old new : Deferred) : Type 0 where
  pub talkers_is : new.talkers ≡ old.talkers
  pub controllers_is : new.controllers ≡ old.controllers
  pub chosen : IsSame old new ⊎ (old.any_deferred ≡ false)

-- nodes may have been deferred before this bit, and each materialized node is like the one before
pub record Regroups (bit : ℕ) (plan : List Talker) (old new : Deferred) (t0 t1 c0 c1 : List Member) : Type 0 where
  pub talkers : AreAlike (materialized old bit t0) (materialized new bit t1)
  pub controllers : AreAlike (materialized old bit c0) (materialized new bit c1)
  pub holds : DeferredHolds new bit plan t1 c1

-- the AND of what these nodes drive at a bit at which the deferred ones drive this level
abbrev pub driven_beside : ℕ → Bool → List Member → Bool
driven_beside bit deferred_level = list_all (λ member. if member.is_deferred then deferred_level else drives_at bit
    member)

-- An uneventful bit: the shared receiver follows it for the deferred nodes, and the active ones sample the AND of what
-- all drive. Nothing is reported of any node.
pub record IsUneventfulBit (bit : ℕ) (level : Bool) (old new : Deferred) (t0 t1 c0 c1 : List Member) : Type 0 where
  pub starts_none : NoneStarts old bit
  pub through : FollowsThrough bit level old new
  pub deferred_level : Bool
  pub drives : Drives old deferred_level
  pub talkers : AllGo bit level t0 t1
  pub controllers : AllGo bit level c0 c1
  pub level_is : level ≡ (driven_beside bit deferred_level t0 && driven_beside bit deferred_level c0)

-- uneventful bits with these levels, one after another
abbrev pub AreUneventfulBits : ℕ → List Bool → Deferred → Deferred → List Member → List Member → List Member → List
    Member → Type 0
AreUneventfulBits bit [] old new t0 t1 c0 c1 = (new ≡ old) × (t1 ≡ t0) × (c1 ≡ c0)
AreUneventfulBits bit (level ∷ levels) old new t0 t1 c0 c1 = (mid : Deferred) × (t : List Member) × (c : List Member)
    × IsUneventfulBit bit level old mid t0 t c0 c × AreUneventfulBits (bit + 1) levels mid new t t1 c c1

-- each of these levels is recessive
abbrev pub AreRecessive : List Bool → Type 0
AreRecessive [] = Unit {0}
AreRecessive (level ∷ levels) = (level ≡ true) × AreRecessive levels

-- all of these nodes are deferred
abbrev pub AllDeferred : List Member → Type 0
AllDeferred members = (k : ℕ) (m : Member) → slice_get members k ≡ Some m → m.is_deferred ≡ true

-- none of these talkers has a frame that is due before this bit
abbrev pub AreNoneDueBefore : ℕ → List Talker → List Member → Type 0
AreNoneDueBefore limit plan members = (k : ℕ) (m : Member) (talker : Talker) → slice_get members k ≡ Some m →
    slice_get plan k ≡ Some talker → IsNotDueBefore talker.queue.items m.station.completed limit

-- all nodes are deferred on an idle bus, and no talker has a frame that is due before this bit
pub record AreIdle (deferred : Deferred) (limit : ℕ) (plan : List Talker) (talkers controllers : List Member) : Type 0
  where
    pub idles : Idles deferred.shared_receiver
    pub talkers_deferred : AllDeferred talkers
    pub controllers_deferred : AllDeferred controllers
    pub talkers_not_due : AreNoneDueBefore limit plan talkers
