-- Nodes that go on with levels, one after another.
use Rattle.std.proofs.Common.{◌≡◌, ◌≢◌, ℕ, ◌+◌, ◌≤◌, inl, inr, cond, nat_le, Bool, true, false, List, []}
use Rattle.std.proofs.Common.{◌∷◌}
use Rattle.std.proofs.Common.{take, refl, ap, arith, ◌∙◌}
use Rattle.std.proofs.lemmas.Bool.Decides.{leb_tells}
use Rattle.can_node.specs.declared.node.Node.{Node}
use Rattle.can_node.specs.Node.{driven_by}
use Rattle.can_node.specs.PlainBits.{GoesOnBy}
use Rattle.can_node.proofs.GoingBy.{may_taken}
use Rattle.can_station.specs.declared.member.Member.{Member}
use Rattle.can_station.specs.declared.place_set.PlaceSet.{PlaceSet}
use Rattle.can_station.specs.Actions.{IsUneventful}
use Rattle.can_station.specs.DeferredNodes.{MayGoBy, MemberGoesBy}
use Rattle.can_station.proofs.PlaceSets.{EachBut}

-- the member with this node
abbrev with_node : Member → Node → Member
with_node member node = record {
  on = member.on;
  is_deferred = member.is_deferred;
  station = record {
    node = node;
    sending = member.station.sending;
    completed = member.station.completed;
  };
  action = member.action;
}

on_at : (on bit : ℕ) → on ≤ bit → nat_le on bit ≡ true
on_at on bit h =
    elim (leb_tells on bit) [ inl is ↦ is.0 | inr not ↦ absurd (let less = not.1 in omega (arith, h, less)) ]

pub member_by : (is_sender : Bool) (bit : ℕ) (levels : List Bool) (member : Member) (node : Node) →
    member.is_deferred ≡ false → member.on ≤ bit → IsUneventful member.action →
    GoesOnBy is_sender member.station.node levels node →
    MemberGoesBy is_sender bit levels member (with_node member node)
member_by is_sender bit [] member node active is_on uneventful go = ap (with_node member) go
member_by is_sender bit (level ∷ levels) member node active is_on uneventful go = (
  with_node member go.0,
  record {
    active = active;
    is_on = is_on;
    uneventful = uneventful;
    begins_none = go.1.begins_none;
    samples = go.1.samples;
    history = go.1.history;
    bit_is = go.1.bit_is;
    counts_none = go.1.counts_none;
    active_too = active;
    on_is = refl;
    action_is = refl;
    sending_is = refl;
    completed_is = refl;
  },
  ap (λ b. cond b (driven_by member.station.node) true) (on_at member.on bit is_on) ∙ go.2,
  member_by is_sender (bit + 1) levels (with_node member go.0) node active (omega (arith, is_on)) uneventful go.3,
)

-- with the first of these levels
pub by_taken : (is_sender : Bool) (bit n : ℕ) (levels : List Bool) (member : Member) →
    MayGoBy is_sender bit levels member → MayGoBy is_sender bit (take n levels) member
by_taken is_sender bit n levels member h = record {
  active = h.active;
  is_on = h.is_on;
  uneventful = h.uneventful;
  goes = may_taken is_sender n levels member.station.node h.goes;
}

-- so does one that is active, but the one at this place
abbrev pub StaysBeside : ℕ → ℕ → List Bool → ℕ → Member → Type 0
StaysBeside but bit levels k m = k ≢ but → m.is_deferred ≡ false → MayGoBy false bit levels m

pub fewer_beside : (but bit n : ℕ) (levels : List Bool) (members : List Member) (left : PlaceSet) →
    EachBut (StaysBeside but bit levels) members left → EachBut (StaysBeside but bit (take n levels)) members left
fewer_beside but bit n levels members left so_far = record {
  within = so_far.within;
  each = λ k m out e not active. by_taken false bit n levels m (so_far.each k m out e not active);
}
