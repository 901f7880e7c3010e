-- A segment before its first bit.
use Rattle.std.proofs.Common.{◌≡◌, ℕ, ◌+◌, inl, inr, Some, None, Option, List, [], ◌∷◌, ◌++◌, length, slice_get, refl}
use Rattle.std.proofs.Common.{sym, ap, subst, arith, ◌∙◌, length-append}
use Rattle.std.proofs.lemmas.Option.{slice_get_within}
use Rattle.can_station.specs.declared.member.Member.{Member}
use Rattle.can_station.specs.declared.plan.SegmentPlan.{SegmentPlan}
use Rattle.can_segment.specs.Kept.{StandsBehind, SegmentKept}
use Rattle.can_segment.specs.Runs.Run.{no_bit}
use Rattle.can_station.specs.Fresh.{IsFresh, AreFresh}
use Rattle.bx_core.specs.TxBus.{Item}
use Rattle.bx_core.proofs.Words.{pushed}
use Rattle.can_station.specs.Ports.{item_of}
use Rattle.can_segment.specs.Segments.{sending_of_all}
use Rattle.can_station.specs.DeferredNodes.{NoneDeferred}
use Rattle.can_station.proofs.Places.{some_there, same_some}
use Rattle.can_segment.proofs.Shown.{map_at}

-- nodes so far
pub record FreshBelow {X : Type 0} (on : X → ℕ) (xs : List X) (members : List Member) (i : ℕ) : Type 0 where
  pub at : (k : ℕ) (x : X) (member : Member) → slice_get xs k ≡ Some x → slice_get members k ≡ Some member →
      IsFresh (on x) member
  pub size : length members ≡ i

pub fresh_start : {X : Type 0} (on : X → ℕ) (xs : List X) → FreshBelow on xs [] 0
fresh_start on xs = record { at = λ k x m e f. absurd (cc f); size = refl }

pub fresh_step : {X : Type 0} (on : X → ℕ) (xs : List X) (members : List Member) (i : ℕ) (x : X) (m : Member) →
    slice_get xs i ≡ Some x → IsFresh (on x) m →
    FreshBelow on xs members i → FreshBelow on xs (members ++ m ∷ []) (i + 1)
fresh_step on xs members i x m here fresh b = record {
  at = λ k y n e f. elim (pushed members m k n f) [
    | inl is ↦ b.at k y n e is
    | inr is ↦ (let place : k ≡ i = omega (arith, is.0, b.size) in
        let same : x ≡ y = same_some x y (sym here ∙ ap (slice_get xs) (sym place) ∙ e) in
        subst (λ z. IsFresh (on y) z) is.1 (subst (λ z. IsFresh (on z) m) same fresh))
  ];
  size = omega (arith, length-append members (m ∷ []), b.size);
}

pub fresh_end : {X : Type 0} (on : X → ℕ) (xs : List X) (members : List Member) (i : ℕ) → i ≡ length xs →
    FreshBelow on xs members i → AreFresh on xs members
fresh_end on xs members i all b = record { at = b.at; size = omega (arith, b.size, all) }

behind_nothing : (on k : ℕ) (m : Member) → IsFresh on m → StandsBehind on k [] m
behind_nothing on k m f = record {
  on_is = f.on_is;
  stands = f.stands;
  sending_is = f.idle;
  completed_is = f.none_sent;
  bit_is = omega (arith, f.bit_is);
  uneventful = λ early. f.uneventful;
}

pub kept_fresh : (plan : SegmentPlan) (talkers controllers : List Member) →
    AreFresh (λ talker. talker.on) plan.talkers.items talkers →
    AreFresh (λ controller. controller.on) plan.controllers.items controllers →
    SegmentKept plan [] [] talkers controllers
kept_fresh plan talkers controllers t c = record {
  trace = [];
  run = no_bit;
  stands = record {
    talkers_size = t.size;
    controllers_size = c.size;
    talkers_stand = λ k talker m e f. behind_nothing talker.on k m (t.at k talker m e f);
    controllers_stand =
        λ k controller m e f. behind_nothing controller.on (length plan.talkers.items + k) m (c.at k controller m e f);
  };
}

pub idle_fresh : {X : Type 0} (on : X → ℕ) (xs : List X) (members : List Member) → AreFresh on xs members →
    (k : ℕ) (sends : Option Item) → slice_get (sending_of_all members) k ≡ Some sends → sends ≡ None
idle_fresh on xs members fresh k sends e =
    let m = map_at (λ member. item_of member.station.sending) members k sends e in
    let within = slice_get_within members k m.0 m.1 in
    let x = some_there xs k (omega (arith, within, fresh.size)) in
    sym m.2 ∙ ap item_of (fresh.at k x.0 m.0 x.1 m.1).idle

-- none of them is deferred
pub fresh_active : {X : Type 0} (on : X → ℕ) (xs : List X) (members : List Member) → AreFresh on xs members →
    NoneDeferred members
fresh_active on xs members fresh k m e =
    let within = slice_get_within members k m e in
    let x = some_there xs k (omega (arith, within, fresh.size)) in
    (fresh.at k x.0 m x.1 e).active
