-- Nodes that are alike between two bits: in which the actions of the bit before were cleared, or that were deferred.
use Rattle.std.proofs.Common.{◌≡◌, ℕ, inl, inr, Bool, true, false, List, length, map}
use Rattle.std.proofs.Common.{slice_get, refl, sym, ap, subst, arith, ◌∙◌}
use Rattle.std.proofs.lemmas.List.{length-map}
use Rattle.std.proofs.lemmas.Option.{slice_get_within}
use Rattle.can_node.specs.SharedReceiver.{materialized as materialized_node}
use Rattle.can_node.specs.Node.{StandsAfter, may_begin}
use Rattle.can_node.specs.declared.shared_receiver.SharedReceiver.{SharedReceiver}
use Rattle.can_station.specs.declared.action.Action.{Action}
use Rattle.can_station.specs.declared.member.Member.{Member}
use Rattle.can_station.specs.Actions.{no_action}
use Rattle.can_station.specs.Places.{AtPlaces}
use Rattle.can_station.proofs.Places.{some_there}
use Rattle.can_station.proofs.Places.{same_some}
use Rattle.can_station.specs.DeferredNodes.{AreAlike, ClearsAction, IfActive, IsAlike, MayDefer}
use Rattle.can_station.specs.DeferredNodes.{MayBeDeferred}
use Rattle.can_station.specs.DeferredNodes.{deferred_member, resumed}
use Rattle.can_segment.proofs.Shown.{map_at}
use Rattle.can_segment.proofs.Resumed.{active_resumed}

-- each is like one of which something else is reported, or nothing
like_reported : (m : Member) (action : Action) → (m.action ≡ no_action → action ≡ no_action) →
    IsAlike m (record { on = m.on; is_deferred = m.is_deferred; station = m.station; action = action })
like_reported m action none = record {
  on_is = refl;
  sending_is = refl;
  completed_is = refl;
  bit_is = refl;
  counters_are = refl;
  begins = refl;
  stands = λ past h. h;
  uneventful = none;
}

like_itself : (m : Member) → IsAlike m m
like_itself m = like_reported m m.action (λ h. h)

pub alike_self : (old new : List Member) → new ≡ old → AreAlike old new
alike_self old new is = record {
  at = λ k a b p q. subst (IsAlike a) (same_some a b (sym p ∙ ap (λ ms. slice_get ms k) (sym is) ∙ q)) (like_itself a);
  size = ap length is;
}

alike_on : (a b c : Member) → IsAlike a b → IsAlike b c → IsAlike a c
alike_on a b c one other = record {
  on_is = other.on_is ∙ one.on_is;
  sending_is = other.sending_is ∙ one.sending_is;
  completed_is = other.completed_is ∙ one.completed_is;
  bit_is = other.bit_is ∙ one.bit_is;
  counters_are = other.counters_are ∙ one.counters_are;
  begins = other.begins ∙ one.begins;
  stands = λ past h. other.stands past (one.stands past h);
  uneventful = λ h. other.uneventful (one.uneventful h);
}

pub all_alike_on : (old mid new : List Member) → AreAlike old mid → AreAlike mid new → AreAlike old new
all_alike_on old mid new one other = record {
  at = λ k a c p q.
      let b = some_there mid k (let within = slice_get_within old k a p in omega (arith, within, one.size)) in
      alike_on a b.0 c (one.at k a b.0 p b.1) (other.at k b.0 c b.1 q);
  size = other.size ∙ one.size;
}

-- those of which nothing is reported any more
alike_cleared : (reported : Bool) (shared_receiver : SharedReceiver) (bit : ℕ) (old new : Member) → ClearsAction reported old
    new →
    IsAlike (resumed shared_receiver bit old) (resumed shared_receiver bit new)
alike_cleared false shared_receiver bit old new same = subst (λ m. IsAlike (resumed shared_receiver bit old) (resumed
    shared_receiver bit m))
    (sym same) (like_itself (resumed shared_receiver bit old))
alike_cleared true shared_receiver bit old new is_cleared =
    subst (λ m. IsAlike (resumed shared_receiver bit old) (resumed shared_receiver bit m)) (sym is_cleared)
    (like_reported (resumed shared_receiver bit old) no_action (λ h. refl))

if_alike_cleared : (reported : Bool) (shared_receiver : SharedReceiver) (bit : ℕ) (old new : Member) →
    IfActive (ClearsAction reported) old new → IsAlike (resumed shared_receiver bit old) (resumed shared_receiver bit new)
if_alike_cleared reported shared_receiver bit old new s = by old.is_deferred refl
  where
    by : (b : Bool) → old.is_deferred ≡ b → IsAlike (resumed shared_receiver bit old) (resumed shared_receiver bit new)
    by true is = alike_cleared false shared_receiver bit old new (s.stays_deferred is)
    by false is = alike_cleared reported shared_receiver bit old new (s.steps is)

pub all_cleared : (reported : Bool) (shared_receiver : SharedReceiver) (bit : ℕ) (old new : List Member) →
    AtPlaces (λ k. IfActive (ClearsAction reported)) old new → AreAlike (map (resumed shared_receiver bit) old)
    (map (resumed shared_receiver bit) new)
all_cleared reported shared_receiver bit old new moves = record {
  at = λ k a b p q.
      let x = map_at (resumed shared_receiver bit) old k a p in
      let y = map_at (resumed shared_receiver bit) new k b q in
      subst (λ m. IsAlike m b) x.2 (subst (IsAlike (resumed shared_receiver bit x.0)) y.2
      (if_alike_cleared reported shared_receiver bit x.0 y.0 (moves.at k x.0 y.0 x.1 y.1)));
  size = length-map new (resumed shared_receiver bit) ∙ moves.size ∙ sym (length-map old (resumed shared_receiver bit));
}

-- one that has come to rest
alike_deferred : (shared_receiver : SharedReceiver) (bit : ℕ) (m : Member) → MayBeDeferred shared_receiver bit m →
    IsAlike m (resumed shared_receiver bit (deferred_member m))
alike_deferred shared_receiver bit m h = record {
  on_is = refl;
  sending_is = refl;
  completed_is = refl;
  bit_is = sym h.bit_is;
  counters_are = refl;
  begins = ap (λ n. may_begin (materialized_node m.station.node shared_receiver n)) (sym h.bit_is) ∙ h.stands.begins;
  stands = λ past stood. subst (λ n. StandsAfter (materialized_node m.station.node shared_receiver n) past) h.bit_is
      (h.stands.stands past stood);
  uneventful = λ none. refl;
}

may_defer_alike : (shared_receiver : SharedReceiver) (bit : ℕ) (old new : Member) → MayDefer shared_receiver bit old new →
    IsAlike (resumed shared_receiver bit old) (resumed shared_receiver bit new)
may_defer_alike shared_receiver bit old new (inl same) = subst (λ m. IsAlike (resumed shared_receiver bit old) (resumed
    shared_receiver bit m))
    (sym same) (like_itself (resumed shared_receiver bit old))
may_defer_alike shared_receiver bit old new (inr may_defer) =
    subst (λ m. IsAlike m (resumed shared_receiver bit new)) (sym (active_resumed shared_receiver bit old
    may_defer.0.active))
    (subst (λ m. IsAlike old (resumed shared_receiver bit m)) (sym may_defer.1) (alike_deferred shared_receiver bit old
    may_defer.0))

pub alike_deferred_or_same : (one other : SharedReceiver) (bit : ℕ) (old new : List Member) → other ≡ one →
    AtPlaces (λ k. MayDefer one bit) old new → AreAlike (map (resumed one bit) old) (map (resumed other bit) new)
alike_deferred_or_same one other bit old new same defer_some =
    subst (λ shared_receiver. AreAlike (map (resumed one bit) old) (map (resumed shared_receiver bit) new)) (sym same)
    (record {
      at = λ k a b p q.
          let x = map_at (resumed one bit) old k a p in
          let y = map_at (resumed one bit) new k b q in
          subst (λ m. IsAlike m b) x.2 (subst (IsAlike (resumed one bit x.0)) y.2
          (may_defer_alike one bit x.0 y.0 (defer_some.at k x.0 y.0 x.1 y.1)));
      size = length-map new (resumed one bit) ∙ defer_some.size ∙ sym (length-map old (resumed one bit));
    })
