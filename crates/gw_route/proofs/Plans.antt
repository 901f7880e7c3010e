-- A turn keeps to the aborts that were planned, and counts.
use Rattle.std.proofs.Common.{◌≡◌, ℕ, inl, inr, Some, Result, Ok, Err, List, [], ◌∷◌, ◌++◌, slice_get, remove, refl}
use Rattle.std.proofs.Common.{sym, ap, subst, append_assoc, ◌∙◌}
use Rattle.std.proofs.lemmas.List.{map-append}
use Rattle.bx_core.specs.declared.answer.Sent.{Sent}
use Rattle.bx_core.specs.declared.answer.Sent.TheVariants.{Yes, NotNow}
use Rattle.bx_core.specs.declared.answer.AbortAnswer.{AbortAnswer}
use Rattle.bx_core.specs.declared.answer.AbortAnswer.TheVariants.{Ended, Asked, Gone, NotNow as Later}
use Rattle.bx_core.specs.declared.answer.NumberTooLarge.{NumberTooLarge}
use Rattle.bx_core.specs.declared.entry.Entry.{Entry}
use Rattle.bx_core.specs.RouteTx.{RoutePast}
use Rattle.gw_route.specs.RouteHand.{HandValue, IsLinked}
use Rattle.gw_route.specs.Turn.{next_turn, counted, first_abort, HasNext, HasNone, if_requested, if_aborted, Turned, TurnMade}
use Rattle.gw_route.specs.Turn.Turned.{idle, by_request, by_abort}
use Rattle.gw_route.specs.declared.route_abort.RouteAbort.{RouteAbort}
use Rattle.gw_route.specs.declared.turn_answer.TurnAnswer.{TurnAnswer}
use Rattle.gw_route.specs.Plans.{numbers_in, FromPlan}
use Rattle.gw_route.specs.Sublists.{IsSublist}
use Rattle.gw_route.proofs.Matches.{matches-counted}
use Rattle.gw_route.proofs.Sublists.{sublist_more, sublist_push}

-- the first of them, and the others
first_and_rest : (xs : List RouteAbort) (a : RouteAbort) → slice_get xs 0 ≡ Some a → xs ≡ a ∷ remove xs 0
first_and_rest [] a e = absurd (cc e)
first_and_rest (x ∷ xs) a e = (let same : x ≡ a = cc e in ap (λ y. y ∷ xs) same)

next_keeps : (planned : List RouteAbort) (h next : HandValue) (entry : Entry) (behind : List Entry) →
    HasNext h next entry behind → FromPlan planned h → FromPlan planned next
next_keeps planned h next entry behind has p = elim has.1 [
  | inl same ↦ subst (FromPlan planned) (sym same) p
  | inr more ↦ subst (FromPlan planned) (sym more.3) (record { done = p.done; all = p.all; logged = p.logged })
]

none_keeps : (planned : List RouteAbort) (h next : HandValue) → HasNone h next → FromPlan planned h →
    FromPlan planned next
none_keeps planned h next has p = elim has.1 [
  | inl unqueued ↦ subst (FromPlan planned) (sym unqueued.2)
      (record { done = p.done; all = p.all; logged = p.logged })
  | inr queued ↦ subst (FromPlan planned) (sym queued.2) p
]

asked_keeps : (planned : List RouteAbort) (h : HandValue) (answer : Result Sent NumberTooLarge) → FromPlan planned h →
    FromPlan planned (if_requested answer h)
asked_keeps planned h (Ok Yes) p = record { done = p.done; all = p.all; logged = p.logged }
asked_keeps planned h (Ok NotNow) p = p
asked_keeps planned h (Err e) p = p

-- one planned abort more is done
one_done : (planned : List RouteAbort) (h : HandValue) (abort : RouteAbort) → first_abort h ≡ Some abort →
    (p : FromPlan planned h) →
    planned ≡ (p.done ++ abort ∷ []) ++ remove h.aborts 0
one_done planned h abort first p =
    p.all ∙ ap (λ xs. p.done ++ xs) (first_and_rest h.aborts abort first)
    ∙ sym (append_assoc p.done (abort ∷ []) (remove h.aborts 0))

number_done : (done : List RouteAbort) (abort : RouteAbort) → numbers_in (done ++ abort ∷ []) ≡ numbers_in done
    ++ abort.number ∷ []
number_done done abort = map-append (λ (a : RouteAbort). a.number) done (abort ∷ [])

aborted_keeps : (planned : List RouteAbort) (h : HandValue) (abort : RouteAbort) (answer : AbortAnswer) →
    first_abort h ≡ Some abort → FromPlan planned h → FromPlan planned (if_aborted answer abort.number h)
aborted_keeps planned h abort Ended first p = record {
  done = p.done ++ abort ∷ [];
  all = one_done planned h abort first p;
  logged = subst (IsSublist (h.aborted ++ abort.number ∷ [])) (sym (number_done p.done abort))
      (sublist_push h.aborted (numbers_in p.done) abort.number p.logged);
}
aborted_keeps planned h abort Asked first p = record {
  done = p.done ++ abort ∷ [];
  all = one_done planned h abort first p;
  logged = subst (IsSublist (h.aborted ++ abort.number ∷ [])) (sym (number_done p.done abort))
      (sublist_push h.aborted (numbers_in p.done) abort.number p.logged);
}
aborted_keeps planned h abort Gone first p = record {
  done = p.done ++ abort ∷ [];
  all = one_done planned h abort first p;
  logged = subst (IsSublist h.aborted) (sym (number_done p.done abort))
      (sublist_more h.aborted (numbers_in p.done) abort.number p.logged);
}
aborted_keeps planned h abort Later first p = p

turned_keeps : (planned : List RouteAbort) (old new : HandValue) (past next : RoutePast) (answer : TurnAnswer) →
    Turned old new past next answer → FromPlan planned old → FromPlan planned new
turned_keeps planned old new past later answer (idle none_due has) p = none_keeps planned old new has p
turned_keeps planned old new past later answer (by_request {next = next} entry behind sent none_due has limit) p =
    asked_keeps planned next sent (next_keeps planned old next entry behind has p)
turned_keeps planned old new past next answer (by_abort abort given asks first due) p =
    aborted_keeps planned old abort given first p

pub turn_keeps : (planned : List RouteAbort) (after after' : RoutePast → Type 0) (old new : HandValue)
    (answer : TurnAnswer) → IsLinked after old → TurnMade after after' old new answer →
    FromPlan planned old → FromPlan planned new
turn_keeps planned after after' old new answer linked made p =
    let t = made linked.0 linked.1 (matches-counted old linked.0 linked.2) in
    turned_keeps planned (counted old) new linked.0 t.0 answer t.2
    (record { done = p.done; all = p.all; logged = p.logged })

next_counts : (h next : HandValue) (entry : Entry) (behind : List Entry) → HasNext h next entry behind →
    next.turns ≡ h.turns
next_counts h next entry behind has = elim has.1 [
  | inl same ↦ ap (λ (v : HandValue). v.turns) same
  | inr more ↦ ap (λ (v : HandValue). v.turns) more.3
]

none_counts : (h next : HandValue) → HasNone h next → next.turns ≡ h.turns
none_counts h next has = elim has.1 [
  | inl unqueued ↦ ap (λ (v : HandValue). v.turns) unqueued.2
  | inr queued ↦ ap (λ (v : HandValue). v.turns) queued.2
]

asked_counts : (h : HandValue) (answer : Result Sent NumberTooLarge) → (if_requested answer h).turns ≡ h.turns
asked_counts h (Ok Yes) = refl
asked_counts h (Ok NotNow) = refl
asked_counts h (Err e) = refl

aborted_counts : (h : HandValue) (answer : AbortAnswer) (n : ℕ) → (if_aborted answer n h).turns ≡ h.turns
aborted_counts h Ended n = refl
aborted_counts h Asked n = refl
aborted_counts h Gone n = refl
aborted_counts h Later n = refl

turned_counts : (old new : HandValue) (past next : RoutePast) (answer : TurnAnswer) → Turned old new past next answer →
    new.turns ≡ old.turns
turned_counts old new past later answer (idle none_due has) = none_counts old new has
turned_counts old new past later answer (by_request {next = next} entry behind sent none_due has limit) =
    asked_counts next sent ∙ next_counts old next entry behind has
turned_counts old new past next answer (by_abort abort given asks first due) = aborted_counts old given abort.number

-- a turn counts
pub turn_counts : (after after' : RoutePast → Type 0) (old new : HandValue) (answer : TurnAnswer) → IsLinked after old →
    TurnMade after after' old new answer → new.turns ≡ next_turn old.turns
turn_counts after after' old new answer linked made =
    let t = made linked.0 linked.1 (matches-counted old linked.0 linked.2) in
    turned_counts (counted old) new linked.0 t.0 answer t.2
