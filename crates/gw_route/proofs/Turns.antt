-- What the calls of a turn make of the hand and of the route's past.
use Rattle.std.proofs.Common.{◌≡◌, ℕ, ◌<◌, ◌↔◌, inl, inr, Bool, List, [], ◌∷◌, ◌++◌, sym, ◌∙◌, ap, subst, arith, Result, Ok}
use Rattle.std.proofs.Common.{Err, Some}
use Rattle.std.specs.Prelude.{IsErr}
use Rattle.std.proofs.lemmas.List.{map-append}
use Rattle.bx_core.specs.declared.entry.Entry.{Entry}
use Rattle.bx_core.specs.declared.answer.Sent.{Sent}
use Rattle.bx_core.specs.declared.answer.Sent.TheVariants.{Yes, NotNow}
use Rattle.bx_core.specs.declared.answer.AbortAnswer.{AbortAnswer}
use Rattle.bx_core.specs.declared.answer.AbortAnswer.TheVariants.{Ended, Asked, Gone, NotNow as Later}
use Rattle.bx_core.specs.declared.answer.NumberTooLarge.{NumberTooLarge}
use Rattle.bx_core.specs.Steps.{greatest_number, last_number}
use Rattle.bx_core.specs.RouteTx.{RoutePast, after_request, after_abort}
use Rattle.bx_rx.specs.declared.rx_frame.RxFrame.{RxFrame}
use Rattle.gw_route.specs.RouteHand.{HandValue, LogMatches, LogsReleased}
use Rattle.gw_route.specs.Turn.{first_abort, taken_out, HasNext, HasNone, IsDueByCount, if_requested, requested_answer}
use Rattle.gw_route.specs.Turn.{if_aborted, aborted_answer, Turned, idle, by_request, by_abort, Acted}
use Rattle.gw_route.specs.declared.route_abort.RouteAbort.{RouteAbort}
use Rattle.gw_route.specs.declared.turn_answer.TurnAnswer.{TurnAnswer}
use Rattle.gw_route.specs.declared.turn_answer.TurnAnswer.TheVariants.{Idle}
use Rattle.gw_route.proofs.Matches.{due-count, count-due, matches-next, matches-none, number-next}
use Rattle.gw_route.proofs.Matches.{matches-requested, matches-aborted, last-requested}

pub acted-idle : (after : RoutePast → Type 0) (old new : HandValue) →
    ((abort : RouteAbort) → first_abort old ≡ Some abort → IsDueByCount old abort → ⊥) → HasNone old new →
    Acted after after old new Idle
acted-idle after old new none has past a l =
    (past, a, idle (λ abort first d. none abort first (due-count old past abort l d)) has)

pub acted-request : (after after' : RoutePast → Type 0) (old next new : HandValue) (e : Entry) (behind : List Entry)
    (sent : Result Sent NumberTooLarge) (answer : TurnAnswer) →
    ((abort : RouteAbort) → first_abort old ≡ Some abort → IsDueByCount old abort → ⊥) → HasNext old next e behind →
    IsErr sent ↔ (greatest_number < e.number) →
    answer ≡ requested_answer sent → new ≡ if_requested sent next →
    ((past : RoutePast) → after past → after' (after_request past e.number e.frame sent)) →
    Acted after after' old new answer
acted-request after after' old next new e behind sent answer none has limit says is step past a l =
    let later : RoutePast = after_request past e.number e.frame sent in
    let made : Turned old (if_requested sent next) past later (requested_answer sent) =
    by_request e behind sent (λ abort first d. none abort first (due-count old past abort l d)) has limit in (
      later,
      step past a,
      subst (λ (t : TurnAnswer). Turned old new past later t) (sym says)
          (subst (λ (v : HandValue). Turned old v past later (requested_answer sent)) (sym is) made),
    )

pub acted-abort : (after after' : RoutePast → Type 0) (old new : HandValue) (abort : RouteAbort) (reported : AbortAnswer)
    (answer : TurnAnswer) →
    first_abort old ≡ Some abort → IsDueByCount old abort → answer ≡ aborted_answer reported →
    new ≡ if_aborted reported abort.number old →
    ((past : RoutePast) → after past → (asks : Bool) × after' (after_abort past abort.number reported asks)) →
    Acted after after' old new answer
acted-abort after after' old new abort reported answer first due says is step past a l =
    let t : (asks : Bool) × after' (after_abort past abort.number reported asks) = step past a in
    let next : RoutePast = after_abort past abort.number reported t.0 in
    let made : Turned old (if_aborted reported abort.number old) past next (aborted_answer reported) =
    by_abort abort reported t.0 first (count-due old past abort l due) in (
      next,
      t.1,
      subst (λ (v : TurnAnswer). Turned old new past next v) (sym says)
          (subst (λ (v : HandValue). Turned old v past next (aborted_answer reported)) (sym is) made),
    )

-- the number of the frame to request is above the last one that was requested
pub above-last : (old next : HandValue) (past : RoutePast) (e : Entry) (behind : List Entry) →
    HasNext old next e behind → LogMatches old past → last_number past.requested < e.number
above-last old next past e behind has l = omega (
  arith,
  last-requested old past l,
  number-next next past e behind has.0 (matches-next old next past e behind has l),
)

pub turned-matches : (old new : HandValue) (past next : RoutePast) (answer : TurnAnswer) →
    Turned old new past next answer → LogMatches old past → LogMatches new next
turned-matches old new past _ _ (idle none has) l = matches-none old new past has l
turned-matches old _ past _ _ (by_request {next = next} e behind sent none has limit) l =
    matches-requested next past e behind sent has.0 limit (matches-next old next past e behind has l)
turned-matches old _ past _ _ (by_abort abort reported asks first due) l =
    matches-aborted old past abort.number reported asks due.known l

pub logs-taken : (h : HandValue) (x : RxFrame) → LogsReleased h → LogsReleased (taken_out h x)
logs-taken h x l =
    ap (λ v. v ++ x.frame ∷ []) l ∙ sym (map-append (λ (x : RxFrame). x.frame) h.out.released (x ∷ []))

next-logs : (old next : HandValue) (e : Entry) (behind : List Entry) → HasNext old next e behind →
    LogsReleased old → LogsReleased next
next-logs old next e behind has l = elim has.1 [
  | inl same ↦ subst LogsReleased (sym same) l
  | inr more ↦ subst LogsReleased (sym more.3) (logs-taken old more.0 l)
]

none-logs : (old next : HandValue) → HasNone old next → LogsReleased old → LogsReleased next
none-logs old next has l = elim has.1 [
  | inl unqueued ↦ subst LogsReleased (sym unqueued.2) l
  | inr queued ↦ subst LogsReleased (sym queued.2) l
]

requested-logs : (sent : Result Sent NumberTooLarge) (h : HandValue) → LogsReleased h →
    LogsReleased (if_requested sent h)
requested-logs (Ok Yes) h l = l
requested-logs (Ok NotNow) h l = l
requested-logs (Err why) h l = l

aborted-logs : (reported : AbortAnswer) (number : ℕ) (h : HandValue) → LogsReleased h →
    LogsReleased (if_aborted reported number h)
aborted-logs Ended number h l = l
aborted-logs Asked number h l = l
aborted-logs Gone number h l = l
aborted-logs Later number h l = l

pub turned-logs : (old new : HandValue) (past next : RoutePast) (answer : TurnAnswer) →
    Turned old new past next answer → LogsReleased old → LogsReleased new
turned-logs old new _ _ _ (idle none has) l = none-logs old new has l
turned-logs old _ _ _ _ (by_request {next = next} e behind sent none has limit) l =
    requested-logs sent next (next-logs old next e behind has l)
turned-logs old _ _ _ _ (by_abort abort reported asks first due) l = aborted-logs reported abort.number old l
