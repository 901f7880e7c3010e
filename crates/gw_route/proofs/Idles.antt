-- Idle turns change nothing of a hand but the count of turns.
use Rattle.std.proofs.Common.{◌≡◌, ◌⊎◌, ◌+◌, ◌≤◌, min, ℕ, inl, inr, List, Some, Result, Ok, Err, length}
use Rattle.std.proofs.Common.{ap, arith, refl, subst, sym, ◌∙◌}
use Rattle.bx_core.specs.RouteTx.{RoutePast}
use Rattle.bx_core.specs.declared.answer.AbortAnswer.{AbortAnswer}
use Rattle.bx_core.specs.declared.answer.AbortAnswer.TheVariants.{Ended, Asked, Gone, NotNow as Later}
use Rattle.bx_core.specs.declared.answer.NumberTooLarge.{NumberTooLarge}
use Rattle.bx_core.specs.declared.answer.Sent.{Sent}
use Rattle.bx_core.specs.declared.answer.Sent.TheVariants.{Yes, NotNow}
use Rattle.bx_rx.specs.RxOut.{Outlet, none_given}
use Rattle.gw_route.proofs.Matches.{matches-counted, matches-turns}
use Rattle.gw_route.specs.Plans.{FromPlan}
use Rattle.gw_route.specs.RouteHand.{HandValue, IsLinked, room_in}
use Rattle.gw_route.specs.Turn.{Filled, HasNone, IsFull, TurnMade, Turned, aborted_answer, counted, idled}
use Rattle.gw_route.specs.Turn.{requested_answer, taken_out}
use Rattle.gw_route.specs.Turn.Filled.{emptied, full, one, unqueued}
use Rattle.gw_route.specs.Turn.Turned.{by_abort, by_request, idle}
use Rattle.gw_route.specs.declared.turn_answer.TurnAnswer.{TurnAnswer}
use Rattle.gw_route.specs.declared.turn_answer.TurnAnswer.TheVariants.{Idle}
use Rattle.gw_route.specs.declared.route_abort.RouteAbort.{RouteAbort}

-- it still matches what its side of the mailboxes did,
pub linked_idled : (after : RoutePast → Type 0) (more : ℕ) (h : HandValue) → IsLinked after h →
    IsLinked after (idled more h)
linked_idled after more h l = (l.0, l.1, matches-turns (min (h.turns + more) 1000000) h l.0 l.2)

-- and keeps to the aborts that were planned
pub planned_idled : (planned : List RouteAbort) (more : ℕ) (h : HandValue) → FromPlan planned h →
    FromPlan planned (idled more h)
planned_idled planned more h p = record { done = p.done; all = p.all; logged = p.logged }

-- an idle turn is one of a hand that has no frame to request
has_none : (old new : HandValue) (past later : RoutePast) (answer : TurnAnswer) → Turned old new past later answer →
    answer ≡ Idle → HasNone old new
has_none old new past later answer (idle none has) is = has
has_none old new past later answer (by_request entry behind sent none has fits) is = absurd (not_idle sent is)
  where
    not_idle : (sent : Result Sent NumberTooLarge) → requested_answer sent ≡ Idle → ⊥
    not_idle (Ok Yes) e = cc e
    not_idle (Ok NotNow) e = cc e
    not_idle (Err fault) e = cc e
has_none old new past later answer (by_abort abort ended asks first due) is = absurd (not_idle ended is)
  where
    not_idle : (ended : AbortAnswer) → aborted_answer ended ≡ Idle → ⊥
    not_idle Ended e = cc e
    not_idle Asked e = cc e
    not_idle Gone e = cc e
    not_idle Later e = cc e

-- a hand that is filled is full, or found the FIFO empty
pub full_if_filled : (h filled : HandValue) → Filled h filled → IsFull filled
full_if_filled h filled (unqueued none) size is = absurd (cc (none, is))
full_if_filled h filled (full most some held) size is =
    let same : most ≡ size = (let both = sym some ∙ is in cc both) in inl (omega (arith, same, held))
full_if_filled h filled (emptied most some less empty) size is = inr (h.out, refl)
full_if_filled h filled (one most x some less then) size is = full_if_filled (taken_out h x) filled then size is

-- behind an idle turn the FIFO gave nothing when it was asked last
pub asked_in_vain : (after before : RoutePast → Type 0) (old new : HandValue) → IsLinked before old →
    TurnMade before after old new Idle → IsFull old → (out : Outlet) × (new.out ≡ none_given out)
asked_in_vain after before old new l made filled =
    let acted = made l.0 l.1 (matches-counted old l.0 l.2) in
    let none = has_none (counted old) new l.0 acted.0 Idle acted.2 refl in
    elim none.1 [
      | inl no_queue ↦ (old.out, ap (λ (v : HandValue). v.out) no_queue.2)
      | inr queued ↦ elim (filled queued.0 queued.1) [
        | inl held ↦ absurd
            (let some : 1 ≤ queued.0 = subst (λ q. 1 ≤ room_in q) queued.1 l.2.room.0 in
            omega (arith, some, held, ap length none.0))
        | inr asked ↦ (asked.0, ap (λ (v : HandValue). v.out) queued.2 ∙ asked.1)
      ]
    ]
