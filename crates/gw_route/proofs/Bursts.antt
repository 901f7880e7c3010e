-- A burst of one turn that is idle.
use Rattle.std.proofs.Common.{◌≡◌, ℕ, zero, suc, ◌+◌, arith, subst, sym, ◌∙◌}
use Rattle.bx_core.specs.RouteTx.{RoutePast}
use Rattle.bx_rx.specs.RxOut.{Outlet, none_given}
use Rattle.gw_route.specs.Burst.{GoOn, IsBurst}
use Rattle.gw_route.specs.RouteHand.{HandValue, IsLinked}
use Rattle.gw_route.specs.Turn.{IsFull, TurnMade}
use Rattle.gw_route.specs.declared.burst.Burst.{Burst}
use Rattle.gw_route.specs.declared.turn_answer.TurnAnswer.TheVariants.{Idle}
use Rattle.gw_route.proofs.Idles.{asked_in_vain}

-- no turn stands before it
at_once : {T : Type 0} (after : T → RoutePast → Type 0) (before : ℕ) (side mid : T) (old between : HandValue) →
    before + 1 ≡ 1 → GoOn after before side mid old between → (mid ≡ side) × (between ≡ old)
at_once after zero side mid old between is go_on = go_on
at_once after (suc before) side mid old between is go_on = absurd (omega (arith, is))

-- behind it the FIFO gave nothing when it was asked last
pub idled_in_vain : {T : Type 0} (after : T → RoutePast → Type 0) (most : ℕ) (side late : T) (old new : HandValue)
    (burst : Burst) → IsLinked (after side) old → IsBurst after most side late old new burst → burst.turns ≡ 1 →
    burst.last ≡ Idle → IsFull old → (out : Outlet) × (new.out ≡ none_given out)
idled_in_vain after most side late old new burst linked made one idle filled =
    let turns = made.turns in
    let start = at_once after turns.before side turns.mid old turns.between (sym turns.turns_is ∙ one) turns.go_on in
    let last : TurnMade (after turns.mid) (after late) turns.between new Idle =
    subst (TurnMade (after turns.mid) (after late) turns.between new) idle turns.last in
    asked_in_vain (after late) (after side) old new linked
    (subst (λ h. TurnMade (after side) (after late) h new Idle) start.1
    (subst (λ t. TurnMade (after t) (after late) turns.between new Idle) start.0 last)) filled
