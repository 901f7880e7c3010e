-- Turns of a route that are made one behind the other.
use Rattle.std.specs.Prelude.{◌≡◌, ◌⊎◌, ℕ, zero, suc, ◌+◌, ◌≤◌, Bool, true, false}
use Rattle.bx_core.specs.RouteTx.{RoutePast}
use Rattle.gw_route.specs.RouteHand.{HandValue}
use Rattle.gw_route.specs.Turn.{TurnMade}
use Rattle.gw_route.specs.declared.burst.Burst.{Burst}
use Rattle.gw_route.specs.declared.turn_answer.TurnAnswer.{TurnAnswer}
use Rattle.gw_route.specs.declared.turn_answer.TurnAnswer.TheVariants.{Idle, Requested, AbortDone, Waiting}

-- a turn that is idle or waits is the last one of its burst
abbrev pub ends_burst : TurnAnswer → Bool
ends_burst Idle = true
ends_burst Requested = false
ends_burst AbortDone = false
ends_burst Waiting = true

-- So many turns, none of which ends the burst. `after` says what the route's side of the mailboxes may have done.
abbrev pub GoOn : {T : Type 0} → (T → RoutePast → Type 0) → ℕ → T → T → HandValue → HandValue → Type 0
GoOn after zero side late hand new = (late ≡ side) × (new ≡ hand)
GoOn {T} after (suc turns) side late hand new = (mid : T) × (between : HandValue) × (answer : TurnAnswer)
    × GoOn after turns side mid hand between × TurnMade (after mid) (after late) between new answer
    × (ends_burst answer ≡ false)

-- turns one behind the other, of which none but the last one may end the burst
pub record MakesTurns {T : Type 0} (after : T → RoutePast → Type 0) (side late : T) (hand new : HandValue)
    (burst : Burst) : Type 0 where
  pub before : ℕ
  pub turns_is : burst.turns ≡ before + 1
  pub mid : T
  pub between : HandValue
  pub go_on : GoOn after before side mid hand between
  pub last : TurnMade (after mid) (after late) between new burst.last

-- A burst: turns until one ends it, and at most so many.
pub record IsBurst {T : Type 0} (after : T → RoutePast → Type 0) (most : ℕ) (side late : T) (hand new : HandValue)
    (burst : Burst) : Type 0 where
  pub turns : MakesTurns after side late hand new burst
  pub few : burst.turns ≤ most
  pub ends : (ends_burst burst.last ≡ true) ⊎ (burst.turns ≡ most)
