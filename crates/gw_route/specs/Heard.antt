-- What a turn tells its gate, by its answer.
use Rattle.std.specs.Prelude.{◌≡◌, ◌⊎◌, List}
use Rattle.bx_core.specs.declared.answer.Sent.TheVariants.{Yes, NotNow}
use Rattle.bx_core.specs.declared.point.Point.{Point}
use Rattle.bx_core.specs.Gate.{HearsSteps, HearsAnswer}
use Rattle.gw_route.specs.declared.turn_answer.TurnAnswer.{TurnAnswer}
use Rattle.gw_route.specs.declared.turn_answer.TurnAnswer.TheVariants.{Idle, Requested, AbortDone, Waiting}

-- An idle turn makes no call. Else the gate hears of the one call: of a request its answer too, unless its number was
-- too large, and then nothing.
abbrev pub HearsTurn : {G : Type 0} → (G → List Point → Type 0) → TurnAnswer → G → G → Type 0
HearsTurn may_have_heard Idle old new = new ≡ old
HearsTurn may_have_heard Requested old new = HearsAnswer may_have_heard Yes old new
HearsTurn may_have_heard AbortDone old new = HearsSteps may_have_heard old new
HearsTurn may_have_heard Waiting old new = HearsAnswer may_have_heard NotNow old new
    ⊎ HearsSteps may_have_heard old new ⊎ (new ≡ old)
