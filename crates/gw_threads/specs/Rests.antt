-- When a worker ends: after tries in a row that came to nothing, each begun once all segments had made their bits.
use Rattle.std.specs.Prelude.{ℕ, ◌+◌, ◌&&◌, Bool, true, false, if◌then◌else◌}
use Rattle.gw_route.specs.declared.turn_answer.TurnAnswer.{TurnAnswer}
use Rattle.gw_route.specs.declared.turn_answer.TurnAnswer.TheVariants.{Idle, Waiting, Requested, AbortDone}

-- the turn came to nothing
abbrev pub is_rest : TurnAnswer → Bool
is_rest Idle = true
is_rest Waiting = true
is_rest Requested = false
is_rest AbortDone = false

-- so many such tries in a row, behind one more
abbrev pub rests_after : ℕ → TurnAnswer → Bool → ℕ
rests_after rests answer over = if over && is_rest answer then rests + 1 else 0
