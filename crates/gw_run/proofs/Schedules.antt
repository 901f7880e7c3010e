-- How many turns are due behind some ticks, and behind more.
use Rattle.std.proofs.Common.{List, [], ◌∷◌, Option, Some, None, zero, map, unwrap_or, slice_get, subst}
use Rattle.std.specs.Prelude.{IfSome}
use Rattle.std.proofs.Common.{◌≡◌, ◌≢◌, ℕ, suc, min, ◌+◌, ◌-◌, ◌*◌, ◌/◌, ◌%◌, ◌<◌, ◌≤◌, inl, inr, sym, ap, arith, ◌∙◌}
use Rattle.std.proofs.Math.Nat.{add-mul, div-add-mod, div-eq_of_lt-le, div-mul-le_self, le-mul_of_pos_right, mul_comm}
use Rattle.std.proofs.Math.Nat.{lt-div-mul-add, suc-mul, zero-div}
use Rattle.std.proofs.lemmas.Bool.{cases_lt}
use Rattle.std.proofs.lemmas.Nat.{le-div}
use Rattle.bx_core.specs.Lists.{Each}
use Rattle.can_station.proofs.Places.{same_some}
use Rattle.gw_config.specs.Controllers.{ControllerValue}
use Rattle.gw_config.specs.Routes.{RouteValue}
use Rattle.gw_config.specs.Scripts.{ScriptValue}
use Rattle.gw_config.specs.SoundScripts.{IsRouteIn, IsSound}
use Rattle.gw_run.specs.Schedules.{AreSchedules, HasTurned, IsSchedule, next_due, schedule_of}
use Rattle.gw_run.specs.declared.schedule.Schedule.{Schedule}

next_multiple : (q every : ℕ) → (q + 1) * every ≡ q * every + every
next_multiple q every = ap (λ n. n * every) (let one : q + 1 ≡ suc q = omega arith in one) ∙ suc-mul q every

-- the next turns are due behind a later tick
pub due_later : (s : Schedule) (ticks : ℕ) → 0 < s.every → ticks < next_due s ticks
due_later s ticks some =
    omega (arith, lt-div-mul-add {a = ticks} {b = s.every} some, next_multiple (ticks / s.every) s.every)

-- no turns are due behind a tick before the first one that is due
quotient-before : (every made tick : ℕ) → made < tick → tick < (made / every + 1) * every →
    (tick / every ≡ made / every) × (tick % every ≢ 0)
quotient-before every made tick more less =
    let low : made / every * every ≤ made = div-mul-le_self made every in
    let is : tick / every ≡ made / every = div-eq_of_lt-le every (omega (arith, low, more)) less in
    let parts : every * (tick / every) + tick % every ≡ tick = div-add-mod tick every in
    let at : every * (tick / every) ≡ made / every * every =
    ap (λ n. every * n) is ∙ mul_comm every (made / every) in
    (is, λ none. absurd (omega (arith, low, more, parts, at, none)))

-- they are due behind that one
quotient-at : (every made tick : ℕ) → 0 < every → tick ≡ (made / every + 1) * every →
    (tick / every ≡ made / every + 1) × (tick % every ≡ 0)
quotient-at every made tick some same =
    let q = made / every in
    let is : tick / every ≡ q + 1 = div-eq_of_lt-le every (omega (arith, same))
    (omega (arith, same, next_multiple (q + 1) every, some)) in
    let parts : every * (tick / every) + tick % every ≡ tick = div-add-mod tick every in
    let at : every * (tick / every) ≡ (q + 1) * every = ap (λ n. every * n) is ∙ mul_comm every (q + 1) in
    (is, omega (arith, same, parts, at))

-- no turns are made behind a tick at which none are due,
turned-before : (s : Schedule) (made tick old new : ℕ) → tick / s.every ≡ made / s.every → new ≡ old →
    HasTurned s made old → HasTurned s tick new
turned-before s made tick old new is same h =
    let all : tick / s.every * s.burst ≡ made / s.every * s.burst = ap (λ n. n * s.burst) is in
    record { at_least = omega (arith, h.at_least, is, same); at_most = omega (arith, h.at_most, all, same) }

-- and one to `burst` behind another
turned-at : (s : Schedule) (made tick old new turns : ℕ) → tick / s.every ≡ made / s.every + 1 → 1 ≤ turns →
    turns ≤ s.burst → new ≡ min (old + turns) 1000000 → HasTurned s made old → HasTurned s tick new
turned-at s made tick old new turns is some few more h =
    let next : (made / s.every + 1) * s.burst ≡ made / s.every * s.burst + s.burst =
    next_multiple (made / s.every) s.burst in
    let all : tick / s.every * s.burst ≡ (made / s.every + 1) * s.burst = ap (λ n. n * s.burst) is in
    record {
      at_least = omega (arith, h.at_least, is, some, more);
      at_most = omega (arith, h.at_most, all, next, few, more);
    }

-- what a route counts behind a tick, the first one at which turns are due, or one before it
pub turned_by : (s : Schedule) (made tick old new : ℕ) → 0 < s.every → made < tick → tick ≤ next_due s made →
    (tick % s.every ≡ 0 → (turns : ℕ) × (1 ≤ turns) × (turns ≤ s.burst)
    × (old ≤ 1000000 → new ≡ min (old + turns) 1000000)) →
    (tick % s.every ≢ 0 → new ≡ old) → HasTurned s made old → HasTurned s tick new
turned_by s made tick old new some more first due not_due h = elim (cases_lt tick (next_due s made)) [
  | inl less ↦
      let before = quotient-before s.every made tick more less in
      turned-before s made tick old new before.0 (not_due before.1) h
  | inr all ↦
      let at = quotient-at s.every made tick some (omega (arith, first, all)) in
      let turns = due at.1 in
      turned-at s made tick old new turns.0 at.0 turns.1 turns.2 (turns.3 (omega (arith, h.at_most))) h
]

-- each of these turns is idle, so one is made behind each tick at which turns are due
pub turned_idly : (s : Schedule) (made next old new : ℕ) → IsSchedule s → made ≤ next →
    new ≡ min (old + (next / s.every - made / s.every)) 1000000 → HasTurned s made old → HasTurned s next new
turned_idly s made next old new ok less is h =
    let low = div-mul-le_self made s.every in
    let fewer : made / s.every ≤ next / s.every =
    le-div (made / s.every) next s.every ok.every (omega (arith, low, less)) in
    let more = next / s.every - made / s.every in
    let some : more ≤ more * s.burst = le-mul_of_pos_right more (omega (arith, ok.burst)) in
    let parts : next / s.every ≡ made / s.every + more = omega (arith, fewer) in
    let all : next / s.every * s.burst ≡ made / s.every * s.burst + more * s.burst =
    ap (λ n. n * s.burst) parts ∙ add-mul (made / s.every) more s.burst in
    record {
      at_least = omega (arith, h.at_least, fewer, is);
      at_most = omega (arith, h.at_most, all, some, is);
    }

-- the schedules of a script's routes
every_of : (turn : ℕ) (every : Option ℕ) → 0 < turn → IfSome every (λ ticks. (1 ≤ ticks) × (ticks ≤ 1000000)) →
    0 < unwrap_or every turn
every_of turn None some within = some
every_of turn (Some ticks) some within = omega (arith, within.0)

are_schedules_by : (turn : ℕ) (controllers : List ControllerValue) (routes : List RouteValue) → 0 < turn →
    Each (IsRouteIn controllers) routes → AreSchedules (map (schedule_of turn) routes)
are_schedules_by turn controllers [] some each k s e = absurd (cc e)
are_schedules_by turn controllers (r ∷ rs) some each zero s e =
    let pace = each.0.3 in
    subst IsSchedule (same_some (schedule_of turn r) s e)
    (record { every = every_of turn r.pace.every some pace.0; burst = pace.1 })
are_schedules_by turn controllers (r ∷ rs) some each (suc k) s e =
    are_schedules_by turn controllers rs some each.1 k s e

pub are_schedules : (turn : ℕ) (s : ScriptValue) → 0 < turn → IsSound s →
    AreSchedules (map (schedule_of turn) s.routes)
are_schedules turn s some sound = are_schedules_by turn s.controllers s.routes some sound.routes

-- behind no tick
pub turned_first : (s : Schedule) → HasTurned s 0 0
turned_first s =
    let none : 0 / s.every ≡ 0 = zero-div s.every in
    record { at_least = omega (arith, none); at_most = omega arith }
