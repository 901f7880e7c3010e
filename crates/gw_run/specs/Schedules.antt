-- When the routes of a run in one thread make their turns.
use Rattle.std.specs.Prelude.{◌≡◌, ℕ, ◌+◌, ◌-◌, ◌*◌, ◌/◌, ◌<◌, ◌≤◌, min, Option, Some, None, unwrap_or, List, slice_get}
use Rattle.gw_config.specs.Routes.{RouteValue}
use Rattle.gw_config.specs.Scripts.{ScriptValue}
use Rattle.gw_script.specs.declared.report.Report.{Report}
use Rattle.gw_script.specs.declared.route_report.RouteReport.{RouteReport}
use Rattle.gw_route.specs.Turn.{turns_in}
use Rattle.gw_run.specs.declared.schedule.Schedule.{Schedule}

-- a route's own pace, where the run's `turn` stands for an `every` that is absent
abbrev pub schedule_of : ℕ → RouteValue → Schedule
schedule_of turn route = record { every = unwrap_or route.pace.every turn; burst = route.pace.burst }

-- turns are made behind every tick, or behind some of them, and one at least
pub record IsSchedule (s : Schedule) : Type 0 where
  pub every : 0 < s.every
  pub burst : 1 ≤ s.burst

abbrev pub AreSchedules : List Schedule → Type 0
AreSchedules schedules = (k : ℕ) (s : Schedule) → slice_get schedules k ≡ Some s → IsSchedule s

-- the number of the first tick behind so many at which turns are made
abbrev pub next_due : Schedule → ℕ → ℕ
next_due s ticks = (ticks / s.every + 1) * s.every

-- A route made one to `burst` turns behind each of these ticks whose number is a multiple of `every`. They are counted
-- up to a million.
pub record HasTurned (s : Schedule) (ticks turns : ℕ) : Type 0 where
  pub at_least : turns_in s.every ticks ≤ turns
  pub at_most : turns ≤ min (ticks / s.every * s.burst) 1000000

-- how often turns are made behind the ticks from so many until so many
abbrev pub idle_bursts : Option Schedule → ℕ → ℕ → ℕ
idle_bursts None made next = 0
idle_bursts (Some s) made next = next / s.every - made / s.every

-- so did each route of a report
abbrev pub EachTurned : ℕ → ScriptValue → Report → Type 0
EachTurned turn s report = (k : ℕ) (route : RouteValue) (r : RouteReport) → slice_get s.routes k ≡ Some route →
    slice_get report.routes.items k ≡ Some r → HasTurned (schedule_of turn route) s.bits r.turns
