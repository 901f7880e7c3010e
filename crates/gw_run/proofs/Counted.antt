-- Laws of how many turns routes made, and of memory that was not refused.
use Rattle.std.proofs.Common.{◌≡◌, ℕ, zero, suc, ◌<◌, ◌≤◌, inl, inr, ◌⊎◌, false}
use Rattle.std.proofs.Common.{List, [], ◌∷◌, Some, map, option_map, slice_get, refl, sym, ap, subst, arith, ◌∙◌}
use Rattle.std.proofs.lemmas.Option.{slice_get-map, slice_get_within}
use Rattle.bx_core.specs.PlainMail.{short_of}
use Rattle.can_station.specs.Places.{AtPlaces}
use Rattle.can_station.proofs.Places.{same_some, some_there}
use Rattle.gw_config.specs.Scripts.{ScriptValue}
use Rattle.gw_opening.specs.declared.lane.Lane.{Lane}
use Rattle.gw_opening.specs.declared.place.Place.{Place}
use Rattle.gw_run.specs.Ports.{Port, Site}
use Rattle.gw_opening.specs.Openings.{IsNewLane}
use Rattle.gw_run.proofs.Starts.{new_mail_at}
use Rattle.gw_run.specs.Sites.{SiteMoves}
use Rattle.gw_opening.specs.Places.{IsAt, PortChanges}
use Rattle.gw_ending.specs.Finals.{turns_made, turns_reported}
use Rattle.gw_script.specs.declared.report.Report.{Report}
use Rattle.gw_script.specs.declared.route_report.RouteReport.{RouteReport}
use Rattle.gw_run.specs.Schedules.{AreSchedules, EachTurned, HasTurned, next_due, schedule_of}
use Rattle.gw_run.specs.Worlds.{Opens, LaneTurns, CountsByIts, HaveTurned, NoneShort, NoneTurns}
use Rattle.gw_run.specs.declared.schedule.Schedule.{Schedule}
use Rattle.gw_run.proofs.Schedules.{turned_by, turned_first}
use Rattle.gw_opening.proofs.Changes.{place_cases}
use Rattle.gw_site.proofs.Pairs.{pair_at}

cons_not_nil : (x : ℕ) (xs : List ℕ) → x ∷ xs ≡ [] → ⊥
cons_not_nil x xs e = cc

first_same : (x y : ℕ) (xs ys : List ℕ) → x ∷ xs ≡ y ∷ ys → x ≡ y
first_same x y xs ys e = cc

rest_same : (x y : ℕ) (xs ys : List ℕ) → x ∷ xs ≡ y ∷ ys → xs ≡ ys
rest_same x y xs ys e = cc

pub turned_on : (schedules : List Schedule) (made tick : ℕ) (old mid new : List Lane) → AreSchedules schedules →
    made < tick → ((k : ℕ) (s : Schedule) → slice_get schedules k ≡ Some s → tick ≤ next_due s made) →
    NoneTurns old mid → AtPlaces (CountsByIts schedules tick) mid new → HaveTurned schedules made old →
    HaveTurned schedules tick new
turned_on schedules made tick old mid new are more first none counts h k s lane is e =
    let between = some_there mid k (let within = slice_get_within new k lane e in omega (arith, within, counts.size)) in
    let before = some_there old k
    (let within = slice_get_within mid k between.0 between.1 in omega (arith, within, none.size)) in
    let by = counts.at k between.0 lane between.1 e s is in
    turned_by s made tick between.0.hand.turns lane.hand.turns (are k s is).every more (first k s is) by.due
    (λ none. (by.not_due none).0)
    (subst (HasTurned s made) (sym (none.at k before.0 between.0 before.1 between.1)) (h k s before.0 is before.1))

-- no turn was made since
pub turned_before : (schedules : List Schedule) (made : ℕ) (old new : List Lane) → NoneTurns old new →
    HaveTurned schedules made old → HaveTurned schedules made new
turned_before schedules made old new none h k s lane is e =
    let before = some_there old k (let within = slice_get_within new k lane e in omega (arith, within, none.size)) in
    subst (HasTurned s made) (sym (none.at k before.0 lane before.1 e)) (h k s before.0 is before.1)

pub none_turned : (s : ScriptValue) (sites : List Site) (lanes : List Lane) (schedules : List Schedule) →
    Opens s sites lanes → HaveTurned schedules 0 lanes
none_turned s sites lanes schedules o k schedule lane is e =
    subst (HasTurned schedule 0)
    (sym (pair_at (λ j route. IsNewLane s j route) s.routes lanes k lane o.opens.each_lane e).2.turns_is)
    (turned_first schedule)

-- the turns in a report are those of the route at its place
turns_at : (lanes : List Lane) (reports : List RouteReport) → turns_reported reports ≡ turns_made lanes → (k : ℕ)
    (r : RouteReport) → slice_get reports k ≡ Some r → (lane : Lane) × (slice_get lanes k ≡ Some lane)
    × (r.turns ≡ lane.hand.turns)
turns_at lanes [] same k r e = absurd (cc e)
turns_at [] (x ∷ reports) same k r e = absurd (cons_not_nil _ _ same)
turns_at (lane ∷ lanes) (x ∷ reports) same zero r e =
    (lane, refl, ap (λ (y : RouteReport). y.turns) (same_some r x (sym e)) ∙ first_same _ _ _ _ same)
turns_at (lane ∷ lanes) (x ∷ reports) same (suc k) r e = turns_at lanes reports (rest_same _ _ _ _ same) k r e

-- the reports have the turns that the routes made
pub each_turned : (turn : ℕ) (s : ScriptValue) (lanes : List Lane) (report : Report) →
    HaveTurned (map (schedule_of turn) s.routes) s.bits lanes →
    turns_reported report.routes.items ≡ turns_made lanes → EachTurned turn s report
each_turned turn s lanes report have same k route r is e =
    let at = turns_at lanes report.routes.items same k r e in
    subst (HasTurned (schedule_of turn route) s.bits) (sym at.2)
    (have k (schedule_of turn route) at.0
    (slice_get-map (schedule_of turn) s.routes k ∙ ap (option_map (schedule_of turn)) is) at.1)

-- a port of those behind a change of one: that one, or another
port_before : (Change : Port → Port → Type 0) (old new : List Site) (there : Place)
    (t : PortChanges Change old new there) (place : Place) (port : Port) → IsAt new place port →
    (port ≡ t.late) ⊎ IsAt old place port
port_before Change old new there t place port at =
    elim (place_cases old new there.site t.site t.late_site t.site_is t.late_site_is t.other_sites place.site at.site
    at.site_is) [
      | inl here ↦ elim (place_cases t.site.ports.items t.late_site.ports.items there.port t.port t.late t.port_is
          t.late_is t.other_ports place.port port
          (ap (λ (x : Site). slice_get x.ports.items place.port) (sym here.1) ∙ at.port_is)) [
            | inl it ↦ inl it.1
            | inr beside ↦ inr (record {
              site = t.site;
              site_is = ap (slice_get old) here.0 ∙ t.site_is;
              port_is = beside.1;
            })
          ]
      | inr other ↦ inr (record { site = at.site; site_is = other.1; port_is = at.port_is })
    ]

pub short_turn : (old new : List Site) (lane after : Lane) (t : LaneTurns old new lane after) →
    short_of t.at.late.mail ≡ false → NoneShort old → NoneShort new
short_turn old new lane after t unshort h place port at = elim (port_before _ old new lane.target t.at place port at) [
  | inl it ↦ ap (λ (p : Port). short_of p.mail) it ∙ unshort
  | inr before ↦ h place port before
]

-- no call of the bus side wants memory
pub short_bits : (old new : List Site) → AtPlaces (λ i. SiteMoves) old new → NoneShort old → NoneShort new
short_bits old new moves h place port at =
    let site = some_there old place.site (let within = slice_get_within new place.site at.site at.site_is in
    omega (arith, within, moves.size)) in
    let ports = (moves.at place.site site.0 at.site site.1 at.site_is).ports in
    let was = some_there site.0.ports.items place.port
    (let within = slice_get_within at.site.ports.items place.port port at.port_is in
    omega (arith, within, ports.size)) in
    (ports.at place.port was.0 port was.1 at.port_is).mail.short
    ∙ h place was.0 (record { site = site.0; site_is = site.1; port_is = was.1 })

pub none_short : (s : ScriptValue) (sites : List Site) (lanes : List Lane) → Opens s sites lanes → NoneShort sites
none_short s sites lanes o place port at = (new_mail_at s sites lanes place port o at).is_new.unshort
