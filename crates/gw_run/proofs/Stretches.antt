-- Stretches of bits at which each segment idles or is ahead.
use Rattle.std.proofs.Common.{◌≡◌, ◌&&◌, Bool, true, false, ℕ, ◌+◌, ◌-◌, ◌/◌, min}
use Rattle.std.proofs.Common.{◌<◌, ◌≤◌, Some, List, length, set, slice_get, refl, sym, ap, subst, inl, inr}
use Rattle.std.proofs.Common.{arith, ◌∙◌}
use Rattle.std.proofs.lemmas.Bool.{cases_eq, cases_lt}
use Rattle.std.proofs.lemmas.Option.{slice_get_within}
use Rattle.bx_core.specs.PlainMail.{core_of}
use Rattle.bx_core.specs.Stands.{RouteStands}
use Rattle.can_station.specs.Places.{AtPlaces}
use Rattle.can_station.proofs.Places.{get_set_other, get_set_same, same_some, some_there}
use Rattle.gw_route.specs.Plans.{FromPlan}
use Rattle.gw_route.specs.RouteHand.{HandValue, IsLinked, LogsReleased, hand_value}
use Rattle.gw_route.specs.Turn.{WaitsForFrame, idled}
use Rattle.gw_route.proofs.Idles.{linked_idled, planned_idled}
use Rattle.gw_opening.specs.declared.lane.Lane.{Lane}
use Rattle.gw_opening.specs.Places.{IsAt, slot_of}
use Rattle.gw_run.specs.Ports.{Site}
use Rattle.gw_run.specs.Sites.{Reaches, SiteIdles, SiteMoves}
use Rattle.gw_run.specs.Worlds.{AreFar, HaveMade, HaveMadeUpTo, HaveTurned, LaneIdles, LaneKeeps, LanesKeep, Leads}
use Rattle.gw_run.specs.Worlds.{MayIdle, NoneHasToDo, WorldHolds, idle_turns}
use Rattle.gw_run.specs.Schedules.{AreSchedules, idle_bursts}
use Rattle.gw_run.specs.declared.schedule.Schedule.{Schedule}
use Rattle.gw_run.proofs.Ahead.{ahead_least, ahead_up, idles_not, idles_on}
use Rattle.gw_run.proofs.Schedules.{turned_idly}

-- of some segments that made so many bits, or fewer, none made more than as many
pub made_up_to : (bits made most : ℕ) (sites : List Site) → made ≤ most → HaveMade bits made sites →
    HaveMadeUpTo bits most sites
made_up_to bits made most sites less h =
    record { of_bits = h.of_bits; ahead = λ i site e. (made, less, h.ahead i site e) }

pub up_to_more : (bits most more : ℕ) (sites : List Site) → most ≤ more → HaveMadeUpTo bits most sites →
    HaveMadeUpTo bits more sites
up_to_more bits most more sites less h = record {
  of_bits = h.of_bits;
  ahead = λ i site e. (let a = h.ahead i site e in (a.0, omega (arith, a.1, less), a.2));
}

pub both_true : (a b : Bool) → (a && b) ≡ true → (a ≡ true) × (b ≡ true)
both_true true b e = (refl, e)
both_true false b e = absurd (cc e)

-- the segments before a place are as far, and so is the one that is put there
pub far_put : (until : ℕ) (sites : List Site) (place : ℕ) (new : Site) → place < length sites →
    ((i : ℕ) (site : Site) → i < place → slice_get sites i ≡ Some site → until ≤ length site.segment.levels) →
    until ≤ length new.segment.levels → (i : ℕ) (site : Site) → i < place + 1 →
    slice_get (set sites place new) i ≡ Some site → until ≤ length site.segment.levels
far_put until sites place new within before far i site less e = elim (cases_eq i place) [
  | inl here ↦
      let same = same_some site new
      (sym e ∙ ap (slice_get (set sites place new)) here ∙ get_set_same sites place new within) in
      subst (λ (s : Site). until ≤ length s.segment.levels) (sym same) far
  | inr other ↦ before i site
      (elim (cases_lt i place) [
        | inl below ↦ below
        | inr above ↦ absurd (other (omega (arith, above, less)))
      ]) (sym (get_set_other sites place i new other) ∙ e)
]

-- bits of one segment
idles_up : (until more : ℕ) (a b : Site) → until ≤ more → SiteIdles until a b → SiteIdles more a b
idles_up until more a b less h = record {
  moves = h.moves;
  ports_are = h.ports_are;
  ahead = ahead_up until more b.segment less h.ahead;
  longer = h.longer;
  at_most = λ bits least before. h.at_most bits (omega (arith, less, least)) before;
}

-- and of all: none so far,
pub idle_start : (made : ℕ) (sites : List Site) → MayIdle made sites → AtPlaces (λ i. SiteIdles (made + 1)) sites sites
idle_start made sites may = record {
  at = λ i a b p q.
      let h = may i a p in
      subst (SiteIdles (made + 1) a) (same_some a b (sym p ∙ q))
      (idles_not (made + 1) a h.0 (ahead_up made (made + 1) a.segment (omega arith) h.1));
  size = refl;
}

-- more may follow,
pub may_idle_on : (until : ℕ) (old new : List Site) → AtPlaces (λ i. SiteIdles until) old new → MayIdle until new
may_idle_on until old new idle i site e =
    let before = some_there old i (let within = slice_get_within new i site e in omega (arith, within, idle.size)) in
    let h = idle.at i before.0 site before.1 e in
    (h.moves.holds, h.ahead)

-- and were more
pub idle_both : (until : ℕ) (old mid new : List Site) → AtPlaces (λ i. SiteIdles until) old mid →
    AtPlaces (λ i. SiteIdles until) mid new → AtPlaces (λ i. SiteIdles until) old new
idle_both until old mid new first next = record {
  at = λ i a c p r.
      let b = some_there mid i (let within = slice_get_within old i a p in omega (arith, within, first.size)) in
      idles_on until until a b.0 c (omega arith) (first.at i a b.0 p b.1) (next.at i b.0 c b.1 r);
  size = next.size ∙ first.size;
}

pub idle_up : (until more : ℕ) (old new : List Site) → until ≤ more → AtPlaces (λ i. SiteIdles until) old new →
    AtPlaces (λ i. SiteIdles more) old new
idle_up until more old new less h =
    record { at = λ i a b p q. idles_up until more a b less (h.at i a b p q); size = h.size }

-- none is less far behind them
pub far_on : (until made : ℕ) (old new : List Site) → AtPlaces (λ i. SiteIdles until) old new → AreFar made old →
    AreFar made new
far_on until made old new h far i site e =
    let before = some_there old i (let within = slice_get_within new i site e in omega (arith, within, h.size)) in
    omega (arith, far i before.0 before.1, (h.at i before.0 site before.1 e).longer)

-- those that made so many bits are as far
pub far_made : (bits made : ℕ) (sites : List Site) → HaveMade bits made sites → AreFar made sites
far_made bits made sites h i site e = ahead_least made site.segment (h.ahead i site e)

pub idle_moves : (until : ℕ) (old new : List Site) → AtPlaces (λ i. SiteIdles until) old new →
    AtPlaces (λ i. SiteMoves) old new
idle_moves until old new h = record { at = λ i a b p q. (h.at i a b p q).moves; size = h.size }

pub idle_made : (bits made until : ℕ) (old new : List Site) → until ≤ bits → HaveMade bits made old →
    AtPlaces (λ i. SiteIdles until) old new → HaveMadeUpTo bits until new
idle_made bits made until old new few h idle = record {
  of_bits = record {
    plans = λ i site e.
        let before = some_there old i (let within = slice_get_within new i site e in omega (arith, within, idle.size))
        in
        ap (λ p. p.bits) (idle.at i before.0 site before.1 e).moves.plan_is ∙ h.of_bits.plans i before.0 before.1;
    at_most = λ i site e.
        let before = some_there old i (let within = slice_get_within new i site e in omega (arith, within, idle.size))
        in
        (idle.at i before.0 site before.1 e).at_most bits few (h.of_bits.at_most i before.0 before.1);
  };
  ahead = λ i site e.
      let before = some_there old i (let within = slice_get_within new i site e in omega (arith, within, idle.size)) in
      (idle.at i before.0 site before.1 e).ahead;
}

-- a segment that gets up to a bit by itself gets up to an earlier one
pub reaches_sooner : (until later : ℕ) (site : Site) → until ≤ later → Reaches later site → Reaches until site
reaches_sooner until later site sooner (inl far) = inl (omega (arith, far, sooner))
reaches_sooner until later site sooner (inr idle) = inr (idle.0, omega (arith, idle.1, sooner))

-- what idle turns keep of a route
idles_keeps : (more : ℕ) (old new : Lane) → LaneIdles more old new → LaneKeeps old new
idles_keeps more old new h = record {
  source_is = h.source_is;
  fifo_is = h.fifo_is;
  target_is = h.target_is;
  number_is = h.number_is;
  queue_is = h.tied.0;
  size_is = h.tied.1;
  rewrites_is = h.tied.2;
  plan = λ planned p.
      subst (FromPlan planned) (sym h.hand_is) (planned_idled planned more (hand_value old.hand) p);
}

pub lanes_idled : (more : ℕ → ℕ) (old new : List Lane) → AtPlaces (λ k. LaneIdles (more k)) old new →
    LanesKeep old new
lanes_idled more old new h =
    record { at = λ k a b p q. idles_keeps (more k) a b (h.at k a b p q); size = h.size }

leads_idled : (more : ℕ) (sites : List Site) (old new : Lane) → LaneIdles more old new → Leads sites old →
    Leads sites new
leads_idled more sites old new h l = record {
  to = l.to;
  to_is = subst (λ place. IsAt sites place l.to) (sym h.target_is) l.to_is;
  holds = record {
    in_range = subst (λ n. n < length (core_of l.to.mail).routes) (sym h.number_is) l.holds.in_range;
    linked = subst (λ n. IsLinked (RouteStands (core_of l.to.mail) n) (hand_value new.hand)) (sym h.number_is)
        (subst (IsLinked (RouteStands (core_of l.to.mail) old.number)) (sym h.hand_is)
        (linked_idled (RouteStands (core_of l.to.mail) old.number) more (hand_value old.hand) l.holds.linked));
  };
  from = l.from;
  from_is = subst (λ place. IsAt sites place l.from) (sym h.source_is) l.from_is;
  takes = record {
    intake = l.takes.intake;
    slot_is = ap (slot_of l.from) h.fifo_is ∙ l.takes.slot_is;
    queue_is = l.takes.queue_is ∙ sym h.tied.0;
  };
  log = subst LogsReleased (sym h.hand_is) l.log;
}

pub world_idled : (more : ℕ → ℕ) (sites : List Site) (old new : List Lane) →
    AtPlaces (λ k. LaneIdles (more k)) old new → WorldHolds sites old → WorldHolds sites new
world_idled more sites old new h w = record {
  each_site = w.each_site;
  each_lane = λ k lane e.
      let before = before_of k lane e in
      leads_idled (more k) sites before.0 lane (h.at k before.0 lane before.1 e) (w.each_lane k before.0 before.1);
  apart = λ i j a b ne ea eb targets numbers.
      let x = before_of i a ea in
      let y = before_of j b eb in
      let hx = h.at i x.0 a x.1 ea in
      let hy = h.at j y.0 b y.1 eb in
      w.apart i j x.0 y.0 ne x.1 y.1 (sym hx.target_is ∙ targets ∙ hy.target_is)
      (sym hx.number_is ∙ numbers ∙ hy.number_is);
}
  where
    before_of : (k : ℕ) (lane : Lane) → slice_get new k ≡ Some lane → (b : Lane) × (slice_get old k ≡ Some b)
    before_of k lane e =
        some_there old k (let within = slice_get_within new k lane e in omega (arith, within, h.size))

-- idle turns leave a route with nothing to do
waits_idled : (more : ℕ) (h : HandValue) → WaitsForFrame h → WaitsForFrame (idled more h)
waits_idled more h w = record { none_held = w.none_held; none_due = w.none_due }

pub none_to_do : (more : ℕ → ℕ) (old new : List Lane) → AtPlaces (λ k. LaneIdles (more k)) old new →
    NoneHasToDo old → NoneHasToDo new
none_to_do more old new idle none = (
  λ k lane e.
      let before = before_of k lane e in
      let is = (idle.at k before.0 lane before.1 e).hand_is in
      let asked = none.0 k before.0 before.1 in
      (asked.0, ap (λ (v : HandValue). v.out) is ∙ asked.1),
  λ k lane e.
      let before = before_of k lane e in
      let is = (idle.at k before.0 lane before.1 e).hand_is in
      subst WaitsForFrame (sym is) (waits_idled (more k) (hand_value before.0.hand) (none.1 k before.0 before.1)),
)
  where
    before_of : (k : ℕ) (lane : Lane) → slice_get new k ≡ Some lane → (b : Lane) × (slice_get old k ≡ Some b)
    before_of k lane e =
        some_there old k (let within = slice_get_within new k lane e in omega (arith, within, idle.size))

pub idle_turned : (schedules : List Schedule) (made next : ℕ) (old new : List Lane) → AreSchedules schedules →
    made ≤ next → AtPlaces (λ k. LaneIdles (idle_turns schedules made next k)) old new →
    HaveTurned schedules made old → HaveTurned schedules next new
idle_turned schedules made next old new are less idle h k s lane is e =
    let before = some_there old k (let within = slice_get_within new k lane e in omega (arith, within, idle.size)) in
    let turns = ap (λ v. v.turns) (idle.at k before.0 lane before.1 e).hand_is in
    let more : idle_turns schedules made next k ≡ next / s.every - made / s.every =
    ap (λ o. idle_bursts o made next) is in
    turned_idly s made next before.0.hand.turns lane.hand.turns (are k s is) less
    (turns ∙ ap (λ n. min (before.0.hand.turns + n) 1000000) more) (h k s before.0 is before.1)
