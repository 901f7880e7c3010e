-- Each side has a place of its own.
use Rattle.std.proofs.Common.{◌≡◌, ◌≢◌, ℕ, ◌+◌, ◌<◌, ◌≤◌, ◌==◌, inl, inr, Option, None, Some, List, [], ◌∷◌, ◌++◌}
use Rattle.std.proofs.Common.{length, slice_get, refl, sym, ap, subst, arith, ◌∙◌}
use Rattle.std.proofs.lemmas.Bool.{cases_lt, eqb-true}
use Rattle.std.proofs.lemmas.Option.{slice_get_within}
use Rattle.can_station.proofs.Places.{some_there, same_some}
use Rattle.gw_config.specs.Controllers.{ControllerValue}
use Rattle.gw_config.specs.Nodes.{controller_places, route_places, route_at}
use Rattle.gw_config.specs.Routes.{RouteValue}
use Rattle.gw_config.specs.Scripts.{ScriptValue}
use Rattle.gw_site.proofs.Pairs.{pushed}
use Rattle.gw_opening.specs.Openings.{routes_at}
use Rattle.gw_config.specs.SoundScripts.{IsSound}
use Rattle.gw_opening.proofs.PlacesWhere.{place-passes, place-once, places-length}
use Rattle.gw_sides.specs.Seats.{seat_from, seat_of, HoldsAll, IsElsewhere, Leaves}

-- a route that has a number at a controller leads into it
route_there : (s : ScriptValue) (controller number route : ℕ) → route_at s controller number ≡ Some route →
    (value : RouteValue) × (slice_get s.routes route ≡ Some value) × (value.target ≡ controller)
route_there s controller number route is =
    let p = place-passes (λ (r : RouteValue). r.target == controller) 0 s.routes number route is in
    let at : p.nth ≡ route = omega (arith, p.place_is) in
    (p.element, ap (slice_get s.routes) (sym at) ∙ p.there, eqb-true p.element.target controller p.passes)

-- where a number below that of the sides belongs to no route, it is the only one
lone : (s : ScriptValue) (controller number : ℕ) → number < routes_at s controller →
    route_at s controller number ≡ None → number ≡ 0
lone s controller number less none = elim (cases_lt number (length (route_places s controller))) [
  | inl within ↦ (let found = some_there (route_places s controller) number within in absurd (cc (sym none ∙ found.1)))
  | inr beyond ↦ omega (arith, less, beyond)
]

same_target : (s : ScriptValue) (c d m n route other : ℕ) → route_at s c m ≡ Some route → route_at s d n ≡ Some other →
    route ≡ other → (c ≡ d) × (m ≡ n)
same_target s c d m n route other e f same =
    let p = route_there s c m route e in
    let q = route_there s d n other f in
    let value : p.0 ≡ q.0 = same_some p.0 q.0 (sym p.1 ∙ ap (slice_get s.routes) same ∙ q.1) in
    let target : c ≡ d = sym p.2 ∙ ap (λ (r : RouteValue). r.target) value ∙ q.2 in (
      target,
      place-once (λ (r : RouteValue). r.target == d) 0 s.routes other m n
          (subst (λ x. route_at s x m ≡ Some other) target (e ∙ ap Some same)) f,
    )

pub seats_apart : (s : ScriptValue) (c d m n : ℕ) → m < routes_at s c → n < routes_at s d →
    seat_of s c m ≡ seat_of s d n → (c ≡ d) × (m ≡ n)
seats_apart s c d m n p q same = by_routes (route_at s c m) (route_at s d n) refl refl same
  where
    by_routes : (a b : Option ℕ) → route_at s c m ≡ a → route_at s d n ≡ b →
        seat_from (length s.routes + c) a ≡ seat_from (length s.routes + d) b → (c ≡ d) × (m ≡ n)
    by_routes None None e f is = (omega (arith, is), lone s c m p e ∙ sym (lone s d n q f))
    by_routes None (Some other) e f is = (let there = route_there s d n other f in
        let within = slice_get_within s.routes other there.0 there.1 in absurd (omega (arith, is, within)))
    by_routes (Some route) None e f is = (let there = route_there s c m route e in
        let within = slice_get_within s.routes route there.0 there.1 in absurd (omega (arith, is, within)))
    by_routes (Some route) (Some other) e f is = same_target s c d m n route other e f is

-- the places of one controller are elsewhere for another one
pub elsewhere : (s : ScriptValue) (c d n : ℕ) → n < routes_at s d → c ≢ d → IsElsewhere s c (seat_of s d n)
elsewhere s c d n q ne m p same = ne ((seats_apart s c d m n p q (sym same)).0)

-- at most eight
pub few_sides : (s : ScriptValue) (c : ℕ) → IsSound s → routes_at s c ≤ 8
few_sides s c sound =
    let few = sound.few_into c in
    let same = places-length (λ (r : RouteValue). r.target == c) 0 s.routes in
    omega (arith, few, same)

-- it is on one segment, and one of the script's
pub on_one_segment : (s : ScriptValue) (i j k m c : ℕ) → slice_get (controller_places s i) k ≡ Some c →
    slice_get (controller_places s j) m ≡ Some c → i ≡ j
on_one_segment s i j k m c e f =
    let p = place-passes (λ (x : ControllerValue). x.segment == i) 0 s.controllers k c e in
    let q = place-passes (λ (x : ControllerValue). x.segment == j) 0 s.controllers m c f in
    let same : p.nth ≡ q.nth = omega (arith, p.place_is, q.place_is) in
    let value : p.element ≡ q.element =
    same_some p.element q.element (sym p.there ∙ ap (slice_get s.controllers) same ∙ q.there) in
    sym (eqb-true p.element.segment i p.passes) ∙ ap (λ (x : ControllerValue). x.segment) value
    ∙ eqb-true q.element.segment j q.passes

pub one_place : (s : ScriptValue) (i k m c d : ℕ) → slice_get (controller_places s i) k ≡ Some c →
    slice_get (controller_places s i) m ≡ Some d → c ≡ d → k ≡ m
one_place s i k m c d e f same =
    place-once (λ (x : ControllerValue). x.segment == i) 0 s.controllers d k m (e ∙ ap Some same) f

module _ {S : Type 0} where
  -- one side more is at its place
  pub holds_more : (s : ScriptValue) (c : ℕ) (sides : List S) (side : S) (old new : List (Option S)) →
      length sides < routes_at s c → slice_get new (seat_of s c (length sides)) ≡ Some (Some side) →
      ((k : ℕ) → k ≢ seat_of s c (length sides) → slice_get new k ≡ slice_get old k) → HoldsAll s c sides old →
      HoldsAll s c (sides ++ side ∷ []) new
  holds_more s c sides side old new less there others holds = record {
    at = λ n x e. elim (pushed sides side n x e) [
      | inl front ↦ (let within = slice_get_within sides n x front in
          others (seat_of s c n) (λ same. let both = seats_apart s c c n (length sides)
          (omega (arith, within, less)) less same in omega (arith, both.1, within)) ∙ holds.at n x front)
      | inr last ↦ ap (λ m. slice_get new (seat_of s c m)) last.0 ∙ there ∙ ap (λ y. Some (Some y)) last.1
    ];
  }

  pub leaves_more : (s : ScriptValue) (c n : ℕ) (first old new : List (Option S)) → n < routes_at s c →
      ((k : ℕ) → k ≢ seat_of s c n → slice_get new k ≡ slice_get old k) → length new ≡ length old →
      Leaves s c first old → Leaves s c first new
  leaves_more s c n first old new less others size l = record {
    others = λ place away. others place (away n less) ∙ l.others place away;
    size = size ∙ l.size;
  }

  pub leaves-self : (s : ScriptValue) (c : ℕ) (seats : List (Option S)) → Leaves s c seats seats
  leaves-self s c seats = record { others = λ place away. refl; size = refl }

  -- one side more was taken
  pub holds_pushed : (s : ScriptValue) (c : ℕ) (sides : List S) (side : S) (seats : List (Option S)) →
      slice_get seats (seat_of s c (length sides)) ≡ Some (Some side) → HoldsAll s c sides seats →
      HoldsAll s c (sides ++ side ∷ []) seats
  holds_pushed s c sides side seats there holds = record {
    at = λ n x e. elim (pushed sides side n x e) [
      | inl front ↦ holds.at n x front
      | inr last ↦ ap (λ m. slice_get seats (seat_of s c m)) last.0 ∙ there ∙ ap (λ y. Some (Some y)) last.1
    ];
  }

-- the sides of these numbers and above are where they were
abbrev pub Untaken : {S : Type 0} → ScriptValue → ℕ → ℕ → List (Option S) → List (Option S) → Type 0
Untaken s c number first seats =
    (n : ℕ) → number ≤ n → n < routes_at s c → slice_get seats (seat_of s c n) ≡ slice_get first (seat_of s c n)

module _ {S : Type 0} where
  pub untaken_more : (s : ScriptValue) (c number : ℕ) (first old new : List (Option S)) → number < routes_at s c →
      ((k : ℕ) → k ≢ seat_of s c number → slice_get new k ≡ slice_get old k) → Untaken s c number first old →
      Untaken s c (number + 1) first new
  untaken_more s c number first old new less others u n above q =
      others (seat_of s c n) (λ same. let both = seats_apart s c c n number q less same in omega (arith, both.1, above))
      ∙ u n (omega (arith, above)) q
