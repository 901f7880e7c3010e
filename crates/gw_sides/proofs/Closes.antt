-- Controllers are closed one after another, and so are segments.
use Rattle.std.proofs.Common.{◌≡◌, ℕ, ◌+◌, ◌<◌, ◌≤◌, Bool, Option, Some, List, [], ◌∷◌, ◌++◌, length}
use Rattle.std.proofs.Common.{slice_get, sym, ap, subst, arith, ◌∙◌}
use Rattle.std.proofs.lemmas.Option.{slice_get_within}
use Rattle.bx_core.specs.RouteTx.{RoutePast}
use Rattle.bx_core.specs.TxBus.{BusPast}
use Rattle.bx_controller.specs.declared.port.Port.{Port}
use Rattle.gw_config.specs.Nodes.{controller_places}
use Rattle.gw_config.specs.Scripts.{ScriptValue}
use Rattle.gw_ending.specs.Ports.{Port as ClosedPort, Site as ClosedSite}
use Rattle.gw_opening.specs.Openings.{routes_at}
use Rattle.gw_site.specs.declared.site.Site.{Site}
use Rattle.bx_core.specs.Ties.{AreSides}
use Rattle.can_station.proofs.Places.{some_there, same_some}
use Rattle.gw_sides.specs.Seats.{seat_of, HoldsAll, Leaves, LeavesOn, Seated}
use Rattle.gw_sides.specs.Sets.{MayClose, ClosesPort, ClosesSite}
use Rattle.gw_sides.proofs.SeatLaws.{elsewhere, on_one_segment, one_place}

-- the places of one controller are as they were
abbrev pub SameFor : {S : Type 0} → ScriptValue → ℕ → List (Option S) → List (Option S) → Type 0
SameFor s controller first seats = (n : ℕ) → n < routes_at s controller →
    slice_get seats (seat_of s controller n) ≡ slice_get first (seat_of s controller n)

-- those of the controllers on a segment from this one on are
abbrev pub SameFrom : {S : Type 0} → ScriptValue → ℕ → ℕ → List (Option S) → List (Option S) → Type 0
SameFrom s segment nth first seats = (k controller : ℕ) → nth ≤ k →
    slice_get (controller_places s segment) k ≡ Some controller → SameFor s controller first seats

-- those of the controllers on the segments from this one on are
abbrev pub SameBehind : {S : Type 0} → ScriptValue → ℕ → List (Option S) → List (Option S) → Type 0
SameBehind s place first seats = (i k controller : ℕ) → place ≤ i →
    slice_get (controller_places s i) k ≡ Some controller → SameFor s controller first seats

-- the element that comes next of those that are walked through
pub next_there : {X : Type 0} (front : List X) (x : X) (rest left whole : List X) → front ++ left ≡ whole →
    left ≡ x ∷ rest → slice_get whole (length front) ≡ Some x
next_there [] x rest left whole is next = ap (λ xs. slice_get xs 0) (sym is ∙ next)
next_there (y ∷ front) x rest left [] is next = absurd (cc is)
next_there (y ∷ front) x rest left (z ∷ whole) is next = next_there front x rest left whole (cc is) next

module _ {S : Type 0} where
  pub same_more : (s : ScriptValue) (segment nth controller : ℕ) (first old new : List (Option S)) →
      slice_get (controller_places s segment) nth ≡ Some controller → Leaves s controller old new →
      SameFrom s segment nth first old → SameFrom s segment (nth + 1) first new
  same_more s segment nth controller first old new here l same k c above e n less =
      l.others (seat_of s c n)
      (elsewhere s controller c n less (λ is. let at = one_place s segment nth k controller c here e is in
      omega (arith, at, above))) ∙ same k c (omega (arith, above)) e n less

  pub behind_more : (s : ScriptValue) (place : ℕ) (first old new : List (Option S)) → LeavesOn s place old new →
      SameBehind s place first old → SameBehind s (place + 1) first new
  behind_more s place first old new l same i k c above e n less =
      l.others (seat_of s c n)
      (λ j d g. elsewhere s d c n less (λ is. let at = on_one_segment s i place k j c e (g ∙ ap Some is) in
      omega (arith, at, above))) ∙ same i k c (omega (arith, above)) e n less

module _ {B S : Type 0} (routes_of : B → ℕ) (side_of : B → ℕ → S → Type 0) where
  pub may_close_on : (s : ScriptValue) (controller : ℕ) (port : Port B) (first seats : List (Option S)) →
      SameFor s controller first seats → MayClose routes_of side_of s first controller port →
      MayClose routes_of side_of s seats controller port
  may_close_on s controller port first seats same m = record {
    routes_is = m.routes_is;
    seated = λ n less. (let side = m.seated n less in (side.0, same n less ∙ side.1, side.2));
  }

module _ {B S : Type 0} (bus_after : B → BusPast → Type 0) (route_after : S → RoutePast → Type 0) (txfp_of : B → Bool)
    (room : ℕ) where
  pub closes_on : (s : ScriptValue) (controller : ℕ) (port : Port B) (closed : ClosedPort)
      (first seats : List (Option S)) → SameFor s controller first seats →
      ClosesPort bus_after route_after txfp_of room s seats controller port closed →
      ClosesPort bus_after route_after txfp_of room s first controller port closed
  closes_on s controller port closed first seats same c = record {
    tied = λ n side did past less there. c.tied n side did past less (same n less ∙ there);
    beyond = c.beyond;
    few = c.few;
    banks_is = c.banks_is;
    first_is = c.first_is;
    second_is = c.second_is;
  }

  pub site_closes_on : (s : ScriptValue) (i : ℕ) (site : Site (Port B)) (closed : ClosedSite)
      (first seats : List (Option S)) → ((k controller : ℕ) → slice_get (controller_places s i) k ≡ Some controller →
      SameFor s controller first seats) →
      ClosesSite bus_after route_after txfp_of room s seats i site closed →
      ClosesSite bus_after route_after txfp_of room s first i site closed
  site_closes_on s i site closed first seats same c = record {
    segment_is = c.segment_is;
    ports =
        record {
          at = λ k port late e f. record {
            at = λ controller g. closes_on s controller port late first seats
                (same k controller g) ((c.ports.at k port late e f).at controller g);
          };
          size = c.ports.size;
        };
  }

module _ {B S : Type 0} (side_of : B → ℕ → S → Type 0) where
  -- the sides that were taken are those that stood there
  pub same_sides : (s : ScriptValue) (controller : ℕ) (mail : B) (sides : List S) (seats : List (Option S)) →
      length sides ≡ routes_at s controller → HoldsAll s controller sides seats →
      Seated side_of s controller mail seats → AreSides side_of mail sides
  same_sides s controller mail sides seats size holds seated n side e =
      let within = slice_get_within sides n side e in
      let there = seated n (omega (arith, within, size)) in
      let same : Some there.0 ≡ Some side = same_some (Some there.0) (Some side) (sym there.1 ∙ holds.at n side e) in
      subst (side_of mail n) (same_some there.0 side same) there.2

pub side_there : {S : Type 0} (s : ScriptValue) (controller number : ℕ) (side : S) (sides : List S)
    (seats : List (Option S)) → number < length sides → HoldsAll s controller sides seats →
    slice_get seats (seat_of s controller number) ≡ Some (Some side) →
    slice_get sides number ≡ Some side
side_there s controller number side sides seats less holds there =
    let found = some_there sides number less in
    let same : Some found.0 ≡ Some side =
    same_some (Some found.0) (Some side) (sym (holds.at number found.0 found.1) ∙ there) in
    found.1 ∙ same
