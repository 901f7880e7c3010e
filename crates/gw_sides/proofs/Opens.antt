-- Controllers are opened one after another, and so are segments.
use Rattle.std.proofs.Common.{◌≡◌, ◌≢◌, ℕ, ◌+◌, ◌<◌, Bool, Option, Some, List, [], ◌∷◌, ◌++◌, length}
use Rattle.std.proofs.Common.{slice_get, refl, ap, arith, ◌∙◌}
use Rattle.std.proofs.lemmas.Option.{slice_get_within}
use Rattle.bx_controller.specs.declared.port.Port.{Port}
use Rattle.gw_config.specs.Nodes.{controller_places}
use Rattle.gw_config.specs.Scripts.{ScriptValue}
use Rattle.gw_opening.specs.Openings.{routes_at}
use Rattle.gw_site.proofs.Pairs.{PairsBelow, pairs_step}
use Rattle.gw_site.specs.declared.site.Site.{Site}
use Rattle.gw_sides.specs.Seats.{seat_of, HoldsAll, IsElsewhere, Leaves, LeavesOn, Seated}
use Rattle.bx_core.specs.RouteTx.{RoutePast}
use Rattle.bx_core.specs.Ties.{AreSides, AreNew}
use Rattle.can_station.proofs.Places.{some_there}
use Rattle.gw_config.specs.Segments.{SegmentValue}
use Rattle.gw_sides.specs.Sets.{IsNewSide, OpensPort, OpensSite}
use Rattle.gw_sides.proofs.SeatLaws.{elsewhere, on_one_segment, one_place}

-- all places but those of the first controllers on this segment are as they were
pub record LeavesBelow {S : Type 0} (s : ScriptValue) (segment nth : ℕ) (old new : List (Option S)) : Type 0 where
  pub others : (place : ℕ) →
      ((k controller : ℕ) → k < nth → slice_get (controller_places s segment) k ≡ Some controller →
      IsElsewhere s controller place) → slice_get new place ≡ slice_get old place
  pub size : length new ≡ length old

pub below-start : {S : Type 0} (s : ScriptValue) (segment : ℕ) (seats : List (Option S)) →
    LeavesBelow s segment 0 seats seats
below-start s segment seats = record { others = λ place away. refl; size = refl }

pub below-more : {S : Type 0} (s : ScriptValue) (segment nth controller : ℕ) (first old new : List (Option S)) →
    slice_get (controller_places s segment) nth ≡ Some controller → Leaves s controller old new →
    LeavesBelow s segment nth first old → LeavesBelow s segment (nth + 1) first new
below-more s segment nth controller first old new here l b = record {
  others = λ place away. l.others place (away nth controller (omega arith) here)
      ∙ b.others place (λ k c less e. away k c (omega (arith, less)) e);
  size = l.size ∙ b.size;
}

pub below-all : {S : Type 0} (s : ScriptValue) (segment nth : ℕ) (old new : List (Option S)) →
    LeavesBelow s segment nth old new → LeavesOn s segment old new
below-all s segment nth old new b =
    record { others = λ place away. b.others place (λ k c less e. away k c e); size = b.size }

module _ {B S : Type 0} (NewSet : Bool → ℕ → B → Type 0) (Rel : B → ℕ → S → Type 0) where
  -- a controller whose places are as they were
  port_on : (s : ScriptValue) (controller : ℕ) (port : Port B) (old new : List (Option S)) →
      ((n : ℕ) → n < routes_at s controller → slice_get new (seat_of s controller n)
      ≡ slice_get old (seat_of s controller n)) →
      OpensPort NewSet Rel s old controller port → OpensPort NewSet Rel s new controller port
  port_on s controller port old new same p = record {
    is_new = p.is_new;
    mail = p.mail;
    seated = λ n less. (let side = p.seated n less in (side.0, same n less ∙ side.1, side.2));
  }

  pub ports_more : (s : ScriptValue) (segment nth controller : ℕ) (ports : List (Port B)) (port : Port B)
      (old new : List (Option S)) → slice_get (controller_places s segment) nth ≡ Some controller →
      Leaves s controller old new → OpensPort NewSet Rel s new controller port →
      PairsBelow (λ k. OpensPort NewSet Rel s old) (controller_places s segment) ports nth →
      PairsBelow (λ k. OpensPort NewSet Rel s new) (controller_places s segment) (ports ++ port ∷ []) (nth + 1)
  ports_more s segment nth controller ports port old new here l opens b =
      pairs_step (λ k. OpensPort NewSet Rel s new) (controller_places s segment) ports nth controller port here opens
      (record {
        at = λ k c p e f. (let within = slice_get_within ports k p f in
            port_on s c p old new
            (λ n less. l.others (seat_of s c n)
            (elsewhere s controller c n less (λ same. let at = one_place s segment nth k controller c here e same in
            omega (arith, at, within, b.size)))) (b.at k c p e f));
        size = b.size;
      })

  pub site_on : (s : ScriptValue) (i segment : ℕ) (site : Site (Port B)) (old new : List (Option S)) → i ≢ segment →
      LeavesOn s segment old new → OpensSite NewSet Rel s old i site → OpensSite NewSet Rel s new i site
  site_on s i segment site old new ne l o = record {
    plan_is = o.plan_is;
    opens = o.opens;
    ports = record {
      at = λ k c p e f. port_on s c p old new
          (λ n less. l.others (seat_of s c n) (λ j d g. elsewhere s d c n less
          (λ same. ne (on_one_segment s i segment k j c e (g ∙ ap Some same))))) (o.ports.at k c p e f);
      size = o.ports.size;
    };
  }

  -- one segment more
  pub sites_more : (s : ScriptValue) (segment : ℕ) (said : SegmentValue) (sites : List (Site (Port B)))
      (site : Site (Port B)) (old new : List (Option S)) → slice_get s.segments segment ≡ Some said →
      LeavesOn s segment old new →
      OpensSite NewSet Rel s new segment site →
      PairsBelow (λ i said. OpensSite NewSet Rel s old i) s.segments sites segment →
      PairsBelow (λ i said. OpensSite NewSet Rel s new i) s.segments (sites ++ site ∷ []) (segment + 1)
  sites_more s segment said sites site old new here l opens b =
      pairs_step (λ i said. OpensSite NewSet Rel s new i) s.segments sites segment said site here opens (record {
        at = λ i other one e f. (let within = slice_get_within sites i one f in
            site_on s i segment one old new (λ same. omega (arith, same, within, b.size)) l (b.at i other one e f));
        size = b.size;
      })

-- the sides of new mailboxes stand at their places
pub seated : {B S : Type 0} (side_of : B → ℕ → S → Type 0) (after : S → RoutePast → Type 0) (s : ScriptValue)
    (controller : ℕ) (mail : B) (sides : List S) (seats : List (Option S)) → length sides ≡ routes_at s controller →
    AreSides side_of mail sides → AreNew after sides → HoldsAll s controller sides seats →
    Seated (IsNewSide side_of after) s controller mail seats
seated side_of after s controller mail sides seats size own new holds n less =
    let side = some_there sides n (omega (arith, size, less)) in
    (side.0, holds.at n side.0 side.1, (own n side.0 side.1, new n side.0 side.1))
