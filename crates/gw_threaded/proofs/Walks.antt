-- Routes part one after another, and come together one after another.
use Rattle.std.proofs.Common.{◌≡◌, ◌≢◌, ℕ, zero, suc, ◌+◌, ◌<◌, ◌≤◌, inl, inr, Option, Some, List, [], ◌∷◌, ◌++◌}
use Rattle.std.proofs.Common.{length, map, slice_get, refl, sym, ap, arith, ◌∙◌, length-append}
use Rattle.std.proofs.lemmas.List.{append-nil}
use Rattle.std.proofs.lemmas.Option.{slice_get_within}
use Rattle.can_station.proofs.Places.{some_there, same_some}
use Rattle.gw_site.proofs.Pairs.{pushed}
use Rattle.gw_pool.specs.declared.courier.Courier.{Courier}
use Rattle.gw_opening.specs.declared.lane.Lane.{Lane}
use Rattle.gw_threaded.specs.declared.lead.Lead.{Lead}
use Rattle.gw_threaded.specs.Parts.{AreThere, HaveCome, HaveGates, HaveParted}

-- from this place on all is as it was
abbrev pub SameAbove : {X : Type 0} → ℕ → List (Option X) → List (Option X) → Type 0
SameAbove count old new = (place : ℕ) → count ≤ place → slice_get new place ≡ slice_get old place

pub same_above : {X : Type 0} (k : ℕ) (first old new : List (Option X)) →
    ((j : ℕ) → j ≢ k → slice_get new j ≡ slice_get old j) → SameAbove k first old → SameAbove (k + 1) first new
same_above k first old new others same place above =
    others place (λ e. omega (arith, above, e)) ∙ same place (omega (arith, above))

pub still_there : {X : Type 0} (count k : ℕ) (first slots : List (Option X)) → AreThere count first → k < count →
    SameAbove k first slots → (x : X) × (slice_get slots k ≡ Some (Some x))
still_there count k first slots there less same = let x = there k less in (x.0, same k (omega arith) ∙ x.1)

module _ {S G : Type 0} where
  -- the side of one courier more is at its place
  pub come_more : (couriers : List (Courier S G)) (courier : Courier S G) (first old new : List (Option S)) →
      slice_get new (length couriers) ≡ Some (Some courier.side) →
      ((j : ℕ) → j ≢ length couriers → slice_get new j ≡ slice_get old j) → length new ≡ length old →
      HaveCome couriers first old → HaveCome (couriers ++ courier ∷ []) first new
  come_more couriers courier first old new here others size h = record {
    at = λ k w e. elim (pushed couriers courier k w e) [
      | inl front ↦ (let within = slice_get_within couriers k w front in
          others k (λ same. omega (arith, same, within)) ∙ h.at k w front)
      | inr last ↦ ap (slice_get new) last.0 ∙ here ∙ ap (λ (v : Courier S G). Some (Some v.side)) last.1
    ];
    leaves = record {
      others = λ place above. others place (λ same. omega (arith, same, above, length-append couriers (courier ∷ [])))
          ∙ h.leaves.others place (omega (arith, above, length-append couriers (courier ∷ [])));
      size = size ∙ h.leaves.size;
    };
  }

pub come_none : {S G : Type 0} (seats : List (Option S)) → HaveCome {G = G} [] seats seats
come_none seats =
    record { at = λ k courier e. absurd (cc e); leaves = record { others = λ place above. refl; size = refl } }

-- one more at the back
pub map_pushed : {X Y : Type 0} (f : X → Y) (xs : List X) (x : X) (ys : List Y) → ys ≡ map f xs → ys
    ++ f x ∷ [] ≡ map f (xs ++ x ∷ [])
map_pushed f [] x ys e = ap (λ l. l ++ f x ∷ []) e
map_pushed f (z ∷ xs) x ys e = ap (λ l. l ++ f x ∷ []) e ∙ ap (λ l. f z ∷ l) (map_pushed f xs x (map f xs) refl)

pub map_there : {X Y : Type 0} (f : X → Y) (xs : List X) (k : ℕ) (x : X) → slice_get xs k ≡ Some x →
    slice_get (map f xs) k ≡ Some (f x)
map_there f [] k x e = absurd (cc e)
map_there f (y ∷ xs) zero x e = ap Some (ap f (same_some y x e))
map_there f (y ∷ xs) (suc k) x e = map_there f xs k x e

-- what was placed is there
pub placed_there : {X : Type 0} (xs : List X) (slots : List (Option X)) (count : ℕ) → slots ≡ map Some xs →
    count ≤ length xs → AreThere count slots
placed_there xs slots count is few k less =
    let x = some_there xs k (omega (arith, less, few)) in
    (x.0, ap (λ l. slice_get l k) is ∙ map_there Some xs k x.0 x.1)

-- each route has the gate at its place
pub have_gates : {S G : Type 0} (seats : List (Option S)) (gates : List G) (lanes : List Lane) (leads : List Lead)
    (couriers : List (Courier S G)) → length gates ≡ length lanes →
    HaveParted seats (map Some gates) lanes leads couriers → HaveGates gates couriers
have_gates seats gates lanes leads couriers size p = record {
  at = λ k gate courier e f. (let within = slice_get_within gates k gate e in
      let lane = some_there lanes k (omega (arith, within, size)) in
      let is = p.couriers_are.at k lane.0 courier lane.1 f in
      same_some courier.gate gate (same_some (Some courier.gate) (Some gate) (sym is.gate_there
      ∙ map_there Some gates k gate e)));
  size = p.couriers_are.size ∙ sym size;
}

-- what was walked through is as long as the whole: it is the whole
pub walked_all : {X : Type 0} (front left whole : List X) → front ++ left ≡ whole → length front ≡ length whole →
    front ≡ whole
walked_all front left whole e size = sym (append-nil front)
    ∙ ap (λ r. front ++ r) (sym (empty left (omega (arith, size, ap length e, length-append front left)))) ∙ e
  where
    empty : {X : Type 0} (xs : List X) → length xs ≡ 0 → xs ≡ []
    empty [] is = refl
    empty (x ∷ xs) is = absurd (omega (arith, is))

-- there are no more behind it than in the whole
pub walked_room : {X : Type 0} (front : List X) (x : X) (rest left whole : List X) → front ++ left ≡ whole →
    left ≡ x ∷ rest → length front + 1 ≤ length whole
walked_room front x rest left whole e is = omega (arith, ap length e, ap length is, length-append front left)
