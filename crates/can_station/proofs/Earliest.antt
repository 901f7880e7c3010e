-- The least first bit of the ranges of a list from each place on.
use Rattle.std.proofs.Common.{◌≡◌, ◌≢◌, ℕ, ◌+◌, ◌<◌, ◌≤◌, Some, List, length, slice_get, set, inl, inr, sym, ap, arith, ◌∙◌}
use Rattle.std.proofs.lemmas.Bool.{cases_lt}
use Rattle.std.proofs.lemmas.List.{length-set}
use Rattle.can_station.specs.declared.fault_window.BitRange.{BitRange}
use Rattle.can_station.proofs.Places.{get_set_other, get_set_same, same_some}

-- from a place on they are noted, and this is the least one of all there
pub record EarliestFrom (place : ℕ) (ranges : List BitRange) (earliest : List ℕ) (least : ℕ) : Type 0 where
  pub size : length earliest ≡ length ranges
  pub at : (k j noted : ℕ) (range : BitRange) → place ≤ k → k ≤ j → slice_get earliest k ≡ Some noted →
      slice_get ranges j ≡ Some range → noted ≤ range.bit
  pub least_is : (j : ℕ) (range : BitRange) → place ≤ j → slice_get ranges j ≡ Some range → least ≤ range.bit

pub earliest_more : (place : ℕ) (ranges : List BitRange) (earliest : List ℕ) (least less : ℕ) (here : BitRange) →
    place < length ranges → slice_get ranges place ≡ Some here → less ≤ least → less ≤ here.bit →
    EarliestFrom (place + 1) ranges earliest least → EarliestFrom place ranges (set earliest place less) less
earliest_more place ranges earliest least less here room is a b h = record {
  size = length-set earliest place less ∙ h.size;
  at = λ k j noted range from order e f. elim (cases_lt place k) [
    | inl behind ↦ (
        let ne : k ≢ place = omega arith in
        h.at k j noted range (omega (arith, behind)) order (sym (get_set_other earliest place k less ne) ∙ e) f)
    | inr same ↦ (
        let at_place : k ≡ place = omega (arith, from, same) in
        let noted_is : less ≡ noted = same_some less noted
        (sym (get_set_same earliest place less (omega (arith, room, h.size)))
        ∙ ap (slice_get (set earliest place less)) (sym at_place) ∙ e) in
        let bound = least_there j range (omega (arith, from, order)) f in omega (arith, bound, noted_is))
  ];
  least_is = least_there;
}
  where
    least_there : (j : ℕ) (range : BitRange) → place ≤ j → slice_get ranges j ≡ Some range → less ≤ range.bit
    least_there j range from f = elim (cases_lt place j) [
      | inl behind ↦ (let bound = h.least_is j range (omega (arith, behind)) f in omega (arith, bound, a))
      | inr same ↦ (
          let at_place : place ≡ j = omega (arith, from, same) in
          let range_is : here ≡ range = same_some here range (sym is ∙ ap (slice_get ranges) at_place ∙ f) in
          let bit_is = ap (λ (r : BitRange). r.bit) range_is in omega (arith, b, bit_is))
    ]
