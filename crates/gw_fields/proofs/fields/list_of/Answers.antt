use Rattle.std.proofs.Common.{arith, ◌≡◌, ◌≤◌, ◌∙◌, sym, ap, refl, Some, ◌<◌, List, ℕ, Ok, Err, inl, inr}
use Rattle.std.proofs.lemmas.Bool.Decides.{leb_tells}
use Rattle.serde_json.specs.Data.{Data, Items}
use Rattle.serde_json.specs.View.{items_view}
use Rattle.serde_json.specs.Find.{as_array}
use Rattle.gw_fields.specs.Faults.{too_many}
use Rattle.gw_fields.specs.Fields.{list_of, items_count}
use Rattle.gw_fields.proofs.Lists.{count-view}
use Rattle.gw_fields.proofs.fields.list_of.Goals as goal

within : (name : List ℕ) (most : ℕ) (value : Data) (items : Items) (n : ℕ) → Some items ≡ as_array value → items_count items ≡ n → n ≤ most →
    list_of name most value ≡ Ok items
unfolding list_of
within name most value items n is count le = elim (leb_tells n most) [
  | inl fits ↦ rw (← is, count, fits.0) refl
  | inr over ↦ absurd (omega (arith, over.1, le))
]

beyond : (name : List ℕ) (most : ℕ) (value : Data) (items : Items) (n : ℕ) → Some items ≡ as_array value → items_count items ≡ n → most < n →
    list_of name most value ≡ Err (too_many name)
unfolding list_of
beyond name most value items n is count lt = elim (leb_tells n most) [
  | inl fits ↦ absurd (omega (arith, fits.1, lt))
  | inr over ↦ rw (← is, count, over.0) refl
]

pub returns-then-len-most-clause-value : goal.returns-then-len-most-clause-value
returns-then-len-most-clause-value c =
    within _ _ _ _ _ c.in-Some.ensures (count-view c.in-Some.items.now.items) (omega (arith, c.len.ensures, c.if-len-most.true))
    ∙ ap (λ vs. Ok (items_view vs)) (sym c.as_slice.ensures.value)

pub returns-else-len-most-clause-value : goal.returns-else-len-most-clause-value
returns-else-len-most-clause-value c =
    beyond _ _ _ _ _ c.in-Some.ensures (count-view c.in-Some.items.now.items) (omega (arith, c.len.ensures, c.if-len-most.false))
