-- Laws of lists in an input.
use Rattle.std.proofs.Common.{◌≡◌, ℕ, suc, ◌+◌, ◌<◌, List, [], ◌∷◌, ◌++◌, length, drop, get_or, refl, sym, ap, ◌∙◌}
use Rattle.std.proofs.Common.{Result, Ok, Err, is_ok, is_err, false, if◌then◌else◌, drop-cons, add-one, length-append}
use Rattle.serde_json.specs.Data.{Data, item}
use Rattle.serde_json.specs.View.{view, items_view}
use Rattle.serde_json.specs.declared.value.Value.{Value}
use Rattle.gw_fields.specs.Faults.{Fault}
use Rattle.gw_fields.specs.Fields.{items_count, each_after, ◌>>=◌}

pub count-view : (vs : List Value) → items_count (items_view vs) ≡ length vs
count-view [] = refl
count-view (v ∷ vs) = ap suc (count-view vs)

-- the first element of what is left
next_element : (vs : List Value) (i : ℕ) (v : Value) → i < length vs → v ≡ get_or vs i v →
    items_view (drop i vs) ≡ item (view v) (items_view (drop (i + 1) vs))
next_element vs i v lt is =
    ap items_view (drop-cons vs i v lt) ∙ ap (λ w. item (view w) (items_view (drop (suc i) vs))) (sym is)
    ∙ ap (λ n. item (view v) (items_view (drop n vs))) (sym (add-one i))

-- one more element was read
pub each-step : {A : Type 0} (read : List A → Data → Result A Fault) (front : List A) (x : A) (vs : List Value)
    (i : ℕ) (v : Value) → i < length vs → v ≡ get_or vs i v →
    read front (view v) ≡ Ok x →
    each_after read (front ++ x ∷ []) (items_view (drop (i + 1) vs)) ≡ each_after read front (items_view (drop i vs))
each-step read front x vs i v lt is e =
    sym (ap (each_after read front) (next_element vs i v lt is)
    ∙ ap (λ r. r >>= λ y. each_after read (front ++ y ∷ []) (items_view (drop (i + 1) vs))) e)

-- an element that is refused
pub each-stops : {A : Type 0} (read : List A → Data → Result A Fault) (front : List A) (fault : Fault)
    (vs : List Value) (i : ℕ) (v : Value) → i < length vs → v ≡ get_or vs i v →
    read front (view v) ≡ Err fault →
    each_after read front (items_view (drop i vs)) ≡ Err fault
each-stops read front fault vs i v lt is e =
    ap (each_after read front) (next_element vs i v lt is)
    ∙ ap (λ r. r >>= λ y. each_after read (front ++ y ∷ []) (items_view (drop (i + 1) vs))) e

-- one more element was read and kept
pub each_grows : {A : Type 0} (read : List A → Data → Result A Fault) (old new front : List A) (x : A)
    (all : Result (List A) Fault) (vs : List Value) (i : ℕ) (v : Value) →
    i < length vs → v ≡ get_or vs i v → front ≡ old → read front (view v) ≡ Ok x → new ≡ old ++ x ∷ [] →
    each_after read old (items_view (drop i vs)) ≡ all →
    each_after read new (items_view (drop (i + 1) vs)) ≡ all
each_grows read old new front x all vs i v lt is front_is e new_is so_far =
    ap (λ xs. each_after read xs (items_view (drop (i + 1) vs))) new_is
    ∙ each-step read old x vs i v lt is (ap (λ xs. read xs (view v)) (sym front_is) ∙ e) ∙ so_far

-- a push that is not refused keeps the element
pub push_keeps : {A T E : Type 0} (r : Result T E) (old new : List A) (x : A) →
    new ≡ (if is_ok r then old ++ x ∷ [] else old) → false ≡ is_err r → new ≡ old ++ x ∷ []
push_keeps (Ok done) old new x new_is fits = new_is
push_keeps (Err e) old new x new_is fits = cc

-- one element more
pub count-snoc : {A : Type 0} (old new : List A) (x : A) (i : ℕ) → new ≡ old ++ x ∷ [] → length old ≡ i →
    length new ≡ i + 1
count-snoc old new x i new_is before = ap length new_is ∙ length-append old (x ∷ []) ∙ ap (λ n. n + 1) before
