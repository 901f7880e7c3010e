-- What follows from a reading that finds no fault.
use Rattle.std.proofs.Common.{◌≡◌, ◌∙◌, ap, sym, refl, subst, ℕ, ◌+◌, ◌≤◌, nat_le, length-append, List, [], ◌∷◌, ◌++◌}
use Rattle.std.proofs.Common.{length, Bool, true, false, Option, Some, None, Result, Ok, Err, if◌then◌else◌, arith}
use Rattle.std.proofs.lemmas.Bool.{leb-true}
use Rattle.serde_json.specs.Find.{as_array}
use Rattle.serde_json.specs.Data.{Data, Items, no_items, item}
use Rattle.gw_fields.specs.Faults.{Fault, wrong_kind, double_name, too_many}
use Rattle.gw_fields.specs.Fields.{◌>>=◌, or_fault, each_after, items_count, field, list, list_of}
use Rattle.gw_fields.specs.Names.{is_among, formed_name, new_name}

-- both steps find none
pub bind_ok : {A B : Type 0} (r : Result A Fault) (f : A → Result B Fault) (y : B) → (r >>= f) ≡ Ok y → (x : A)
    × (r ≡ Ok x) × (f x ≡ Ok y)
bind_ok (Ok x) f y e = (x, refl, e)
bind_ok (Err fault) f y e = cc

-- the same, for what is to follow from both
pub from_bind : {A B G : Type 0} (r : Result A Fault) (f : A → Result B Fault) (y : B) → (r >>= f) ≡ Ok y →
    ((x : A) → r ≡ Ok x → f x ≡ Ok y → G) → G
from_bind (Ok x) f y e go = go x refl e
from_bind (Err fault) f y e go = cc

-- a test that is to pass, and one that is to fail
pub passed_ok : {A : Type 0} (b : Bool) (x y : A) (fault : Fault) → (if b then Ok x else Err fault) ≡ Ok y → (b ≡ true)
    × (x ≡ y)
passed_ok true x y fault e = (refl, cc)
passed_ok false x y fault e = cc

pub failed_ok : {A : Type 0} (b : Bool) (x y : A) (fault : Fault) → (if b then Err fault else Ok x) ≡ Ok y → (b ≡ false)
    × (x ≡ y)
failed_ok true x y fault e = cc
failed_ok false x y fault e = (refl, cc)

pub found_ok : {A : Type 0} (fault : Fault) (o : Option A) (x : A) → or_fault fault o ≡ Ok x → o ≡ Some x
found_ok fault None x e = cc
found_ok fault (Some y) x e = cc

-- what holds in front of each element, and stays so behind it, holds of the whole list
pub each_after_keeps : {A : Type 0} (read : List A → Data → Result A Fault) (P : List A → Type 0) →
    ((front : List A) (d : Data) (x : A) → P front → read front d ≡ Ok x → P (front ++ x ∷ [])) →
    (front all : List A) (items : Items) → P front → each_after read front items ≡ Ok all → P all
each_after_keeps read P goes front all no_items here e = subst P (let same : front ≡ all = cc in same) here
each_after_keeps read P goes front all (item d ds) here e =
    let h = bind_ok (read front d) (λ x. each_after read (front ++ x ∷ []) ds) all e in
    each_after_keeps read P goes (front ++ h.0 ∷ []) all ds (goes front d h.0 here h.1) h.2

-- a new name is none of those that are taken
pub new_name_ok : (list_name : List ℕ) (taken : List (List ℕ)) (from : Data) (name : List ℕ) →
    new_name list_name taken from ≡ Ok name → is_among name taken ≡ false
unfolding new_name
new_name_ok list_name taken from name e =
    let h = bind_ok (formed_name from) (λ (read : List ℕ). if is_among read taken then Err
    (double_name list_name) else Ok read) name e in
    let t = failed_ok (is_among h.0 taken) h.0 name (double_name list_name) h.2 in
    ap (λ (one : List ℕ). is_among one taken) (sym t.1) ∙ t.0

-- as many elements as are listed
pub count_ok : {A : Type 0} (read : List A → Data → Result A Fault) (front all : List A) (items : Items) →
    each_after read front items ≡ Ok all →
    length all ≡ length front + items_count items
count_ok read front all no_items e =
    ap length (let same : all ≡ front = cc in same) ∙ (let same : length front ≡ length front + 0 = omega arith in same)
count_ok read front all (item d ds) e =
    let h = bind_ok (read front d) (λ x. each_after read (front ++ x ∷ []) ds) all e in
    count_ok read (front ++ h.0 ∷ []) all ds h.2
    ∙ (let same : length (front ++ h.0 ∷ []) + items_count ds ≡ length front + items_count (item d ds) =
    omega (arith, length-append front (h.0 ∷ [])) in same)

pub list_ok : (name : List ℕ) (most : ℕ) (from : Data) (items : Items) → list name most from ≡ Ok items →
    items_count items ≤ most
unfolding list list_of
list_ok name most from items e =
    let h = bind_ok (field name from) (list_of name most) items e in
    let i = bind_ok (or_fault (wrong_kind name) (as_array h.0))
    (λ (found : Items). if nat_le (items_count found) most then Ok found else Err (too_many name)) items h.2 in
    let t = passed_ok (nat_le (items_count i.0) most) i.0 items (too_many name) i.2 in
    let few : items_count i.0 ≤ most = leb-true (items_count i.0) most t.0 in
    let P : Items → Type 0 = λ found. items_count found ≤ most in
    subst P t.1 few
