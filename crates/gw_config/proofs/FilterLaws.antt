-- Banks of filters, set one after the other.
use Rattle.std.proofs.Common.{◌≡◌, ◌∙◌, ap, sym, refl, ℕ, suc, ◌+◌, ◌-◌, ◌<◌, ◌≤◌, List, [], ◌∷◌, ◌++◌, length, take}
use Rattle.std.proofs.Common.{get_or, replicate, slice_set, take-suc, length-take-le, length-append, add-one, arith}
use Rattle.bx_rx.specs.Bank.{BankValue, unlisted}
use Rattle.bx_rx.specs.Banks.{bank_count}
use Rattle.gw_config.specs.Filters.{filters_first}

-- the first of the banks that nobody set is set
set_next : (front : List BankValue) (f : BankValue) (more : ℕ) →
    slice_set (front ++ replicate (suc more) unlisted) (length front) f ≡ (front ++ f ∷ []) ++ replicate more unlisted
set_next [] f more = refl
set_next (x ∷ xs) f more = ap (λ ys. x ∷ ys) (set_next xs f more)

-- one filter more takes its bank
pub filters_more : (fs : List BankValue) (i : ℕ) (f : BankValue) → i < length fs → length fs ≤ 28 → f ≡ get_or fs i f →
    slice_set (filters_first (take i fs)) i f ≡ filters_first (take (i + 1) fs)
filters_more fs i f lt few is =
    let front = take i fs in
    let len : length front ≡ i = length-take-le i fs (omega (arith, lt)) in
    let next : take (i + 1) fs ≡ front ++ f ∷ [] =
    ap (λ n. take n fs) (add-one i) ∙ take-suc fs i f lt ∙ ap (λ x. front ++ x ∷ []) (sym is) in
    let more : ℕ = 27 - i in
    ap (λ n. slice_set (front ++ replicate n unlisted) i f)
    (let same : bank_count - length front ≡ suc more = omega (arith, len) in same)
    ∙ ap (λ k. slice_set (front ++ replicate (suc more) unlisted) k f) (sym len)
    ∙ set_next front f more
    ∙ ap (λ n. (front ++ f ∷ []) ++ replicate n unlisted)
    (let same : more ≡ bank_count - length (front ++ f ∷ []) = omega (arith, len, length-append front (f ∷ [])) in same)
    ∙ ap filters_first (sym next)
