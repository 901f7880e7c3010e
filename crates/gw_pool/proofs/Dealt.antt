-- What is put in order, one after another.
use Rattle.std.proofs.Common.{◌≡◌, ℕ, suc, ◌+◌, ◌<◌, List, [], ◌∷◌, ◌++◌, Option, Some, None, length, slice_get, refl}
use Rattle.std.proofs.Common.{sym, ap, ◌∙◌, arith, append_assoc, length-append}
use Rattle.gw_pool.specs.declared.account.Account.{Account}
use Rattle.gw_pool.specs.Pool.{account, places, IsEven, weigh}
use Rattle.gw_pool.specs.Collecting.{AreFull}
use Rattle.gw_pool.proofs.Fair.{weigh-append}

-- the next of them stands behind those that were walked through
pub next_there : {X : Type 0} (front : List X) (x : X) (rest left whole : List X) → front ++ left ≡ whole →
    left ≡ x ∷ rest → slice_get whole (length front) ≡ Some x
next_there front x rest left whole e is =
    ap (λ l. slice_get l (length front)) (sym e ∙ ap (λ r. front ++ r) is) ∙ behind front x rest
  where
    behind : {X : Type 0} (front : List X) (x : X) (rest : List X) →
        slice_get (front ++ x ∷ rest) (length front) ≡ Some x
    behind [] x rest = refl
    behind (y ∷ front) x rest = behind front x rest

-- one place more
pub one_place : (old mid new : Account) (start : List ℕ) (n place : ℕ) → place ≡ n →
    mid ≡ account old.parts (start ++ places n) old.taken →
    new ≡ account mid.parts (mid.put ++ place ∷ []) mid.taken →
    new ≡ account old.parts (start ++ places (n + 1)) old.taken
one_place old mid new start n place is so put =
    let next : n + 1 ≡ suc n = omega arith in
    let whole : mid.put ++ place ∷ [] ≡ start ++ places (n + 1) =
    ap (λ (v : Account). v.put ++ place ∷ []) so ∙ ap (λ p. (start ++ places n) ++ p ∷ []) is
    ∙ append_assoc start (places n) (n ∷ []) ∙ ap (λ k. start ++ places k) (sym next) in
    put ∙ ap (λ l. account mid.parts l mid.taken) whole
    ∙ ap (λ (v : Account). account v.parts (start ++ places (n + 1)) v.taken) so

-- a baton that was taken is put back
pub even_on : (v w u : Account) (p q : ℕ) → w ≡ account v.parts v.put (v.taken ++ p ∷ []) →
    u ≡ account w.parts (w.put ++ q ∷ []) w.taken → q ≡ p → IsEven v → IsEven u
even_on v w u p q first then same even h =
    let put = ap (λ (y : Account). weigh h y.put) then in
    let taken = ap (λ (y : Account). weigh h y.taken) then in
    let put' = ap (λ (y : Account). weigh h y.put) first in
    let taken' = ap (λ (y : Account). weigh h y.taken) first in
    omega (
      arith,
      put,
      taken,
      put',
      taken',
      weigh-append h w.put (q ∷ []),
      weigh-append h v.taken (p ∷ []),
      ap h same,
      even h,
    )

-- where all places have something, the next one has
pub full_there : {Y : Type 0} (front : List (Option Y)) (rest left whole : List (Option Y)) (slot : Option Y) → front
    ++ left ≡ whole → left ≡ slot ∷ rest → AreFull whole → slot ≡ None → ⊥
full_there {Y} front rest left whole slot e is full none =
    let at : slice_get whole (length front) ≡ Some slot = next_there front slot rest left whole e is in
    let within : length front < length whole = omega (arith, ap length e, ap length is, length-append front left) in
    let y = full (length front) within in
    let differs : None ≡ Some y.0 = sym none ∙ same (sym at ∙ y.1) in cc
  where
    same : {X : Type 0} {a b : X} → Some a ≡ Some b → a ≡ b
    same e = cc e
