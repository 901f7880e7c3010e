-- Frames whose numbers go up by one, and what stands at their front.
use Rattle.std.proofs.Common.{◌≡◌, ◌≢◌, ℕ, suc, ◌+◌, ◌<◌, ◌≤◌, inl, inr, List, [], ◌∷◌, ◌++◌, length, refl, sym, ◌∙◌}
use Rattle.std.proofs.Common.{ap, arith}
use Rattle.std.proofs.lemmas.Bool.Decides.{eqb_tells}
use Rattle.can_frame.specs.Frames.{FrameValue}
use Rattle.bx_core.specs.declared.entry.Entry.{Entry}
use Rattle.bx_core.specs.Lists.{Has}
use Rattle.bx_core.specs.States.{numbers}
use Rattle.bx_core.specs.Steps.{last_of}
use Rattle.gw_route.specs.RouteHand.{numbered}

pub length-numbered : (n : ℕ) (fs : List FrameValue) → length (numbered n fs) ≡ length fs
length-numbered n [] = refl
length-numbered n (f ∷ fs) = ap suc (length-numbered (n + 1) fs)

pub numbered-append : (n : ℕ) (fs gs : List FrameValue) → numbered n (fs ++ gs) ≡ numbered n fs
    ++ numbered (n + length fs) gs
numbered-append n [] gs = ap (λ k. numbered k gs) (let e : n ≡ n + 0 = omega arith in e)
numbered-append n (f ∷ fs) gs =
    let e : n + 1 + length fs ≡ n + suc (length fs) = omega arith in
    ap (λ (l : List Entry). record { number = n; frame = f } ∷ l) (numbered-append (n + 1) fs gs
    ∙ ap (λ k. numbered (n + 1) fs ++ numbered k gs) e)

-- the first number at the front
first_number : (n : ℕ) (f : FrameValue) (fs : List FrameValue) (x : Entry) (xs ys : List Entry) → (x ∷ xs)
    ++ ys ≡ numbered n (f ∷ fs) → x.number ≡ n
first_number n f fs x xs ys e = let q : x ≡ record { number = n; frame = f } = cc in ap (λ (p : Entry). p.number) q

-- the last number at the front
pub last_of-numbered : (n : ℕ) (fs : List FrameValue) (xs ys : List Entry) → xs ++ ys ≡ numbered (n + 1) fs →
    last_of n xs ≡ n + length xs
last_of-numbered n fs [] ys e = omega arith
last_of-numbered n [] (x ∷ xs) ys e = absurd (cc)
last_of-numbered n (f ∷ fs) (x ∷ xs) ys e =
    let a : x.number ≡ n + 1 = first_number (n + 1) f fs x xs ys e in
    let r : xs ++ ys ≡ numbered (n + 1 + 1) fs = cc in
    let more : n + 1 + length xs ≡ n + suc (length xs) = omega arith in
    ap (λ k. last_of k xs) a ∙ last_of-numbered (n + 1) fs xs ys r ∙ more

-- the number of the one behind those at the front
pub number-behind : (n : ℕ) (fs : List FrameValue) (xs : List Entry) (x : Entry) (ys : List Entry) → xs
    ++ x ∷ ys ≡ numbered (n + 1) fs → x.number ≡ n + length xs + 1
number-behind n [] [] x ys e = absurd (cc)
number-behind n [] (y ∷ xs) x ys e = absurd (cc)
number-behind n (f ∷ fs) [] x ys e = omega (arith, first_number (n + 1) f fs x [] ys e)
number-behind n (f ∷ fs) (y ∷ xs) x ys e =
    let r : xs ++ x ∷ ys ≡ numbered (n + 1 + 1) fs = cc in
    omega (arith, number-behind (n + 1) fs xs x ys r)

-- each number up to the last at the front stands there
pub has-numbered : (n k : ℕ) (fs : List FrameValue) (xs ys : List Entry) → xs ++ ys ≡ numbered (n + 1) fs → n < k →
    k ≤ n + length xs → Has (numbers xs) k
has-numbered n k fs [] ys e low high = absurd (omega arith)
has-numbered n k [] (x ∷ xs) ys e low high = absurd (cc)
has-numbered n k (f ∷ fs) (x ∷ xs) ys e low high =
    let a : x.number ≡ n + 1 = first_number (n + 1) f fs x xs ys e in
    let r : xs ++ ys ≡ numbered (n + 1 + 1) fs = cc in
    elim (eqb_tells k (n + 1)) [
      | inl b ↦ inl (a ∙ sym b.1)
      | inr b ↦ inr (has-numbered (n + 1) k fs xs ys r (let ne : k ≢ n + 1 = b.1 in omega arith) (omega arith))
    ]

-- and no other does
pub numbered-bounds : (n k : ℕ) (fs : List FrameValue) (xs ys : List Entry) → xs ++ ys ≡ numbered (n + 1) fs →
    Has (numbers xs) k → (n < k) × (k ≤ n + length xs)
numbered-bounds n k fs [] ys e h = absurd h
numbered-bounds n k [] (x ∷ xs) ys e h = absurd (cc)
numbered-bounds n k (f ∷ fs) (x ∷ xs) ys e (inl b) =
    let a : x.number ≡ n + 1 = first_number (n + 1) f fs x xs ys e in
    let c : k ≡ n + 1 = sym b ∙ a in
    (omega (arith, c), omega (arith, c))
numbered-bounds n k (f ∷ fs) (x ∷ xs) ys e (inr h) =
    let r : xs ++ ys ≡ numbered (n + 1 + 1) fs = cc in
    let more : (n + 1 < k) × (k ≤ n + 1 + length xs) = numbered-bounds (n + 1) k fs xs ys r h in
    (omega (arith, more.0), omega (arith, more.1))
