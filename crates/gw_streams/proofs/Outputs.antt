-- A text that is written piece by piece.
use Rattle.std.proofs.Common.{◌≡◌, ◌∙◌, sym, ap, subst, ℕ, ◌+◌, ◌-◌, ◌≤◌, Option, Some, None, List, []}
use Rattle.std.proofs.Common.{◌++◌, take, drop, length, append_assoc, arith}
use Rattle.std.proofs.lemmas.List.{append-nil, take_all, take-append-drop, length-drop}
use Rattle.std.proofs.Math.Seq.{take-add, take-append-add, take-append_seam}
use Rattle.std.specs.Io.KnownBytes.{Appends, Keeps}

-- nothing yet
pub appends_none : (known : Option (List ℕ)) → Appends known known []
appends_none None = tt
appends_none (Some xs) = sym (append-nil xs)

pub appends_on : (a b c : Option (List ℕ)) (xs ys : List ℕ) → Appends a b xs → Appends b c ys → Appends a c (xs ++ ys)
appends_on None b c xs ys p q = tt
appends_on (Some xs0) None c xs ys p q = absurd p
appends_on (Some xs0) (Some bs) None xs ys p q = absurd q
appends_on (Some xs0) (Some bs) (Some cs) xs ys p q = q ∙ ap (λ zs. zs ++ ys) p ∙ append_assoc xs0 xs ys

-- one piece more
pub piece_more : (a b c : Option (List ℕ)) (written count : ℕ) (text : List ℕ) → Appends a b (take written text) →
    Appends b c (take count (drop written text)) →
    Appends a c (take (written + count) text)
piece_more a b c written count text p q =
    subst (Appends a c) (sym (take-add written count text))
    (appends_on a b c (take written text) (take count (drop written text)) p q)

-- and none more
pub piece_kept : (a b c : Option (List ℕ)) (xs : List ℕ) → Appends a b xs → Keeps b c → Appends a c xs
piece_kept None b c xs p q = tt
piece_kept (Some xs0) None c xs p q = absurd p
piece_kept (Some xs0) (Some bs) None xs p q = absurd q
piece_kept (Some xs0) (Some bs) (Some cs) xs p q = q ∙ p

-- what is left to write, as a slice of the text
pub rest_is : (written : ℕ) (text : List ℕ) → take (length text - written) (drop written text) ≡ drop written text
rest_is written text = take_all (length text - written) (drop written text) (omega (arith, length-drop written text))

pub piece_within : (written count : ℕ) (text : List ℕ) → written ≤ length text →
    count ≤ length (take (length text - written) (drop written text)) → written + count ≤ length text
piece_within written count text before bound =
    omega (arith, before, bound, ap length (rest_is written text), length-drop written text)

-- what was written already, and a front of the text that follows it, is a front of the whole
pub front_within : (front text rest whole : List ℕ) (n : ℕ) → front ++ (text ++ rest) ≡ whole →
    front ++ take n text ≡ take (length front + length (take n text)) whole
front_within front text rest whole n is =
    let begun = take n text in
    let left = drop n text ++ rest in
    let all : front ++ (begun ++ left) ≡ whole =
    ap (λ ys. front ++ ys) (sym (append_assoc begun (drop n text) rest))
    ∙ ap (λ ys. front ++ (ys ++ rest)) (take-append-drop n text) ∙ is in
    sym (ap (take (length front + length begun)) (sym all)
    ∙ take-append-add front (begun ++ left) (length begun)
    ∙ ap (λ ys. front ++ ys) (take-append_seam begun left))

-- so the output grows by a front of the whole, where it grew by the one and then by the other
pub front_written : (a b c : Option (List ℕ)) (front text rest whole : List ℕ) → Appends a b front →
    ((n : ℕ) × Appends b c (take n text)) → front ++ (text ++ rest) ≡ whole →
    (n : ℕ) × Appends a c (take n whole)
front_written a b c front text rest whole before begun is = (
  length front + length (take begun.0 text),
  subst (Appends a c) (front_within front text rest whole begun.0 is)
      (appends_on a b c front (take begun.0 text) before begun.1),
)
