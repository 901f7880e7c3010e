-- Lists of levels and of pairs: where one begins another, and runs of equal levels.
use Rattle.std.proofs.Common.{◌≡◌, ◌⊎◌, inl, inr, ℕ, zero, suc, ◌<◌, ◌≤◌, Bool, true, false, List, [], ◌∷◌, ◌++◌}
use Rattle.std.proofs.Common.{length, replicate, refl, sym, ap, arith, ◌∙◌}
use Rattle.std.proofs.lemmas.List.{append_assoc, append-nil, length-append}
use Rattle.can_node.specs.Pairs.{Pair, listening, dominating, driving, recessive, dominant}
use Rattle.can_node.specs.Copies.{sampled_in, driven_in}
use Rattle.can_node.specs.Waits.{Broken, Recoveries}
use Rattle.can_node.specs.Waits.Broken.{none, again}
use Rattle.can_node.specs.Waits.Recoveries.{no_run, one_more}
use Rattle.can_node.proofs.Texts.{sampled_listening, sampled_dominating, sampled_append}

-- what a node samples determines the levels
pub listening_front : (a b : List Bool) (r : List Pair) → listening b ≡ listening a ++ r → b ≡ a ++ sampled_in r
listening_front a b r e =
    sym (sampled_listening b) ∙ ap sampled_in e ∙ sampled_append (listening a) r
    ∙ ap (λ t. t ++ sampled_in r) (sampled_listening a)

pub listening_same : (a b : List Bool) → listening a ≡ listening b → a ≡ b
listening_same a b e = sym (sampled_listening a) ∙ ap sampled_in e ∙ sampled_listening b

pub dominating_front : (a b : List Bool) (r : List Pair) → dominating b ≡ dominating a ++ r → b ≡ a ++ sampled_in r
dominating_front a b r e =
    sym (sampled_dominating b) ∙ ap sampled_in e ∙ sampled_append (dominating a) r
    ∙ ap (λ t. t ++ sampled_in r) (sampled_dominating a)

pub dominating_same : (a b : List Bool) → dominating a ≡ dominating b → a ≡ b
dominating_same a b e = sym (sampled_dominating a) ∙ ap sampled_in e ∙ sampled_dominating b

pub driven_driving : (ds ls : List Bool) → length ds ≡ length ls → driven_in (driving ds ls) ≡ ds
driven_driving [] [] e = refl
driven_driving [] (l ∷ ls) e = refl
driven_driving (d ∷ ds) [] e = absurd (omega (arith, e))
driven_driving (d ∷ ds) (l ∷ ls) e = ap (λ t. d ∷ t) (driven_driving ds ls (omega (arith, e)))

-- of two beginnings of one list the one begins the other
pub fronts : {X : Type 0} (p q r s : List X) → p ++ r ≡ q ++ s →
    ((m : List X) × (q ≡ p ++ m)) ⊎ ((m : List X) × (p ≡ q ++ m))
fronts [] q r s e = inl (q, refl)
fronts (x ∷ p) [] r s e = inr (x ∷ p, refl)
fronts {X} (x ∷ p) (y ∷ q) r s e =
    let heads : x ≡ y = cc e in
    let tails : p ++ r ≡ q ++ s = cc e in
    both heads (fronts p q r s tails)
  where
    both : x ≡ y → ((m : List X) × (q ≡ p ++ m)) ⊎ ((m : List X) × (p ≡ q ++ m)) →
        ((m : List X) × (y ∷ q ≡ x ∷ (p ++ m))) ⊎ ((m : List X) × (x ∷ p ≡ y ∷ (q ++ m)))
    both h (inl m) = inl (m.0, (let t : q ≡ p ++ m.0 = m.1 in cc))
    both h (inr m) = inr (m.0, (let t : p ≡ q ++ m.0 = m.1 in cc))

-- a beginning is the whole, or stands before the last
pub before_last : {X : Type 0} (q p r : List X) (x : X) → q ++ x ∷ [] ≡ p ++ r →
    (p ≡ q ++ x ∷ []) ⊎ ((m : List X) × (q ≡ p ++ m))
before_last q [] r x e = inr (q, refl)
before_last {X} [] (y ∷ p) r x e = inl (nothing_left p r (let t : [] ≡ p ++ r = cc e in t))
  where
    same : x ≡ y
    same = cc e

    nothing_left : (p r : List X) → [] ≡ p ++ r → y ∷ p ≡ x ∷ []
    nothing_left [] r k = let h = same in cc
    nothing_left (z ∷ p) r k = absurd (cc k)
before_last {X} (z ∷ q) (y ∷ p) r x e =
    let tails : q ++ x ∷ [] ≡ p ++ r = cc e in
    let heads : z ≡ y = cc e in
    both heads (before_last q p r x tails)
  where
    both : z ≡ y → (p ≡ q ++ x ∷ []) ⊎ ((m : List X) × (q ≡ p ++ m)) →
        (y ∷ p ≡ z ∷ (q ++ x ∷ [])) ⊎ ((m : List X) × (z ∷ q ≡ y ∷ (p ++ m)))
    both h (inl is) = inl cc
    both h (inr m) = inr (m.0, (let t : q ≡ p ++ m.0 = m.1 in cc))

pub last_same : {X : Type 0} (p q : List X) (x y : X) → p ++ x ∷ [] ≡ q ++ y ∷ [] → (p ≡ q) × (x ≡ y)
last_same [] [] x y e = (refl, (let same : x ≡ y = cc e in same))
last_same [] (b ∷ q) x y e = absurd (omega (arith, ap length e, length-append (b ∷ q) (y ∷ [])))
last_same (a ∷ p) [] x y e = absurd (omega (arith, ap length e, length-append (a ∷ p) (x ∷ [])))
last_same (a ∷ p) (b ∷ q) x y e =
    let heads : a ≡ b = cc e in
    let tails : p ++ x ∷ [] ≡ q ++ y ∷ [] = cc e in
    let rest = last_same p q x y tails in
    let rest_is : p ≡ q = rest.0 in (cc, rest.1)

-- a list with something in it has a last
pub record HasLast {X : Type 0} (xs : List X) : Type 0 where
  pub before : List X
  pub last : X
  pub is : xs ≡ before ++ last ∷ []

pub has_last : {X : Type 0} (x : X) (xs : List X) → HasLast (x ∷ xs)
has_last x [] = record { before = []; last = x; is = refl }
has_last x (y ∷ xs) =
    let h = has_last y xs in record { before = x ∷ h.before; last = h.last; is = ap (λ t. x ∷ t) h.is }

pub nothing_more : {X : Type 0} (xs ys : List X) → xs ≡ xs ++ ys → ys ≡ []
nothing_more xs [] e = refl
nothing_more xs (y ∷ ys) e = absurd (omega (arith, ap length e, length-append xs (y ∷ ys)))

-- lists that begin one another are the same
pub both_ways : {X : Type 0} (xs ys p q : List X) → ys ≡ xs ++ p → xs ≡ ys ++ q → xs ≡ ys
both_ways xs ys [] q e h = sym (append-nil xs) ∙ sym e
both_ways xs ys (x ∷ p) q e h =
    absurd (omega (arith, ap length e, ap length h, length-append xs (x ∷ p), length-append ys q))

-- a run of one level ends at the first other one
pub run_is : (b c : Bool) (m n : ℕ) (r s : List Bool) → (b ≡ c → ⊥) →
    replicate m b ++ c ∷ r ≡ replicate n b ++ c ∷ s → m ≡ n
run_is b c zero zero r s differ e = refl
run_is b c zero (suc n) r s differ e = absurd (differ (let h : b ≡ c = cc e in h))
run_is b c (suc m) zero r s differ e = absurd (differ (let h : b ≡ c = cc e in h))
run_is b c (suc m) (suc n) r s differ e =
    ap suc (run_is b c m n r s differ (let t : replicate m b ++ c ∷ r ≡ replicate n b ++ c ∷ s = cc e in t))

pub no_other : (b c : Bool) (m n : ℕ) (r : List Bool) → (b ≡ c → ⊥) → replicate n b ≡ replicate m b ++ c ∷ r → ⊥
no_other b c zero zero r differ e = cc e
no_other b c (suc m) zero r differ e = cc e
no_other b c zero (suc n) r differ e = differ (let h : b ≡ c = cc e in h)
no_other b c (suc m) (suc n) r differ e =
    no_other b c m n r differ (let t : replicate n b ≡ replicate m b ++ c ∷ r = cc e in t)

pub no_dominant : (m n : ℕ) (r : List Bool) → recessive n ≡ recessive m ++ false ∷ r → ⊥
no_dominant m n r e = no_other true false m n r (λ h. cc h) e

-- dominant levels and then recessive ones: there are no more dominant ones in front
pub no_more_dominant : (n m k : ℕ) (r : List Bool) → dominant m ++ recessive k ≡ dominant n ++ r → n ≤ m
no_more_dominant zero m k r e = omega arith
no_more_dominant (suc n) zero zero r e = absurd (cc e)
no_more_dominant (suc n) zero (suc k) r e = absurd (cc e)
no_more_dominant (suc n) (suc m) k r e =
    omega (arith, no_more_dominant n m k r (let t : dominant m ++ recessive k ≡ dominant n ++ r = cc e in t))

pub no_fewer_dominant : (n m : ℕ) (r s : List Bool) → dominant m ++ s ≡ dominant n ++ true ∷ r → m ≤ n
no_fewer_dominant n zero r s e = omega arith
no_fewer_dominant zero (suc m) r s e = absurd (cc e)
no_fewer_dominant (suc n) (suc m) r s e =
    omega (arith, no_fewer_dominant n m r s (let t : dominant m ++ s ≡ dominant n ++ true ∷ r = cc e in t))

-- How many runs of eleven recessive levels are over behind a text, where `runs` of them were over before it, and so
-- many levels before the last were missing at the one that went on.
pub runs_over : (runs missing : ℕ) → List Bool → ℕ
runs_over runs missing [] = runs
runs_over runs missing (false ∷ text) = runs_over runs 10 text
runs_over runs zero (true ∷ text) = runs_over (suc runs) 10 text
runs_over runs (suc missing) (true ∷ text) = runs_over runs missing text

stays_over : (runs missing : ℕ) (text : List Bool) → runs ≤ runs_over runs missing text
unfolding runs_over
stays_over runs missing [] = omega arith
stays_over runs missing (false ∷ text) = stays_over runs 10 text
stays_over runs zero (true ∷ text) = omega (arith, stays_over (suc runs) 10 text)
stays_over runs (suc missing) (true ∷ text) = stays_over runs missing text

short_run : (runs missing n : ℕ) → n ≤ missing → runs_over runs missing (recessive n) ≡ runs
unfolding runs_over
short_run runs missing zero few = refl
short_run runs zero (suc n) few = absurd (omega (arith, few))
short_run runs (suc missing) (suc n) few = short_run runs missing n (omega (arith, few))

broken_run : (runs missing n : ℕ) (text : List Bool) → n ≤ missing →
    runs_over runs missing (recessive n ++ false ∷ text) ≡ runs_over runs 10 text
unfolding runs_over
broken_run runs zero zero text few = refl
broken_run runs (suc missing) zero text few = refl
broken_run runs zero (suc n) text few = absurd (omega (arith, few))
broken_run runs (suc missing) (suc n) text few = broken_run runs missing n text (omega (arith, few))

long_run : (runs : ℕ) (text : List Bool) → runs_over runs 10 (recessive 11 ++ text) ≡ runs_over (suc runs) 10 text
unfolding runs_over
long_run runs text = refl

broken_runs : {broken : List Bool} (runs : ℕ) (text : List Bool) → Broken broken →
    runs_over runs 10 (broken ++ text) ≡ runs_over runs 10 text
broken_runs runs text none = refl
broken_runs runs text (again {text = before} b n few) =
    ap (runs_over runs 10) (append_assoc (before ++ recessive n) (false ∷ []) text
    ∙ append_assoc before (recessive n) (false ∷ text))
    ∙ broken_runs runs (recessive n ++ false ∷ text) b ∙ broken_run runs 10 n text (omega (arith, few))

recovered_runs : {n : ℕ} {whole : List Bool} (text : List Bool) → Recoveries n whole →
    runs_over 0 10 (whole ++ text) ≡ runs_over n 10 text
recovered_runs text no_run = refl
recovered_runs text (one_more {n = n} {text = before} {broken = broken} runs b) =
    ap (runs_over 0 10) (append_assoc (before ++ broken) (recessive 11) text
    ∙ append_assoc before broken (recessive 11 ++ text))
    ∙ recovered_runs (broken ++ (recessive 11 ++ text)) runs ∙ broken_runs n (recessive 11 ++ text) b ∙ long_run n text

-- a node that was switched on has not heard eleven recessive levels yet, or it has
pub not_synced : (broken whole text : List Bool) (n : ℕ) → Broken broken → n < 11 → Broken whole →
    broken ++ recessive n ≡ (whole ++ recessive 11) ++ text → ⊥
not_synced broken whole text n b few w e =
    let early : runs_over 0 10 (broken ++ recessive n) ≡ 0 =
    broken_runs 0 (recessive n) b ∙ short_run 0 10 n (omega (arith, few)) in
    let late : runs_over 0 10 ((whole ++ recessive 11) ++ text) ≡ runs_over 1 10 text =
    ap (runs_over 0 10) (append_assoc whole (recessive 11) text) ∙ broken_runs 0 (recessive 11 ++ text) w
    ∙ long_run 0 text in
    omega (arith, sym early ∙ ap (runs_over 0 10) e ∙ late, stays_over 1 10 text)

-- and so it is with the 128 runs of bus off
pub not_recovered : (runs n : ℕ) (rest broken whole text : List Bool) → runs < 128 → Recoveries runs rest →
    Broken broken → n < 11 → Recoveries 128 whole → rest ++ broken ++ recessive n ≡ whole ++ text → ⊥
not_recovered runs n rest broken whole text below counted b few all e =
    let early : runs_over 0 10 (rest ++ broken ++ recessive n) ≡ runs =
    ap (runs_over 0 10) (append_assoc rest broken (recessive n)) ∙ recovered_runs (broken ++ recessive n) counted
    ∙ broken_runs runs (recessive n) b ∙ short_run runs 10 n (omega (arith, few)) in
    omega (
      arith,
      sym early ∙ ap (runs_over 0 10) e ∙ recovered_runs text all,
      stays_over 128 10 text,
      below,
    )
