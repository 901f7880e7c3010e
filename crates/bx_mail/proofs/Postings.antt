-- Laws of the words on posts.
use Rattle.std.proofs.Common.{◌≡◌, ◌≢◌, ℕ, ◌<◌, ◌≤◌, ◌==◌, Bool, true, false, cond, List, []}
use Rattle.std.proofs.Common.{◌∷◌, ◌++◌, refl, sym, ap, ◌∙◌, subst, arith, append_assoc, append-nil}
use Rattle.std.proofs.Common.{eq-eqb, ne_eqb}
use Rattle.std.proofs.lemmas.List.{map-append}
use Rattle.bx_core.specs.declared.entry.Entry.{Entry}
use Rattle.bx_core.specs.Lists.{Each, Rises}
use Rattle.bx_core.specs.States.{numbers}
use Rattle.bx_core.specs.Steps.{greatest_number, last_number, last_of}
use Rattle.bx_core.proofs.Words.{each-append, each_more, rises-push}
use Rattle.bx_mail.specs.declared.posting.Posting.{Posting}
use Rattle.bx_mail.specs.declared.posting.Asks.{Asks}
use Rattle.bx_mail.specs.declared.posting.Asks.TheVariants.{Transmit, Abort}
use Rattle.bx_mail.specs.Postings.{of, request_by, requests_in, abort_by, aborts_in, MayFollow, AreRising, AreOrderly}

pub of-append : (r : ℕ) (xs ys : List Posting) → of r (xs ++ ys) ≡ of r xs ++ of r ys
of-append r [] ys = refl
of-append r (x ∷ xs) ys = by_test (x.route == r) (of-append r xs ys)
  where
    by_test : (b : Bool) → of r (xs ++ ys) ≡ of r xs ++ of r ys →
        cond b (x ∷ of r (xs ++ ys)) (of r (xs ++ ys)) ≡ cond b (x ∷ of r xs) (of r xs) ++ of r ys
    by_test true e = ap (λ l. x ∷ l) e
    by_test false e = e

pub of-own : (r : ℕ) (x : Posting) → x.route ≡ r → of r (x ∷ []) ≡ x ∷ []
of-own r x e = ap (λ b. cond b (x ∷ []) []) (eq-eqb x.route r e)

pub of-other : (r : ℕ) (x : Posting) → x.route ≢ r → of r (x ∷ []) ≡ []
of-other r x e = ap (λ b. cond b (x ∷ []) []) (ne_eqb x.route r e)

pub requests_in-append : (xs ys : List Posting) → requests_in (xs ++ ys) ≡ requests_in xs ++ requests_in ys
requests_in-append [] ys = refl
requests_in-append (x ∷ xs) ys = ap (λ l. request_by x.number x.what ++ l) (requests_in-append xs ys)
    ∙ sym (append_assoc (request_by x.number x.what) (requests_in xs) (requests_in ys))

pub aborts_in-append : (xs ys : List Posting) → aborts_in (xs ++ ys) ≡ aborts_in xs ++ aborts_in ys
aborts_in-append [] ys = refl
aborts_in-append (x ∷ xs) ys = ap (λ l. abort_by x.number x.what ++ l) (aborts_in-append xs ys)
    ∙ sym (append_assoc (abort_by x.number x.what) (aborts_in xs) (aborts_in ys))

-- each number of a list is below a number that is above its last
below_last : (es : List Entry) (n k : ℕ) → Rises (numbers es) → last_of n es < k → Each (λ y. n < y) (numbers es) →
    (n < k) × Each (λ y. y < k) (numbers es)
below_last [] n k r h a = (h, tt)
below_last (e ∷ es) n k r h a =
    let t = below_last es e.number k r.1 h r.0 in (omega (arith, a.0, t.0), (t.0, t.1))

abbrev pub InRange : ℕ → Type 0
InRange n = (1 ≤ n) × (n ≤ greatest_number)

pub all_below : (es : List Entry) (k : ℕ) → AreRising es → last_number es < k → Each (λ y. y < k) (numbers es)
all_below es k h above =
    (below_last es 0 k h.rises above (each_more InRange (λ y. 0 < y) (numbers es)
    (λ y (i : InRange y). i.0) h.in_range)).1

rising-more : (es : List Entry) (e : Entry) → AreRising es → last_number es < e.number → e.number ≤ greatest_number →
    AreRising (es ++ e ∷ [])
rising-more es e h above most =
    let ns : numbers (es ++ e ∷ []) ≡ numbers es ++ e.number ∷ [] = map-append (λ (x : Entry). x.number) es (e ∷ []) in
    record {
      rises = subst Rises (sym ns) (rises-push (numbers es) e.number h.rises (all_below es e.number h above));
      in_range = subst (Each InRange) (sym ns)
          (each-append InRange (numbers es) (e.number ∷ []) h.in_range ((omega (arith, above), most), tt));
    }

rising_by : (ps : List Posting) (n : ℕ) (what : Asks) → AreRising (requests_in ps) → MayFollow ps n what →
    AreRising (requests_in ps ++ request_by n what)
rising_by ps n (Transmit f) h may = rising-more (requests_in ps) (record { number = n; frame = f }) h may.0 may.1
rising_by ps n Abort h may = subst AreRising (sym (append-nil (requests_in ps))) h

-- the requests of a route rise on with what may follow
pub rising-follow : (ps : List Posting) (x : Posting) → AreRising (requests_in ps) → MayFollow ps x.number x.what →
    AreRising (requests_in (ps ++ x ∷ []))
rising-follow ps x h may =
    subst AreRising (ap (λ l. requests_in ps ++ l) (sym (append-nil (request_by x.number x.what)))
    ∙ sym (requests_in-append ps (x ∷ []))) (rising_by ps x.number x.what h may)

each-front : {A : Type 0} (P : A → Type 0) (xs ys : List A) → Each P (xs ++ ys) → Each P xs
each-front P [] ys h = tt
each-front P (x ∷ xs) ys h = (h.0, each-front P xs ys h.1)

rises-front : (xs ys : List ℕ) → Rises (xs ++ ys) → Rises xs
rises-front [] ys h = tt
rises-front (x ∷ xs) ys h = (each-front (λ y. x < y) xs ys h.0, rises-front xs ys h.1)

pub rising-front : (es fs : List Entry) → AreRising (es ++ fs) → AreRising es
rising-front es fs h =
    let ns : numbers (es ++ fs) ≡ numbers es ++ numbers fs = map-append (λ (x : Entry). x.number) es fs in
    record {
      rises = rises-front (numbers es) (numbers fs) (subst Rises ns h.rises);
      in_range = each-front InRange (numbers es) (numbers fs) (subst (Each InRange) ns h.in_range);
    }

append_none : {A : Type 0} (xs ys : List A) → xs ++ ys ≡ [] → xs ≡ []
append_none [] ys e = refl
append_none (x ∷ xs) ys e = cc

pub orderly-front : (n : ℕ) (ps qs : List Posting) → AreOrderly n (ps ++ qs) → AreOrderly n ps
orderly-front n ps qs h = record {
  rising = λ r. rising-front (requests_in (of r ps)) (requests_in (of r qs))
      (subst AreRising (ap requests_in (of-append r ps qs) ∙ requests_in-append (of r ps) (of r qs)) (h.rising r));
  beyond = λ r le. append_none (of r ps) (of r qs) (sym (of-append r ps qs) ∙ h.beyond r le);
}
