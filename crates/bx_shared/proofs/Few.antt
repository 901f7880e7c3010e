-- Of each route at most 16,777,215 requests were made, aborted, sent and reaped.
use Rattle.std.proofs.Common.{◌≡◌, ℕ, suc, ◌+◌, ◌<◌, ◌≤◌, List, [], ◌∷◌, ◌++◌, length, refl, sym, ap, ◌∙◌, arith}
use Rattle.std.proofs.Common.{inl, inr, Bool}
use Rattle.std.proofs.lemmas.Bool.Decides.{eqb_tells}
use Rattle.std.proofs.lemmas.List.{length-map, length-append}
use Rattle.bx_core.specs.declared.entry.Entry.{Entry}
use Rattle.bx_core.specs.Lists.{times}
use Rattle.bx_core.specs.States.{State, RouteLists, lists_of, numbers}
use Rattle.bx_core.specs.Steps.{greatest_number}
use Rattle.bx_core.specs.Law.{Law, IsRouteLawful}
use Rattle.bx_core.proofs.Times.{mark, times_self, times_other}
use Rattle.bx_core.proofs.Words.{times-append}
use Rattle.bx_shared.specs.declared.bus_view.BusView.{BusView}
use Rattle.bx_shared.specs.Shown.{FitsBus}
use Rattle.bx_shared.specs.BusSteps.{AreFew}
use Rattle.bx_shared.proofs.Counts.{few_requests}

-- a list without one of its elements
record IsWithout (x : ℕ) (ys : List ℕ) : Type 0 where
  pub rest : List ℕ
  pub size : length ys ≡ suc (length rest)
  pub each : (n : ℕ) → times n ys ≡ mark x n + times n rest

is_without : (x : ℕ) (ys : List ℕ) → 0 < times x ys → IsWithout x ys
is_without x [] h = absurd (omega arith)
is_without x (y ∷ ys) h = elim (eqb_tells y x) [
  | inl e ↦ record { rest = ys; size = refl; each = λ n. ap (λ z. mark z n + times n ys) e.1 }
  | inr e ↦ (let t : mark y x ≡ 0 = times_other y x e.1 in let d = is_without x ys (omega (arith, h, t)) in
      record { rest = y ∷ d.rest; size = ap suc d.size; each = λ n. let z = d.each n in omega arith })
]

-- a list has no more elements than one in which each number stands as often or more
fewer : (xs ys : List ℕ) → ((n : ℕ) → times n xs ≤ times n ys) → length xs ≤ length ys
fewer [] ys f = omega arith
fewer (x ∷ xs) ys f =
    let one : mark x x ≡ 1 = times_self x in
    let d = is_without x ys (let h = f x in omega arith) in
    let t = fewer xs d.rest (λ n. let h = f n in let z = d.each n in omega arith) in
    let size = d.size in
    omega arith

pub record IsFewOf (l : RouteLists) : Type 0 where
  pub aborted : length l.aborted ≤ greatest_number
  pub done : length l.done ≤ greatest_number
  pub reaped : length l.reaped ≤ greatest_number

pub few_of : (txfp : Bool) (l : RouteLists) (waits : List ℕ) → IsRouteLawful txfp l waits → IsFewOf l
few_of txfp l waits law =
    let most = few_requests txfp l waits law in
    let all : length (numbers l.requested) ≡ length l.requested = length-map l.requested (λ (e : Entry). e.number) in
    let done : length (numbers l.done) ≡ length l.done = length-map l.done (λ (e : Entry). e.number) in
    let a = fewer l.aborted (numbers l.requested) (λ n. let o = law.once n in omega arith) in
    let b = fewer (numbers l.done) (numbers l.requested) (λ n. let o = law.once n in omega arith) in
    let c = fewer l.reaped (numbers l.requested) (λ n. let o = law.once n in omega arith) in
    record { aborted = omega arith; done = omega arith; reaped = omega arith }

-- lists in which each number stands as often are of one length
same_size : (xs ys : List ℕ) → ((n : ℕ) → times n xs ≡ times n ys) → length xs ≡ length ys
same_size xs ys f =
    let a = fewer xs ys (λ n. let e = f n in omega arith) in
    let b = fewer ys xs (λ n. let e = f n in omega arith) in
    omega arith

four : List ℕ → List ℕ → List ℕ → List ℕ → List ℕ
four a b c d = ((a ++ b) ++ c) ++ d

times-four : (n : ℕ) (a b c d : List ℕ) → times n (four a b c d) ≡ times n a + times n b + times n c + times n d
unfolding four
times-four n a b c d =
    omega (arith, times-append n ((a ++ b) ++ c) d, times-append n (a ++ b) c, times-append n a b)

length-four : (a b c d : List ℕ) → length (four a b c d) ≡ length a + length b + length c + length d
unfolding four
length-four a b c d =
    omega (arith, length-append ((a ++ b) ++ c) d, length-append (a ++ b) c, length-append a b)

-- a route's requests are as many as those that were sent, aborted and reaped, and those that wait
pub add_up : (txfp : Bool) (l : RouteLists) (waits : List ℕ) → IsRouteLawful txfp l waits →
    length l.requested ≡ length l.done + length l.aborted + length l.reaped + length waits
add_up txfp l waits law =
    let requested : length (numbers l.requested) ≡ length l.requested =
    length-map l.requested (λ (e : Entry). e.number) in
    let done : length (numbers l.done) ≡ length l.done = length-map l.done (λ (e : Entry). e.number) in
    let same = same_size (numbers l.requested) (four (numbers l.done) l.aborted l.reaped waits)
    (λ n. law.once n ∙ sym (times-four n (numbers l.done) l.aborted l.reaped waits)) in
    let sum = length-four (numbers l.done) l.aborted l.reaped waits in
    omega arith

-- so it is of what the bus's seat knows
pub bus_few : (s : State) (b : BusView) → Law s → FitsBus s b → AreFew b
bus_few s b law f r =
    let t = few_of s.txfp (lists_of s r) _ (law.route r) in
    let d = ap length (f.stands.done_is r) in
    let e = ap length (f.stands.reaped_is r) in
    let x = t.done in
    let y = t.reaped in
    (omega arith, omega arith)
