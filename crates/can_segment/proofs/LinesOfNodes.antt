-- What the lines of a bit tell of one node.
use Rattle.std.proofs.Common.{◌≡◌, ◌≢◌, ℕ, ◌+◌, ◌<◌, ◌≤◌, ◌==◌, Bool, true, false, cond, Some, List, [], ◌∷◌, ◌++◌}
use Rattle.std.proofs.Common.{length, slice_get, refl, ap, arith, ◌∙◌, eq-eqb, ne_eqb, zero, suc}
use Rattle.std.proofs.lemmas.List.{append-nil}
use Rattle.can_station.specs.declared.event.Event.{Event}
use Rattle.can_station.specs.declared.event.EventKind.{EventKind}
use Rattle.can_station.specs.declared.action.Action.{Action}
use Rattle.can_station.specs.declared.member.Member.{Member}
use Rattle.can_station.specs.Lines.{lines}
use Rattle.can_station.specs.Tellings.{start_of, rest_by, events_by, bit_lines}
use Rattle.can_segment.specs.Brought.{kinds_of}

pub of-append : (node : ℕ) (xs ys : List Event) → kinds_of node (xs ++ ys) ≡ kinds_of node xs ++ kinds_of node ys
of-append node [] ys = refl
of-append node (x ∷ xs) ys = by_test (x.node == node) (of-append node xs ys)
  where
    by_test : (b : Bool) → kinds_of node (xs ++ ys) ≡ kinds_of node xs ++ kinds_of node ys →
        cond b (x.kind ∷ kinds_of node (xs ++ ys)) (kinds_of node (xs ++ ys))
        ≡ cond b (x.kind ∷ kinds_of node xs) (kinds_of node xs) ++ kinds_of node ys
    by_test true e = ap (λ ts. x.kind ∷ ts) e
    by_test false e = e

pub of-same : (node bit : ℕ) (ts : List EventKind) → kinds_of node (lines bit node ts) ≡ ts
of-same node bit [] = refl
of-same node bit (t ∷ ts) =
    ap (λ b. cond b (t ∷ kinds_of node (lines bit node ts)) (kinds_of node (lines bit node ts))) (eq-eqb node node refl)
    ∙ ap (λ xs. t ∷ xs) (of-same node bit ts)

pub of-other : (node bit n : ℕ) (ts : List EventKind) → n ≢ node → kinds_of node (lines bit n ts) ≡ []
of-other node bit n [] ne = refl
of-other node bit n (t ∷ ts) ne =
    ap (λ b. cond b (t ∷ kinds_of node (lines bit n ts)) (kinds_of node (lines bit n ts))) (ne_eqb n node ne)
    ∙ of-other node bit n ts ne

-- nodes behind this one tell nothing of it
of-behind : (tells : Action → List EventKind) (bit first node : ℕ) (members : List Member) → node < first →
    kinds_of node (events_by tells bit first members) ≡ []
unfolding events_by
of-behind tells bit first node [] less = refl
of-behind tells bit first node (m ∷ ms) less =
    of-append node (lines bit first (tells m.action)) (events_by tells bit (first + 1) ms)
    ∙ ap (λ xs. xs ++ kinds_of node (events_by tells bit (first + 1) ms))
    (of-other node bit first (tells m.action) (λ e. omega (arith, e, less)))
    ∙ of-behind tells bit (first + 1) node ms (omega (arith, less))

-- nor do nodes in front of it
of-front : (tells : Action → List EventKind) (bit first node : ℕ) (members : List Member) → first + length members ≤ node →
    kinds_of node (events_by tells bit first members) ≡ []
unfolding events_by
of-front tells bit first node [] more = refl
of-front tells bit first node (m ∷ ms) more =
    of-append node (lines bit first (tells m.action)) (events_by tells bit (first + 1) ms)
    ∙ ap (λ xs. xs ++ kinds_of node (events_by tells bit (first + 1) ms))
    (of-other node bit first (tells m.action) (λ e. omega (arith, e, more)))
    ∙ of-front tells bit (first + 1) node ms (omega (arith, more))

-- and each node tells its own
of-its_own : (tells : Action → List EventKind) (bit first k : ℕ) (members : List Member) (m : Member) →
    slice_get members k ≡ Some m → kinds_of (first + k) (events_by tells bit first members) ≡ tells m.action
unfolding events_by
of-its_own tells bit first k [] m e = absurd (cc e)
of-its_own tells bit first zero (x ∷ ms) m e =
    let here : first + 0 ≡ first = omega arith in
    let same : x ≡ m = cc e in
    ap (λ n. kinds_of n (lines bit first (tells x.action) ++ events_by tells bit (first + 1) ms)) here
    ∙ of-append first (lines bit first (tells x.action)) (events_by tells bit (first + 1) ms)
    ∙ ap (λ xs. xs ++ kinds_of first (events_by tells bit (first + 1) ms)) (of-same first bit (tells x.action))
    ∙ ap (λ xs. tells x.action ++ xs) (of-behind tells bit (first + 1) first ms (omega arith))
    ∙ append-nil (tells x.action) ∙ ap (λ y. tells y.action) same
of-its_own tells bit first (suc k) (x ∷ ms) m e =
    let here : first + suc k ≡ first + 1 + k = omega arith in
    of-append (first + suc k) (lines bit first (tells x.action)) (events_by tells bit (first + 1) ms)
    ∙ ap (λ xs. xs ++ kinds_of (first + suc k) (events_by tells bit (first + 1) ms))
    (of-other (first + suc k) bit first (tells x.action) (λ e. omega (arith, e)))
    ∙ ap (λ n. kinds_of n (events_by tells bit (first + 1) ms)) here ∙ of-its_own tells bit (first + 1) k ms m e

-- what the lines of a bit tell of a controller
pub of_controller : (bit : ℕ) (talkers controllers : List Member) (k : ℕ) (m : Member) →
    slice_get controllers k ≡ Some m →
    kinds_of (length talkers + k) (bit_lines bit talkers controllers) ≡ start_of m.action ++ rest_by m.action
of_controller bit talkers controllers k m e =
    let n = length talkers + k in
    let half : (tells : Action → List EventKind) →
    kinds_of n (events_by tells bit 0 talkers ++ events_by tells bit (length talkers) controllers) ≡ tells m.action =
    λ tells. of-append n (events_by tells bit 0 talkers) (events_by tells bit (length talkers) controllers)
    ∙ ap (λ xs. xs ++ kinds_of n (events_by tells bit (length talkers) controllers))
    (of-front tells bit 0 n talkers (omega arith))
    ∙ of-its_own tells bit (length talkers) k controllers m e in
    of-append n (events_by start_of bit 0 talkers ++ events_by start_of bit (length talkers) controllers)
    (events_by rest_by bit 0 talkers ++ events_by rest_by bit (length talkers) controllers)
    ∙ ap (λ xs. xs ++ kinds_of n (events_by rest_by bit 0 talkers ++ events_by rest_by bit (length talkers) controllers))
    (half start_of)
    ∙ ap (λ xs. start_of m.action ++ xs) (half rest_by)
