-- The acts of all nodes at a bit, collected from what is known of each.
use Rattle.std.proofs.Common.{◌≡◌, ℕ, zero, suc, ◌+◌, Bool, ◌&&◌, Option, Some, List, [], ◌∷◌, ◌++◌, length, slice_get}
use Rattle.std.proofs.Common.{refl, sym, ap, subst, arith, ◌∙◌, append_assoc}
use Rattle.std.specs.List.{list_all}
use Rattle.can_station.specs.declared.event.EventKind.{EventKind}
use Rattle.can_station.specs.declared.action.Action.{Action}
use Rattle.can_station.specs.declared.member.Member.{Member}
use Rattle.can_segment.specs.Traces.{Act}
use Rattle.can_station.specs.Lines.{lines}
use Rattle.can_segment.specs.Tells.{lines_from}
use Rattle.can_station.specs.Tellings.{events_by}

-- an act for each node, of which this is known
pub record Collected {X : Type 0} (A : X → ℕ → Member → Member → Option Act → Type 0) (k : ℕ) (xs : List X)
    (mids afters : List Member) : Type 0 where
  pub acts : List (Option Act)
  pub size : length acts ≡ length xs
  pub at : (i : ℕ) (x : X) (mid after : Member) → slice_get xs i ≡ Some x → slice_get mids i ≡ Some mid →
      slice_get afters i ≡ Some after →
      (act : Option Act) × (slice_get acts i ≡ Some act) × A x (k + i) mid after act

first_of : {X : Type 0} (a b : X) → Some a ≡ Some b → a ≡ b
first_of a b e = cc e

pub collect : {X : Type 0} (A : X → ℕ → Member → Member → Option Act → Type 0) (k : ℕ) (xs : List X)
    (mids afters : List Member) → length mids ≡ length xs → length afters ≡ length xs →
    ((i : ℕ) (x : X) (mid after : Member) → slice_get xs i ≡ Some x → slice_get mids i ≡ Some mid →
    slice_get afters i ≡ Some after → (act : Option Act) × A x (k + i) mid after act) →
    Collected A k xs mids afters
collect A k [] mids afters em ea h = record { acts = []; size = refl; at = λ i x mid after p q r. absurd (cc p) }
collect A k (x ∷ xs) [] afters em ea h = absurd (omega (arith, em))
collect A k (x ∷ xs) (m ∷ mids) [] em ea h = absurd (omega (arith, ea))
collect {X = X} A k (x ∷ xs) (m ∷ mids) (a ∷ afters) em ea h =
    let first = h zero x m a refl refl refl in
    let more = collect A (k + 1) xs mids afters (omega (arith, em)) (omega (arith, ea))
    (λ i y mid after p q r. let next = h (suc i) y mid after p q r in
    (next.0, subst (λ n. A y n mid after next.0) (omega arith) next.1)) in
    record { acts = first.0 ∷ more.acts; size = omega (arith, more.size); at = at_of first more }
  where
    at_of : (first : (act : Option Act) × A x (k + 0) m a act) (more : Collected A (k + 1) xs mids afters) (i : ℕ)
        (y : X) (mid after : Member) → slice_get (x ∷ xs) i ≡ Some y →
        slice_get (m ∷ mids) i ≡ Some mid → slice_get (a ∷ afters) i ≡ Some after → (act : Option Act)
        × (slice_get (first.0 ∷ more.acts) i ≡ Some act) × A y (k + i) mid after act
    at_of first more zero y mid after p q r =
        let ex : x ≡ y = first_of x y p in
        let eq : m ≡ mid = first_of m mid q in
        let er : a ≡ after = first_of a after r in (
          first.0,
          refl,
          subst (λ z. A y (k + 0) mid z first.0) er
              (subst (λ z. A y (k + 0) z a first.0) eq (subst (λ z. A z (k + 0) m a first.0) ex first.1)),
        )
    at_of first more (suc i) y mid after p q r =
        let next = more.at i y mid after p q r in
        (next.0, next.1, subst (λ n. A y n mid after next.0) (omega arith) next.2)

pub get_left : {X : Type 0} (xs ys : List X) (i : ℕ) (x : X) → slice_get xs i ≡ Some x → slice_get (xs ++ ys) i ≡ Some x
get_left [] ys i x e = absurd (cc e)
get_left (y ∷ xs) ys zero x e = e
get_left (y ∷ xs) ys (suc i) x e = get_left xs ys i x e

pub get_right : {X : Type 0} (xs ys : List X) (i : ℕ) → slice_get (xs ++ ys) (length xs + i) ≡ slice_get ys i
get_right [] ys i = ap (slice_get ys) (omega arith)
get_right (y ∷ xs) ys i = ap (slice_get (y ∷ (xs ++ ys))) (next i) ∙ get_right xs ys i
  where
    next : (i : ℕ) → length (y ∷ xs) + i ≡ suc (length xs + i)
    next i = omega arith

-- two lists of the same length on which two tests agree, place by place
pub same_all : {X Y : Type 0} (p : X → Bool) (q : Y → Bool) (xs : List X) (ys : List Y) → length xs ≡ length ys →
    ((i : ℕ) (x : X) (y : Y) → slice_get xs i ≡ Some x → slice_get ys i ≡ Some y → p x ≡ q y) →
    list_all p xs ≡ list_all q ys
same_all p q [] [] e h = refl
same_all p q [] (y ∷ ys) e h = absurd (omega (arith, e))
same_all p q (x ∷ xs) [] e h = absurd (omega (arith, e))
same_all p q (x ∷ xs) (y ∷ ys) e h =
    ap (λ b. b && list_all p xs) (h zero x y refl refl)
    ∙ ap (λ b. q y && b) (same_all p q xs ys (omega (arith, e)) (λ i a b ea eb. h (suc i) a b ea eb))

-- what is reported of nodes by their places, and by their actions
pub lines_reported : (tells : ℕ → List EventKind) (by : Action → List EventKind) (bit node : ℕ) (members : List Member) →
    ((i : ℕ) (m : Member) → slice_get members i ≡ Some m → tells (node + i) ≡ by m.action) →
    lines_from tells bit node (length members) ≡ events_by by bit node members
unfolding events_by
lines_reported tells by bit node [] h = refl
lines_reported tells by bit node (m ∷ members) h =
    ap (λ t. lines bit node t ++ lines_from tells bit (suc node) (length members))
    (ap tells (omega arith) ∙ h zero m refl)
    ∙ ap (λ es. lines bit node (by m.action) ++ es) (ap (λ n. lines_from tells bit n (length members)) (omega arith)
    ∙ lines_reported tells by bit (node + 1) members (λ i x e. ap tells (omega arith) ∙ h (suc i) x e))

pub lines_split : (tells : ℕ → List EventKind) (bit node n m : ℕ) →
    lines_from tells bit node (n + m) ≡ lines_from tells bit node n ++ lines_from tells bit (node + n) m
lines_split tells bit node zero m =
    ap (λ k. lines_from tells bit node k) (omega arith) ∙ ap (λ k. lines_from tells bit k m) (omega arith)
lines_split tells bit node (suc n) m =
    ap (λ k. lines_from tells bit node k) (next n m)
    ∙ ap (λ es. lines bit node (tells node) ++ es) (lines_split tells bit (suc node) n m)
    ∙ sym (append_assoc (lines bit node (tells node)) (lines_from tells bit (suc node) n)
    (lines_from tells bit (suc node + n) m))
    ∙ ap (λ k. (lines bit node (tells node) ++ lines_from tells bit (suc node) n) ++ lines_from tells bit k m)
    (omega arith)
  where
    next : (n m : ℕ) → suc n + m ≡ suc (n + m)
    next n m = omega arith
