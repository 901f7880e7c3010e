-- The best filter of the banks passed so far, and that at most one filter is the chosen one.
use Rattle.std.proofs.Common.{◌≡◌, ℕ, zero, suc, ◌+◌, ◌<◌, true, false, true≢false, List, length, take, get_or, Option}
use Rattle.std.proofs.Common.{None, Some, refl, sym, ap, ◌∙◌, subst, inl, inr, ◌⊎◌, arith}
use Rattle.std.specs.Prelude.{slice_get}
use Rattle.std.proofs.lemmas.Option.{slice_get_within, slice_get-get_or}
use Rattle.can_frame.specs.Frames.{FrameValue}
use Rattle.bx_rx.specs.declared.scale.Scale.{Scale}
use Rattle.bx_rx.specs.declared.scale.Scale.TheVariants.{Bits32, Bits16}
use Rattle.bx_rx.specs.declared.mode.Mode.{Mode}
use Rattle.bx_rx.specs.declared.mode.Mode.TheVariants.{Mask, List as Identifiers}
use Rattle.bx_rx.specs.Bank.{BankValue, filters_of, at_scale, IsFirstAmong, IsFirstMatch, MatchesAt, Outranks}
use Rattle.bx_rx.specs.Images.{image32, image16}
use Rattle.bx_rx.specs.Banks.{Placed, IsMatching, Precedes, IsBest, IsFound, OneChosen, bank_count, count_of}

abbrev SameRank : BankValue → BankValue → Type 0
SameRank a b = (a.scale ≡ b.scale) × (a.mode ≡ b.mode)

apart-scale : Bits16 ≡ Bits32 → ⊥
apart-scale e = cc

apart-mode : Mask ≡ Identifiers → ⊥
apart-mode e = cc

-- what outranks a bank, or ranks with it, outranks what it outranks
outranks-trans : (a b c : BankValue) → Outranks a b ⊎ SameRank a b → Outranks b c → Outranks a c
outranks-trans a b c (inl (inl x)) (inl y) = absurd (apart-scale (sym x.1 ∙ y.0))
outranks-trans a b c (inl (inl x)) (inr y) = inl (x.0, sym y.0 ∙ x.1)
outranks-trans a b c (inl (inr x)) (inl y) = inl (x.0 ∙ y.0, y.1)
outranks-trans a b c (inl (inr x)) (inr y) = absurd (apart-mode (sym x.2 ∙ y.1))
outranks-trans a b c (inr x) (inl y) = inl (x.0 ∙ y.0, y.1)
outranks-trans a b c (inr x) (inr y) = inr (x.0 ∙ y.0, x.1 ∙ y.1, y.2)

-- one place in a list holds one bank
same_bank : (banks : List BankValue) (n m : ℕ) (a b : BankValue) → n ≡ m → slice_get banks n ≡ Some a →
    slice_get banks m ≡ Some b → a ≡ b
same_bank banks n m a b e x y = let s : Some a ≡ Some b = sym x ∙ ap (slice_get banks) e ∙ y in cc

below_or_at : (n k : ℕ) → k < n + 1 → (k < n) ⊎ (k ≡ n)
below_or_at zero zero l = inr refl
below_or_at zero (suc k) l = absurd (omega arith)
below_or_at (suc n) zero l = inl (omega arith)
below_or_at (suc n) (suc k) l = elim (below_or_at n k (omega arith)) as
    (λ _. (suc k < suc n) ⊎ (suc k ≡ suc n)) [ inl x ↦ inl (omega arith) | inr x ↦ inr (ap suc x) ]

-- a bank of which no filter matches leaves the best as it is
pub best-skip : (banks : List BankValue) (frame : FrameValue) (n : ℕ) (best : Option (ℕ × ℕ)) →
    ((q : Placed) → q.number ≡ n → ¬ (IsMatching banks frame q)) → IsBest banks frame n best →
    IsBest banks frame (n + 1) best
best-skip banks frame n None none h =
    λ q l m. elim (below_or_at n q.number l) as (λ _. ⊥) [ inl x ↦ h q x m | inr x ↦ none q x m ]
best-skip banks frame n (Some found) none h = (
  h.0,
  h.1,
  omega (arith, h.2),
  h.3,
  λ q l m p. elim (below_or_at n q.number l) as (λ _. ⊥) [ inl x ↦ h.4 q x m p | inr x ↦ none q x m ],
)

none_inactive : (banks : List BankValue) (frame : FrameValue) (n : ℕ) (bank : BankValue) →
    slice_get banks n ≡ Some bank → bank.active ≡ false → (q : Placed) → q.number ≡ n → ¬ (IsMatching banks frame q)
none_inactive banks frame n bank at off q e m = true≢false (sym m.active
    ∙ ap (λ (b : BankValue). b.active) (same_bank banks q.number n q.bank bank e m.stands at) ∙ off)

none_matching : (banks : List BankValue) (frame : FrameValue) (n : ℕ) (bank : BankValue) →
    slice_get banks n ≡ Some bank → ((place : ℕ) → ¬ (MatchesAt bank frame place)) → (q : Placed) → q.number ≡ n →
    ¬ (IsMatching banks frame q)
none_matching banks frame n bank at none q e m =
    none q.place (subst (λ b. MatchesAt b frame q.place) (same_bank banks q.number n q.bank bank e m.stands at)
    m.matches)

pub best-inactive : (banks : List BankValue) (frame : FrameValue) (n : ℕ) (best : Option (ℕ × ℕ)) (bank : BankValue) →
    slice_get banks n ≡ Some bank → bank.active ≡ false → IsBest banks frame n best → IsBest banks frame (n + 1) best
best-inactive banks frame n best bank at off h =
    best-skip banks frame n best (none_inactive banks frame n bank at off) h

pub best-unmatched : (banks : List BankValue) (frame : FrameValue) (n : ℕ) (best : Option (ℕ × ℕ)) (bank : BankValue) →
    slice_get banks n ≡ Some bank → IsFirstMatch bank frame None → IsBest banks frame n best →
    IsBest banks frame (n + 1) best
best-unmatched banks frame n best bank at none h =
    best-skip banks frame n best (none_matching banks frame n bank at none) h

-- a filter of this bank comes before none of those in it that match first
first_in_bank : (banks : List BankValue) (frame : FrameValue) (n place : ℕ) (bank : BankValue) →
    slice_get banks n ≡ Some bank → IsFirstMatch bank frame (Some place)
    → (q : Placed) → q.number ≡ n → IsMatching banks frame q →
    ¬ (Precedes q (record { number = n; bank = bank; place = place }))
first_in_bank banks frame n place bank at first q e m before = by_rank before
  where
    same : q.bank ≡ bank
    same = same_bank banks q.number n q.bank bank e m.stands at

    by_rank : ¬ (Precedes q (record { number = n; bank = bank; place = place }))
    by_rank (inl (inl x)) = apart-scale (sym x.1 ∙ ap (λ (b : BankValue). b.scale) (sym same) ∙ x.0)
    by_rank (inl (inr x)) = apart-mode (sym x.2 ∙ ap (λ (b : BankValue). b.mode) (sym same) ∙ x.1)
    by_rank (inr x) = elim x.2 as (λ _. ⊥) [
      | inl y ↦ absurd (omega arith)
      | inr y ↦ first.1 q.place y.1 (subst (λ b. MatchesAt b frame q.place) same m.matches)
    ]

pub best-first : (banks : List BankValue) (frame : FrameValue) (n place : ℕ) (bank : BankValue) →
    slice_get banks n ≡ Some bank → bank.active ≡ true → IsFirstMatch bank frame (Some place) →
    IsBest banks frame n None → IsBest banks frame (n + 1) (Some (n, place))
best-first banks frame n place bank at on first h = (
  record { number = n; bank = bank; place = place },
  refl,
  omega arith,
  record { stands = at; active = on; matches = first.0 },
  λ q l m p. elim (below_or_at n q.number l) as (λ _. ⊥) [
    | inl x ↦ h q x m
    | inr x ↦ first_in_bank banks frame n place bank at first q x m p
  ],
)

pub best-better : (banks : List BankValue) (frame : FrameValue) (n place : ℕ) (bank kept : BankValue) (found : ℕ × ℕ) →
    slice_get banks n ≡ Some bank → bank.active ≡ true → IsFirstMatch bank frame (Some place)
    → slice_get banks found.0 ≡ Some kept → Outranks bank kept → IsBest banks frame n (Some found) →
    IsBest banks frame (n + 1) (Some (n, place))
best-better banks frame n place bank kept found at on first there above h = (
  record { number = n; bank = bank; place = place },
  refl,
  omega arith,
  record { stands = at; active = on; matches = first.0 },
  λ q l m p. elim (below_or_at n q.number l) as (λ _. ⊥) [
    | inl x ↦ h.4 q x m (inl (over q p))
    | inr x ↦ first_in_bank banks frame n place bank at first q x m p
  ],
)
  where
    same : kept ≡ h.0.bank
    same = same_bank banks found.0 h.0.number kept h.0.bank (ap (λ (f : ℕ × ℕ). f.0) h.1) there h.3.stands

    over : (q : Placed) → Precedes q (record { number = n; bank = bank; place = place }) → Outranks q.bank h.0.bank
    over q (inl x) = outranks-trans q.bank bank h.0.bank (inl x) (subst (Outranks bank) same above)
    over q (inr x) = outranks-trans q.bank bank h.0.bank (inr (x.0, x.1)) (subst (Outranks bank) same above)

pub best-kept : (banks : List BankValue) (frame : FrameValue) (n : ℕ) (bank kept : BankValue) (found : ℕ × ℕ) →
    slice_get banks n ≡ Some bank
    → slice_get banks found.0 ≡ Some kept → ¬ (Outranks bank kept) → IsBest banks frame n (Some found) →
    IsBest banks frame (n + 1) (Some found)
best-kept banks frame n bank kept found at there below h = (
  h.0,
  h.1,
  omega (arith, h.2),
  h.3,
  λ q l m p. elim (below_or_at n q.number l) as (λ _. ⊥) [ inl x ↦ h.4 q x m p | inr x ↦ not_before q x m p ],
)
  where
    same : h.0.bank ≡ kept
    same = same_bank banks h.0.number found.0 h.0.bank kept (sym (ap (λ (f : ℕ × ℕ). f.0) h.1)) h.3.stands there

    not_before : (q : Placed) → q.number ≡ n → IsMatching banks frame q → ¬ (Precedes q h.0)
    not_before q e m (inl x) =
        below (subst (λ (p : BankValue × BankValue). Outranks p.0 p.1)
        (λ i. (same_bank banks q.number n q.bank bank e m.stands at i, same i)) x)
    not_before q e m (inr x) = let lower =
        h.2 in elim x.2 as (λ _. ⊥) [ inl y ↦ absurd (omega arith) | inr y ↦ absurd (omega (arith, y.0)) ]

-- the images of a frame are what its banks compare
abbrev SeesFirst : BankValue → ℕ → ℕ → Option ℕ → Type 0
SeesFirst b wide narrow o = IsFirstAmong (filters_of b) (at_scale b.scale wide narrow) o

seen : (b : BankValue) (frame : FrameValue) (wide narrow : ℕ) (o : Option ℕ) → wide ≡ image32 frame →
    narrow ≡ image16 frame → SeesFirst b wide narrow o → IsFirstMatch b frame o
seen b frame wide narrow o w n h = subst (λ (i : ℕ × ℕ). SeesFirst b i.0 i.1 o) (λ i. (w i, n i)) h

-- the steps of the pass over the banks, with a bank as it is read out of the list
module _ (banks : List BankValue) (frame : FrameValue) (n : ℕ) (d : BankValue) (all : length banks ≡ bank_count)
    (below : n < bank_count) (wide narrow : ℕ) (is_wide : wide ≡ image32 frame)
    (is_narrow : narrow ≡ image16 frame) where
  abbrev bank : BankValue
  bank = get_or banks n d

  within : n < length banks
  within = omega arith

  pub step-inactive : (best : Option (ℕ × ℕ)) → bank.active ≡ false → IsBest banks frame n best →
      IsBest banks frame (n + 1) best
  step-inactive best off h = best-inactive banks frame n best bank (slice_get-get_or banks n d within) off h

  pub step-unmatched : (best after : Option (ℕ × ℕ)) → after ≡ best → SeesFirst bank wide narrow None →
      IsBest banks frame n best → IsBest banks frame (n + 1) after
  step-unmatched best after e none h =
      subst (IsBest banks frame (n + 1)) (sym e)
      (best-unmatched banks frame n best bank (slice_get-get_or banks n d within)
      (seen bank frame wide narrow None is_wide is_narrow none) h)

  pub step-first : (place : ℕ) (best after : Option (ℕ × ℕ)) → best ≡ None → after ≡ Some (n, place) →
      bank.active ≡ true → SeesFirst bank wide narrow (Some place) → IsBest banks frame n best →
      IsBest banks frame (n + 1) after
  step-first place best after none e on first h =
      subst (IsBest banks frame (n + 1)) (sym e)
      (best-first banks frame n place bank (slice_get-get_or banks n d within) on
      (seen bank frame wide narrow (Some place) is_wide is_narrow first) (subst (IsBest banks frame n) none h))

  kept_within : (kept at : ℕ) → IsBest banks frame n (Some (kept, at)) → kept < length banks
  kept_within kept at h = let e = ap (λ (f : ℕ × ℕ). f.0) h.1 in let l = h.2 in omega arith

  pub step-better : (place kept at : ℕ) (best after : Option (ℕ × ℕ)) (o : BankValue) → best ≡ Some (kept, at) →
      after ≡ Some (n, place) → bank.active ≡ true → SeesFirst bank wide narrow (Some place)
      → Outranks bank (get_or banks kept o) → IsBest banks frame n best → IsBest banks frame (n + 1) after
  step-better place kept at best after o some e on first above h = let h' = subst (IsBest banks frame n) some h in
      subst (IsBest banks frame (n + 1)) (sym e)
      (best-better banks frame n place bank (get_or banks kept o) (kept, at) (slice_get-get_or banks n d within) on
      (seen bank frame wide narrow (Some place) is_wide is_narrow first)
      (slice_get-get_or banks kept o (kept_within kept at h')) above h')

  pub step-kept : (kept at : ℕ) (best after : Option (ℕ × ℕ)) (o : BankValue) → best ≡ Some (kept, at) →
      after ≡ Some (kept, at) → ¬ (Outranks bank (get_or banks kept o)) → IsBest banks frame n best →
      IsBest banks frame (n + 1) after
  step-kept kept at best after o some e none h = let h' = subst (IsBest banks frame n) some h in
      subst (IsBest banks frame (n + 1)) (sym e)
      (best-kept banks frame n bank (get_or banks kept o) (kept, at) (slice_get-get_or banks n d within)
      (slice_get-get_or banks kept o (kept_within kept at h')) none h')

-- the best filter is of one of the banks
pub found_number : (banks : List BankValue) (frame : FrameValue) (n place : ℕ) →
    IsBest banks frame bank_count (Some (n, place)) → n < bank_count
found_number banks frame n place h = subst (λ k. k < bank_count) (sym (ap (λ (f : ℕ × ℕ). f.0) h.1)) h.2

-- the best of all banks is what is found
pub found-none : (banks : List BankValue) (frame : FrameValue) → length banks ≡ bank_count →
    IsBest banks frame bank_count None → IsFound banks frame None
found-none banks frame all h p m = h p (let w = slice_get_within banks p.number p.bank m.stands in omega arith) m

pub found-best : (banks : List BankValue) (frame : FrameValue) (n place fifo count : ℕ) (bank : BankValue) →
    length banks ≡ bank_count → IsBest banks frame bank_count (Some (n, place))
    → slice_get banks n ≡ Some bank → fifo ≡ bank.fifo → count ≡ count_of fifo (take n banks) →
    IsFound banks frame (Some (fifo, count + place))
found-best banks frame n place fifo count bank all h at ef ec =
    let en : n ≡ h.0.number = ap (λ (f : ℕ × ℕ). f.0) h.1 in
    let ep : place ≡ h.0.place = ap (λ (f : ℕ × ℕ). f.1) h.1 in
    let eb : bank ≡ h.0.bank = same_bank banks n h.0.number bank h.0.bank en at h.3.stands in
    let e : fifo ≡ h.0.bank.fifo = ef ∙ ap (λ (b : BankValue). b.fifo) eb in
    let number : count ≡ count_of h.0.bank.fifo (take h.0.number banks) =
    ec ∙ (λ i. count_of (e i) (take (en i) banks)) in (
      h.0,
      record {
        matching = h.3;
        first = λ q m. h.4 q (let w = slice_get_within banks q.number q.bank m.stands in omega arith) m;
      },
      λ i. (e i, number i + ep i),
    )

by_scale : (s t : Scale) → ((s ≡ Bits32) × (t ≡ Bits16)) ⊎ (((t ≡ Bits32) × (s ≡ Bits16)) ⊎ (s ≡ t))
by_scale Bits32 Bits32 = inr (inr refl)
by_scale Bits32 Bits16 = inl (refl, refl)
by_scale Bits16 Bits32 = inr (inl (refl, refl))
by_scale Bits16 Bits16 = inr (inr refl)

by_mode : (m n : Mode) → ((m ≡ Identifiers) × (n ≡ Mask)) ⊎ (((n ≡ Identifiers) × (m ≡ Mask)) ⊎ (m ≡ n))
by_mode Mask Mask = inr (inr refl)
by_mode Mask Identifiers = inr (inl (refl, refl))
by_mode Identifiers Mask = inl (refl, refl)
by_mode Identifiers Identifiers = inr (inr refl)

-- of two banks one outranks the other, or they rank together
by_rank : (a b : BankValue) → Outranks a b ⊎ (Outranks b a ⊎ SameRank a b)
by_rank a b = elim (by_scale a.scale b.scale) as (λ _. Outranks a b ⊎ (Outranks b a ⊎ SameRank a b)) [
  | inl x ↦ inl (inl x)
  | inr x ↦ elim x as (λ _. Outranks a b ⊎ (Outranks b a ⊎ SameRank a b)) [
    | inl y ↦ inr (inl (inl y))
    | inr s ↦ elim (by_mode a.mode b.mode) as (λ _. Outranks a b ⊎ (Outranks b a ⊎ SameRank a b)) [
      | inl y ↦ inl (inr (s, y.0, y.1))
      | inr y ↦ elim y as (λ _. Outranks a b ⊎ (Outranks b a ⊎ SameRank a b))
          [ inl z ↦ inr (inl (inr (sym s, z.0, z.1))) | inr m ↦ inr (inr (s, m)) ]
    ]
  ]
]

by_number : (m n : ℕ) → (m < n) ⊎ ((n < m) ⊎ (m ≡ n))
by_number zero zero = inr (inr refl)
by_number zero (suc n) = inl (omega arith)
by_number (suc m) zero = inr (inl (omega arith))
by_number (suc m) (suc n) = elim (by_number m n) as (λ _. (suc m < suc n) ⊎ ((suc n < suc m) ⊎ (suc m ≡ suc n))) [
  | inl x ↦ inl (omega arith)
  | inr x ↦ elim x as (λ _. (suc m < suc n) ⊎ ((suc n < suc m) ⊎ (suc m ≡ suc n))) [
    | inl y ↦ inr (inl (omega arith))
    | inr y ↦ inr (inr (ap suc y))
  ]
]

-- at most one filter is the chosen one
pub one_chosen : OneChosen
one_chosen banks frame p q cp cq = elim (by_rank p.bank q.bank) as (λ _. p ≡ q) [
  | inl x ↦ absurd (cq.first p cp.matching (inl x))
  | inr x ↦ elim x as (λ _. p ≡ q) [
    | inl y ↦ absurd (cp.first q cq.matching (inl y))
    | inr s ↦ elim (by_number p.number q.number) as (λ _. p ≡ q) [
      | inl y ↦ absurd (cq.first p cp.matching (inr (s.0, s.1, inl y)))
      | inr y ↦ elim y as (λ _. p ≡ q) [
        | inl z ↦ absurd (cp.first q cq.matching (inr (sym s.0, sym s.1, inl z)))
        | inr n ↦ elim (by_number p.place q.place) as (λ _. p ≡ q) [
          | inl z ↦ absurd (cq.first p cp.matching (inr (s.0, s.1, inr (n, z))))
          | inr z ↦ elim z as (λ _. p ≡ q) [
            | inl w ↦ absurd (cp.first q cq.matching (inr (sym s.0, sym s.1, inr (sym n, w))))
            | inr at ↦ (let b = same_bank banks p.number q.number p.bank q.bank n cp.matching.stands
                cq.matching.stands in λ i. record { number = n i; bank = b i; place = at i })
          ]
        ]
      ]
    ]
  ]
]
