-- Each move of a seat keeps the rule of the pool.
use Rattle.std.proofs.Common.{◌≡◌, ◌≢◌, ℕ, zero, suc, ◌+◌, ◌-◌, ◌<◌, ◌≤◌, List, [], ◌∷◌, ◌++◌, map, set, sym, refl, ap}
use Rattle.std.proofs.Common.{subst, ⊎_elim, arith}
use Rattle.std.proofs.lemmas.List.{map-append}
use mathlib.Core.Option.{some, some-ne-none}
use lib.ListN.{get_elem?}
use Rattle.crossbeam_queue.specs.Fifo.{Pushes, Pops, Forks, Merges, Learns}
use Rattle.crossbeam_queue.proofs.Lists.{at_set, at_snoc}
use Rattle.gw_pool.specs.declared.account.Account.{Account}
use Rattle.gw_pool.specs.Pool.{account, weigh, total, IdleIsEmpty, Balanced, Remains}

pub weigh-append : (h : ℕ → ℕ) (xs ys : List ℕ) → weigh h (xs ++ ys) ≡ weigh h xs + weigh h ys
weigh-append h [] ys = omega arith
weigh-append h (x ∷ xs) ys = omega (arith, weigh-append h xs ys)

same_view : (a b : Account) → some a ≡ some b → a ≡ b
same_view a b e = cc e

total_set : (f : Account → ℕ) (views : List Account) (pass : ℕ) (v w : Account) → get_elem? views pass ≡ some v →
    total f (set views pass w) + f v ≡ total f views + f w
total_set f [] pass v w at = absurd (some-ne-none v (sym at))
total_set f (x ∷ xs) zero v w at = omega (arith, ap f (same_view x v at))
total_set f (x ∷ xs) (suc pass) v w at = omega (arith, total_set f xs pass v w at)

total_snoc : (f : Account → ℕ) (views : List Account) (u : Account) → total f (views ++ u ∷ []) ≡ total f views + f u
total_snoc f [] u = omega arith
total_snoc f (x ∷ xs) u = omega (arith, total_snoc f xs u)

abbrev Idle : Account → Type 0
Idle v = v.parts ≡ 0 → (v.put ≡ []) × (v.taken ≡ [])

idle_set : (views : List Account) (pass : ℕ) (w : Account) → Idle w → IdleIsEmpty views → IdleIsEmpty (set views pass w)
idle_set views pass w here all j u e none = ⊎_elim (λ (x : (j ≡ pass) × (w ≡ u)). subst Idle x.1 here none)
    (λ (x : (j ≢ pass) × (get_elem? views j ≡ some u)). all j u x.1 none) (at_set views pass j w u e)

idle_snoc : (views : List Account) (w : Account) → Idle w → IdleIsEmpty views → IdleIsEmpty (views ++ w ∷ [])
idle_snoc views w here all j u e none =
    ⊎_elim (λ x. all j u x none) (λ (is : w ≡ u). subst Idle is here none) (at_snoc views w u j e)

module _ {X : Type 0} (place : X → ℕ) where
  pub begins : Balanced place [] (account 1024 [] [] ∷ [])
  begins = (
    refl,
    (λ h. refl),
    idle_snoc [] (account 1024 [] []) (λ none. absurd (omega (arith, none)))
        (λ j u e none. absurd (some-ne-none u (sym e))),
  )

  pub puts : (n pass : ℕ) (v : Account) (x : X) → 0 < v.parts →
      Pushes (Balanced place) n pass v x (λ w. w ≡ account v.parts (v.put ++ place x ∷ []) v.taken)
  puts n pass v x some_part items views room b at =
      let w = account v.parts (v.put ++ place x ∷ []) v.taken in (
        w,
        (
          (let s = total_set (λ u. u.parts) views pass v w at in let p = b.0 in omega arith),
          (λ h.
              let s = total_set (λ u. weigh h u.put) views pass v w at in
              let t = total_set (λ u. weigh h u.taken) views pass v w at in
              let p = b.1 h in
              omega (
                arith,
                weigh-append h v.put (place x ∷ []),
                ap (weigh h) (map-append place items (x ∷ [])),
                weigh-append h (map place items) (place x ∷ []),
              )),
          idle_set views pass w (λ none. absurd (omega (arith, none, some_part))) b.2,
        ),
        refl,
      )

  pub takes : (pass : ℕ) (v : Account) → 0 < v.parts →
      Pops (Balanced place) pass v (λ x w. w ≡ account v.parts v.put (v.taken ++ place x ∷ []))
  takes pass v some_part x items views b at =
      let w = account v.parts v.put (v.taken ++ place x ∷ []) in (
        w,
        (
          (let s = total_set (λ u. u.parts) views pass v w at in let p = b.0 in omega arith),
          (λ h.
              let s = total_set (λ u. weigh h u.put) views pass v w at in
              let t = total_set (λ u. weigh h u.taken) views pass v w at in
              let p = b.1 h in
              omega (arith, weigh-append h v.taken (place x ∷ []))),
          idle_set views pass w (λ none. absurd (omega (arith, none, some_part))) b.2,
        ),
        refl,
      )

  pub forks : (pass : ℕ) (v : Account) → 1 < v.parts →
      Forks (Balanced place) pass v (account (v.parts - 1) v.put v.taken) (account 1 [] [])
  forks pass v two items views b at =
      let l = account (v.parts - 1) v.put v.taken in
      let r = account 1 [] [] in
      let vs = set views pass l in (
        (let s = total_set (λ u. u.parts) views pass v l at in let p = b.0 in
            omega (arith, total_snoc (λ u. u.parts) vs r)),
        (λ h.
            let s = total_set (λ u. weigh h u.put) views pass v l at in
            let t = total_set (λ u. weigh h u.taken) views pass v l at in
            let p = b.1 h in
            omega (arith, total_snoc (λ u. weigh h u.put) vs r, total_snoc (λ u. weigh h u.taken) vs r)),
        idle_snoc vs r (λ none. absurd (omega (arith, none)))
            (idle_set views pass l (λ none. absurd (omega (arith, none, two))) b.2),
      )

  pub merges : (pass : ℕ) (v : Account) (other : ℕ) (u : Account) → 0 < v.parts →
      Merges (Balanced place) pass v other u (account (v.parts + u.parts) (v.put ++ u.put) (v.taken ++ u.taken))
      (account 0 [] [])
  merges pass v other u some_part items views b at two at' =
      let both = account (v.parts + u.parts) (v.put ++ u.put) (v.taken ++ u.taken) in
      let spent = account 0 [] [] in
      let vs = set views pass both in (
        (let s = total_set (λ y. y.parts) views pass v both at in let t =
            total_set (λ y. y.parts) vs other u spent at' in let p = b.0 in omega arith),
        (λ h.
            let s = total_set (λ y. weigh h y.put) views pass v both at in
            let s' = total_set (λ y. weigh h y.put) vs other u spent at' in
            let t = total_set (λ y. weigh h y.taken) views pass v both at in
            let t' = total_set (λ y. weigh h y.taken) vs other u spent at' in
            let p = b.1 h in
            omega (arith, weigh-append h v.put u.put, weigh-append h v.taken u.taken)),
        idle_set vs other spent (λ none. (refl, refl))
            (idle_set views pass both (λ none. absurd (omega (arith, none, some_part))) b.2),
      )

-- a part of the total
part_le : (f : Account → ℕ) (views : List Account) (pass : ℕ) (v : Account) → get_elem? views pass ≡ some v →
    f v ≤ total f views
part_le f [] pass v at = absurd (some-ne-none v (sym at))
part_le f (x ∷ xs) zero v at = omega (arith, ap f (same_view x v at))
part_le f (x ∷ xs) (suc pass) v at = omega (arith, part_le f xs pass v at)

-- where none has a part, none counts
none_counts : (f : Account → ℕ) (views : List Account) → total (λ u. u.parts) views ≡ 0 →
    ((j : ℕ) (u : Account) → get_elem? views j ≡ some u → u.parts ≡ 0 → f u ≡ 0) → total f views ≡ 0
none_counts f [] none zeros = refl
none_counts f (x ∷ xs) none zeros = omega (
  arith,
  zeros 0 x refl (omega (arith, none)),
  none_counts f xs (omega (arith, none)) (λ j u e. zeros (suc j) u e),
)

-- where one has all parts, it alone counts
one_counts : (f : Account → ℕ) (views : List Account) (pass : ℕ) (v : Account) → get_elem? views pass ≡ some v →
    total (λ u. u.parts) views ≡ v.parts →
    ((j : ℕ) (u : Account) → get_elem? views j ≡ some u → u.parts ≡ 0 → f u ≡ 0) → total f views ≡ f v
one_counts f [] pass v at all zeros = absurd (some-ne-none v (sym at))
one_counts f (x ∷ xs) zero v at all zeros =
    let is = same_view x v at in
    omega (
      arith,
      ap f is,
      none_counts f xs (omega (arith, all, ap (λ (y : Account). y.parts) is))
          (λ j u e. zeros (suc j) u e),
    )
one_counts f (x ∷ xs) (suc pass) v at all zeros =
    let le = part_le (λ u. u.parts) xs pass v at in
    omega (
      arith,
      zeros 0 x refl (omega (arith, all, le)),
      one_counts f xs pass v at (omega (arith, all, le)) (λ j u e. zeros (suc j) u e),
    )

pub learns : {X : Type 0} (place : X → ℕ) (pass : ℕ) (v : Account) → Learns (Balanced place) pass v (Remains place v)
learns place pass v items views b at all h =
    let whole : total (λ u. u.parts) views ≡ v.parts = omega (arith, b.0, all) in
    omega (
      arith,
      b.1 h,
      one_counts (λ u. weigh h u.put) views pass v at whole
          (λ j u e none. ap (weigh h) (b.2 j u e none).0),
      one_counts (λ u. weigh h u.taken) views pass v at whole (λ j u e none. ap (weigh h) (b.2 j u e none).1),
    )
