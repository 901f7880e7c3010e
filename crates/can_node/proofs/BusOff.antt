-- A node in bus off with levels, one after another.
use Rattle.std.proofs.Common.{◌≡◌, ℕ, ◌+◌, ◌*◌, ◌<◌, ◌≤◌, nat_le, Bool, true, false, cond, List, [], ◌∷◌, length, take}
use Rattle.std.proofs.Common.{◌||◌, get_or, inl, inr, refl, sym, ap, subst, arith, ◌∙◌}
use Rattle.std.proofs.lemmas.Bool.Decides.{leb_tells}
use Rattle.std.proofs.lemmas.List.{take_all, take_more}
use Rattle.can_node.specs.declared.state.State.{State}
use Rattle.can_node.specs.declared.state.State.TheVariants.{BusOffRecovery}
use Rattle.can_node.specs.PlainBits.{StaysOut, out_behind, out_behind_all, stays_out}
use Rattle.can_node.proofs.GoingBy.{behind_more}

-- One level brings the end of the last run nearer by one at most.
pub record Nearer (runs ones : ℕ) (level : Bool) : Type 0 where
  pub runs_then : ℕ
  pub ones_then : ℕ
  pub next_is : out_behind (BusOffRecovery runs ones) level ≡ BusOffRecovery runs_then ones_then
  pub stays : stays_out level (BusOffRecovery runs ones) ≡ true
  pub by_one : 11 * runs_then + ones_then ≤ 11 * runs + ones + 1

pub nearer : (runs ones : ℕ) (level : Bool) → 11 * runs + ones < 1407 → Nearer runs ones level
nearer runs ones false far = record {
  runs_then = runs;
  ones_then = 0;
  next_is = refl;
  stays = elim (nat_le ones 9) as (λ b. (b || true || nat_le runs 126) ≡ true) [ true ↦ refl | false ↦ refl ];
  by_one = omega arith;
}
nearer runs ones true far = elim (leb_tells ones 9) [
  | inl few ↦ record {
    runs_then = runs;
    ones_then = ones + 1;
    next_is = ap (λ b. cond b (BusOffRecovery runs (ones + 1)) (BusOffRecovery (runs + 1) 0)) few.0;
    stays = ap (λ b. b || false || nat_le runs 126) few.0;
    by_one = omega arith;
  }
  | inr many ↦
      let more = many.1 in
      elim (leb_tells runs 126) [
        | inl is ↦ record {
          runs_then = runs + 1;
          ones_then = 0;
          next_is = ap (λ b. cond b (BusOffRecovery runs (ones + 1)) (BusOffRecovery (runs + 1) 0)) many.0;
          stays = ap (λ b. b || false || nat_le runs 126) many.0 ∙ is.0;
          by_one = omega (arith, more);
        }
        | inr last ↦ absurd (let most = last.1 in omega (arith, more, most, far))
      ]
]

pub far_stays : (runs ones : ℕ) (xs : List Bool) → 11 * runs + ones + length xs ≤ 1407 →
    StaysOut (BusOffRecovery runs ones) xs
far_stays runs ones [] far = tt
far_stays runs ones (x ∷ xs) far =
    let step = nearer runs ones x (omega (arith, far)) in
    let near = step.by_one in
    let rest = far_stays step.runs_then step.ones_then xs (omega (arith, far, near)) in
    (step.stays, subst (λ s. StaysOut s xs) (sym step.next_is) rest)

pub far_stays_all : (state : State) (runs ones : ℕ) (levels : List Bool) → state ≡ BusOffRecovery runs ones →
    11 * runs + ones + length levels ≤ 1407 → StaysOut state (take (length levels) levels)
far_stays_all state runs ones levels here far =
    rw (take_all (length levels) levels (omega arith))
    (subst (λ s. StaysOut s levels) (sym here) (far_stays runs ones levels far))

-- where it is behind one more
pub run_over : (state : State) (whole run : ℕ) (levels : List Bool) (i : ℕ) → i < length levels → 9 < run →
    get_or levels i false ≡ true → BusOffRecovery whole run ≡ out_behind_all state (take i levels) →
    BusOffRecovery (whole + 1) 0 ≡ out_behind_all state (take (i + 1) levels)
run_over state whole run levels i within many level is =
    let none : nat_le run 9 ≡ false = elim (leb_tells run 9) [
      | inl few ↦ absurd (let least = few.1 in omega (arith, least, many))
      | inr more ↦ more.0
    ] in
    rw (take_more levels i false within)
    (sym (behind_more state (take i levels) (get_or levels i false)
    ∙ ap (λ s. out_behind s (get_or levels i false)) (sym is) ∙ ap (out_behind (BusOffRecovery whole run)) level
    ∙ ap (λ b. cond b (BusOffRecovery whole (run + 1)) (BusOffRecovery (whole + 1) 0)) none))

run_on : (whole run next : ℕ) (level : Bool) → (level ≡ true → run ≤ 9) → next ≡ cond level (run + 1) 0 →
    out_behind (BusOffRecovery whole run) level ≡ BusOffRecovery whole next
run_on whole run next true few is = elim (leb_tells run 9) [
  | inl least ↦ ap (λ b. cond b (BusOffRecovery whole (run + 1)) (BusOffRecovery (whole + 1) 0)) least.0
      ∙ ap (BusOffRecovery whole) (sym is)
  | inr more ↦ absurd (let many = more.1 in let least = few refl in omega (arith, many, least))
]
run_on whole run next false few is = ap (BusOffRecovery whole) (sym is)

pub run_more : (state : State) (whole run next : ℕ) (levels : List Bool) (i : ℕ) → i < length levels →
    (get_or levels i false ≡ true → run ≤ 9) → next ≡ cond (get_or levels i false) (run + 1) 0 →
    BusOffRecovery whole run ≡ out_behind_all state (take i levels) →
    BusOffRecovery whole next ≡ out_behind_all state (take (i + 1) levels)
run_more state whole run next levels i within few next_is is =
    rw (take_more levels i false within)
    (sym (behind_more state (take i levels) (get_or levels i false)
    ∙ ap (λ s. out_behind s (get_or levels i false)) (sym is)
    ∙ run_on whole run next (get_or levels i false) few next_is))

-- no more of a run than before, and one
pub counted_few : (run next : ℕ) (level : Bool) → next ≡ cond level (run + 1) 0 → next ≤ run + 1
counted_few run next true is = omega (arith, is)
counted_few run next false is = omega (arith, is)
