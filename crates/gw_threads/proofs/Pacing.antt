-- Each step of the clock table keeps its rule.
use Rattle.std.proofs.Common.{◌≡◌, ℕ, zero, suc, ◌+◌, ◌%◌, ◌^◌, ◌<◌, ◌≤◌, ◌≢◌, ◌⊎◌, inl, inr, ⊎_elim, ◌==◌, cond, List}
use Rattle.std.proofs.Common.{[], ◌∷◌, ◌++◌, length, get_or, set, replicate, refl, sym, ap, ◌∙◌, subst, arith, eq-eqb}
use Rattle.std.proofs.Common.{ne_eqb, length-set, get_or-set_other, get_or-set_same}
use Rattle.std.proofs.Math.Nat.{mod-eq_of_lt}
use Rattle.std.proofs.lemmas.List.{set_past, get_or-replicate}
use Rattle.std.proofs.lemmas.List.{length-replicate}
use mathlib.Core.Option.{none, some, some-injective, some-ne-none}
use mathlib.Core.Logic.{dite}
use native.Mathlib.Decide.{ℕ_discrete, dec_le}
use lib.ListN.{get_elem?}
use lib.Seq.{set-get_or}
use Rattle.atomic_table.specs.Table.{State, step, keeps, Allows, Splits, opening}
use Rattle.atomic_table.proofs.Lists.{at_set}
use Rattle.gw_threads.specs.Clocks.{word_of, Knows, Kept, first_pacer, one_of, rest_of, lender_of, watcher_of, clock_of}
use Rattle.gw_threads.specs.Clocks.{looked_at, ticked, with_stop, with_warning, MayTick, Looks, Ticks, Stops, Watches}
use Rattle.gw_threads.specs.declared.views.Pace.{Pace}
use Rattle.gw_threads.specs.declared.views.Pacer.{Pacer}

abbrev St : Type 0
St = State (Unit {0}) Pacer

-- a number read of a clock is a lower bound of it
seen_set : (seen words : List ℕ) (i j : ℕ) → get_or seen j 0 ≤ get_or words (word_of j) 0 →
    get_or (set seen i (get_or words (word_of i) 0)) j 0 ≤ get_or words (word_of j) 0
seen_set [] words i j h = h
seen_set seen words i j h = dite (ℕ_discrete j i)
    (λ e. dite (dec_le (suc i) (length seen))
    (λ l. subst (λ (k : ℕ). get_or (set seen i (get_or words (word_of i) 0)) k 0 ≤ get_or words (word_of k) 0) (sym e)
    (let g = get_or-set_same seen i (get_or words (word_of i) 0) 0 (omega arith) in omega arith))
    (λ n. subst (λ (l : List ℕ). get_or l j 0 ≤ get_or words (word_of j) 0)
    (sym (set_past seen i (get_or words (word_of i) 0) (omega arith))) h))
    (λ n. let g = get_or-set_other seen i j (get_or words (word_of i) 0) 0 n in omega arith)

-- what another seat knows is not touched
knows_on : (p : Pace) (owner : ℕ → ℕ) (ws : List ℕ) (views : List Pacer) (id j : ℕ) (w u : Pacer) →
    ((j : ℕ) (u : Pacer) → get_elem? views j ≡ some u → j ≢ id → Knows p owner ws j u) → Knows p owner ws id w →
    get_elem? (set views id w) j ≡ some u → Knows p owner ws j u
knows_on p owner ws views id j w u others mine e = ⊎_elim
    (λ (t : (j ≡ id) × (w ≡ u)). subst (λ (x : ℕ × Pacer). Knows p owner ws x.0 x.1) (λ r. (sym t.0 r, t.1 r)) mine)
    (λ (t : (j ≢ id) × (get_elem? views j ≡ some u)). others j u t.1 t.0)
    (at_set views id j w u e)

-- clocks with one word are one
same_clock : (i j : ℕ) → word_of i ≡ word_of j → i ≡ j
same_clock i j e = omega arith

pub looks-keep : (p : Pace) (slots id i : ℕ) (v : Pacer) →
    Allows (Kept p) slots id (clock_of v) (word_of i) (λ n. n) (Looks (step slots (word_of i) 0 0 none) (clock_of v))
looks-keep p slots id i v s k long me fits = let w = looked_at v i (get_or s.words (word_of i) 0) in (
  w,
  keeps,
  tt,
  subst (λ (ws : List ℕ). Kept p (record { words = ws; homes = s.homes; views = set s.views id w }))
      (sym (set-get_or s.words (word_of i) 0)) (record {
        owner = k.owner;
        wide = k.wide;
        pace = k.pace;
        done = k.done;
        short = k.short;
        knows = λ j u e. knows_on p k.owner s.words s.views id j w u (λ j u a n. k.knows j u a)
            (let g = k.knows id v me in record {
              seen = λ q l. seen_set v.seen s.words i q (g.seen q l);
              mine = g.mine;
              few = g.few;
              told = g.told;
            }) e;
      }),
  λ j e. ap (λ q. clock_of (looked_at v q (get_or s.words (word_of i) 0))) (same_clock i j e),
)

-- a look at the stop word, or at any other
pub watches-keep : (p : Pace) (slots id i : ℕ) (v : Pacer) →
    Allows (Kept p) slots id (clock_of v) i (λ n. n) (Watches (step slots i 0 0 none) (clock_of v))
watches-keep p slots id i v s k long me fits = dite (ℕ_discrete (get_or s.words i 0) 0)
    (λ e. (v, keeps, tt, kept v (k.knows id v me), record { unset = λ _. refl; set = λ n. absurd (n e) }))
    (λ n. (
      with_warning v,
      keeps,
      tt,
      kept (with_warning v) (let g = k.knows id v me in record {
        seen = g.seen;
        mine = g.mine;
        few = g.few;
        told = g.told;
      }),
      record { unset = λ e. absurd (n e); set = λ _. refl },
    ))
  where
    kept : (w : Pacer) → Knows p k.owner s.words id w →
        Kept p (record { words = set s.words i (get_or s.words i 0); homes = s.homes; views = set s.views id w })
    kept w knows = subst (λ (ws : List ℕ). Kept p (record { words = ws; homes = s.homes; views = set s.views id w }))
        (sym (set-get_or s.words i 0)) (record {
          owner = k.owner;
          wide = k.wide;
          pace = k.pace;
          done = k.done;
          short = k.short;
          knows = λ j u e. knows_on p k.owner s.words s.views id j w u (λ j u a n. k.knows j u a) knows e;
        })

-- the stop word is no clock, and is set behind that
pub stops-keep : (p : Pace) (slots id : ℕ) (v : Pacer) →
    Allows (Kept p) slots id (clock_of v) (word_of p.segments) (λ _. 1)
    (λ _. Stops (step slots (word_of p.segments) 1 0 none) (clock_of v) 1)
stops-keep p slots id v s k long me fits =
    let ws = set s.words (word_of p.segments) 1 in
    let else : (j : ℕ) → j < p.segments → get_or ws (word_of j) 0 ≡ get_or s.words (word_of j) 0 =
    λ j l. get_or-set_other s.words (word_of p.segments) (word_of j) 1 0 (λ e. omega arith) in
    let at : get_or ws (word_of p.segments) 0 ≡ 1 =
    get_or-set_same s.words (word_of p.segments) 1 0 (let w = k.wide in omega arith) in
    let same : (j : ℕ) (u : Pacer) → Knows p k.owner s.words j u → Knows p k.owner ws j u = λ j u g. record {
      seen = λ q l. let o = g.seen q l in let a = else q l in omega arith;
      mine = λ q a b. let m = g.mine q a b in let few = g.few in (m.0, else q (omega arith) ∙ m.1);
      few = g.few;
      told = λ _. at;
    } in
    let mine : Knows p k.owner ws id (with_stop v) = let g = same id v (k.knows id v me) in record {
      seen = g.seen;
      mine = g.mine;
      few = g.few;
      told = λ _. at;
    } in (
      with_stop v,
      keeps,
      tt,
      record {
        owner = k.owner;
        wide = length-set s.words (word_of p.segments) 1 ∙ k.wide;
        pace = λ a b la lb. let o = k.pace a b la lb in let x = else a la in let y = else b lb in omega arith;
        done = λ a la. let o = k.done a la in let x = else a la in omega arith;
        short = k.short;
        knows = λ j u e. knows_on p k.owner ws s.views id j (with_stop v) u (λ j u a n. same j u (k.knows j u a)) mine e;
      },
      refl,
    )

pub ticks-keep : (p : Pace) (slots id bits : ℕ) (v : Pacer) → v.first < p.segments → MayTick p bits v →
    Allows (Kept p) slots id (clock_of v) (word_of v.first) (λ n. (n + bits) % 2 ^ 64)
    (Ticks (step slots (word_of v.first) bits 0 none) (clock_of v))
ticks-keep p slots id bits v inside may s k long me fits =
    let i = v.first in
    let mine = (k.knows id v me).mine i (omega arith) (let o = may.one in omega arith) in
    let n = get_or s.words (word_of i) 0 in
    let is : n ≡ v.made = mine.1 in
    let next : (n + bits) % 2 ^ 64 ≡ n + bits = mod-eq_of_lt (let a = k.short in let b = may.short in omega arith) in
    let ws = set s.words (word_of i) (n + bits) in
    let at : get_or ws (word_of i) 0 ≡ n + bits =
    get_or-set_same s.words (word_of i) (n + bits) 0 (let w = k.wide in omega arith) in
    let else : (j : ℕ) → ¬ (j ≡ i) → get_or ws (word_of j) 0 ≡ get_or s.words (word_of j) 0 =
    λ j a. get_or-set_other s.words (word_of i) (word_of j) (n + bits) 0 (λ e. a (same_clock j i e)) in
    let rises : (j : ℕ) → get_or s.words (word_of j) 0 ≤ get_or ws (word_of j) 0 =
    λ j. dite (ℕ_discrete j i) (λ e. subst (λ (q : ℕ). get_or s.words (word_of q) 0 ≤ get_or ws (word_of q) 0) (sym e)
    (omega arith)) (λ a. let g = else j a in omega arith) in
    let stop : get_or ws (word_of p.segments) 0 ≡ get_or s.words (word_of p.segments) 0 =
    else p.segments (λ e. omega arith) in
    let w = ticked bits v in (
      w,
      keeps,
      tt,
      subst
          (λ (x : ℕ). Kept p (record { words = set s.words (word_of i) x; homes = s.homes; views = set s.views id w }))
          (sym next) (record {
            owner = k.owner;
            wide = length-set s.words (word_of i) (n + bits) ∙ k.wide;
            pace = λ a b la lb. dite (ℕ_discrete a i)
                (λ e. dite (ℕ_discrete b i) (λ f. let g : get_or ws (word_of a) 0 ≡ get_or ws (word_of b) 0 =
                ap (λ q. get_or ws (word_of q) 0) (e ∙ sym f) in omega arith)
                (λ f. let near = may.near b lb f in let low = (k.knows id v me).seen b lb in let g = else b f in
                let h : get_or ws (word_of a) 0 ≡ n + bits = ap (λ q. get_or ws (word_of q) 0) e ∙ at in omega arith))
                (λ e. let g = else a e in let h = rises b in let o = k.pace a b la lb in omega arith);
            done = λ a la. dite (ℕ_discrete a i) (λ e. let h : get_or ws (word_of a) 0 ≡ n + bits =
                ap (λ q. get_or ws (word_of q) 0) e ∙ at in let b = may.short in omega arith) (λ e. let g = else a e in
                let o = k.done a la in omega arith);
            short = k.short;
            knows = λ j u e. knows_on p k.owner ws s.views id j w u
                (λ j u a apart. let g = k.knows j u a in record {
                  seen = λ q l. let o = g.seen q l in let h = rises q in omega arith;
                  mine = λ q b c. let m =
                      g.mine q b c in (m.0, else q (λ f. apart (sym m.0 ∙ ap k.owner f ∙ mine.0)) ∙ m.1);
                  few = g.few;
                  told = λ t. stop ∙ g.told t;
                })
                (let g = k.knows id v me in record {
                  seen = λ q l. let o = g.seen q l in let h = rises q in omega arith;
                  mine = λ q b c. let m = g.mine q b c in let one = may.one in let f : q ≡ i = omega arith in
                      (m.0, ap (λ q. get_or ws (word_of q) 0) f ∙ at ∙ ap (λ x. x + bits) is);
                  few = g.few;
                  told = λ t. stop ∙ g.told t;
                })
                e;
          }),
      refl,
    )

at_end : (l : List Pacer) (a b : Pacer) (j : ℕ) → get_elem? (l ++ a ∷ []) j ≡ some b → (get_elem? l j ≡ some b)
    ⊎ ((j ≡ length l) × (a ≡ b))
at_end [] a b zero e = inr (refl, some-injective a b e)
at_end [] a b (suc j) e = absurd (some-ne-none b (sym e))
at_end (x ∷ xs) a b zero e = inl e
at_end (x ∷ xs) a b (suc j) e = ⊎_elim (λ t. inl t) (λ t. inr ((let h = t.0 in omega arith), t.1)) (at_end xs a b j e)

-- a clock goes to another owner, and no other does
abbrev given : (ℕ → ℕ) → ℕ → ℕ → ℕ → ℕ
given owner i n j = cond (j == i) n (owner j)

given_here : (owner : ℕ → ℕ) (i n j : ℕ) → j ≡ i → given owner i n j ≡ n
given_here owner i n j e = ap (λ b. cond b n (owner j)) (eq-eqb j i e)

given_else : (owner : ℕ → ℕ) (i n j : ℕ) → ¬ (j ≡ i) → given owner i n j ≡ owner j
given_else owner i n j a = ap (λ b. cond b n (owner j)) (ne_eqb j i a)

pub deals-keep : (p : Pace) (id : ℕ) (v : Pacer) → v.first < v.end →
    Splits {S = Unit {0}} (Kept p) id v (rest_of v) (one_of v)
deals-keep p id v some_left s k me =
    let n = length (set s.views id (rest_of v)) in
    let owner = given k.owner v.first n in
    let g = k.knows id v me in
    let first = g.mine v.first (omega arith) some_left in
    record {
      owner = owner;
      wide = k.wide;
      pace = k.pace;
      done = k.done;
      short = k.short;
      knows = λ j u e. ⊎_elim
          (λ old. knows_on p owner s.words s.views id j (rest_of v) u
          (λ j u a apart. let o = k.knows j u a in record {
            seen = o.seen;
            mine = λ q b c. let m = o.mine q b c in
                (given_else k.owner v.first n q (λ f. apart (sym m.0 ∙ ap k.owner f ∙ first.0)) ∙ m.0, m.1);
            few = o.few;
            told = o.told;
          })
          (record {
            seen = g.seen;
            mine = λ q b c. let m =
                g.mine q (omega arith) c in (given_else k.owner v.first n q (λ f. omega arith) ∙ m.0, m.1);
            few = g.few;
            told = g.told;
          })
          old)
          (λ (t : (j ≡ n) × (one_of v ≡ u)). subst (λ (x : ℕ × Pacer). Knows p owner s.words x.0 x.1)
          (λ r. (sym t.0 r, t.1 r)) (record {
            seen = g.seen;
            mine = λ q b c. let f : q ≡ v.first =
                omega arith in (given_here k.owner v.first n q f, ap (λ x. get_or s.words (word_of x) 0) f ∙ first.1);
            few = let few = g.few in omega arith;
            told = λ t. cc t;
          }))
          (at_end (set s.views id (rest_of v)) (one_of v) u j e);
    }

pub lends-keep : (p : Pace) (id : ℕ) (v : Pacer) →
    Splits {S = Unit {0}} (Kept p) id v (lender_of v) (watcher_of v)
lends-keep p id v s k me = let g = k.knows id v me in record {
  owner = k.owner;
  wide = k.wide;
  pace = k.pace;
  done = k.done;
  short = k.short;
  knows = λ j u e. ⊎_elim
      (λ old. knows_on p k.owner s.words s.views id j (lender_of v) u (λ j u a apart. k.knows j u a) (record {
        seen = g.seen;
        mine = g.mine;
        few = g.few;
        told = g.told;
      }) old)
      (λ (t : (j ≡ length (set s.views id (lender_of v))) × (watcher_of v ≡ u)). subst
      (λ (w : Pacer). Knows p k.owner s.words j w) t.1 (record {
        seen = g.seen;
        mine = λ q b c. absurd (omega arith);
        few = omega arith;
        told = λ t. cc t;
      }))
      (at_end (set s.views id (lender_of v)) (watcher_of v) u j e);
}

-- the table at the start: all clocks at 0, and one seat that ticks them all
pub begins : (p : Pace) (ws : List ℕ) → ws ≡ replicate (word_of p.segments + 1) 0 → p.bits < 2 ^ 32 →
    Kept p (opening ws [] (first_pacer p))
begins p ws e short =
    let zeros : (j : ℕ) → j < p.segments → get_or ws (word_of j) 0 ≡ 0 = λ j l. ap (λ l. get_or l (word_of j) 0) e
    ∙ get_or-replicate (word_of p.segments + 1) (word_of j) 0 0 (omega arith) in
    record {
      owner = λ _. 0;
      wide = ap length e ∙ length-replicate (word_of p.segments + 1) 0;
      pace = λ i j l m. let a = zeros i l in omega arith;
      done = λ i l. let a = zeros i l in omega arith;
      short = short;
      knows = λ id v f. alone id v f (record {
        seen = λ j l. subst (λ (x : ℕ). x ≤ get_or ws (word_of j) 0) (sym (get_or-replicate p.segments j 0 0 l))
            (omega arith);
        mine = λ j a b. (refl, zeros j b);
        few = omega arith;
        told = λ t. cc t;
      });
    }
  where
    alone : (id : ℕ) (v : Pacer) → get_elem? (first_pacer p ∷ []) id ≡ some v → Knows p (λ _. 0) ws 0 (first_pacer p) →
        Knows p (λ _. 0) ws id v
    alone zero v f k = subst (λ (w : Pacer). Knows p (λ _. 0) ws 0 w) (some-injective (first_pacer p) v f) k
    alone (suc id) v f k = absurd (some-ne-none v (sym f))
