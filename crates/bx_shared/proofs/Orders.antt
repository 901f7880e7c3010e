-- The order bits tell the order of requests, and keep telling it where they stay.
use Rattle.std.proofs.Common.{◌≡◌, ℕ, suc, ◌+◌, ◌<◌, ◌≤◌, cond, List, [], ◌∷◌, ◌++◌, refl, ap, ◌∙◌, arith, eq-eqb}
use Rattle.std.proofs.Common.{lt-ltb, le-ltb, sym, true, false}
use mathlib.Core.Logic.{dite}
use native.Mathlib.Decide.{dec_le}
use Rattle.bx_core.specs.declared.waiting.Waiting.{Waiting}
use Rattle.bx_core.specs.Lists.{Each}
use Rattle.bx_core.specs.States.{is_at}
use Rattle.bx_core.specs.Law.{count_at}
use Rattle.bx_core.proofs.Words.{each-append}
use Rattle.bx_words.specs.Lanes.{field, order_bit, older_bit, IsOlder}
use Rattle.bx_shared.specs.Shown.{AreOrdered}

-- where no request is in a mailbox, each is in another
pub none_there : (q : List Waiting) (m : ℕ) → count_at m q ≡ 0 → Each (λ x. ¬ (x.mailbox ≡ m)) q
none_there [] m z = tt
none_there (w ∷ ws) m z = (
  (λ is. let one = ap (λ b. cond b (suc (count_at m ws)) (count_at m ws)) (eq-eqb w.mailbox m is) in
      absurd (omega arith)),
  none_there ws m (elim (is_at m w) as (λ b. cond b (suc (count_at m ws)) (count_at m ws) ≡ 0 → count_at m ws ≡ 0)
      [ true ↦ λ z. absurd (omega arith) | false ↦ λ z. z ] z),
)

abbrev pub AreApart : List Waiting → Type 0
AreApart q = (m : ℕ) → count_at m q ≤ 1

pub apart_rest : (w : Waiting) (ws : List Waiting) → AreApart (w ∷ ws) → AreApart ws
apart_rest w ws h m = elim (is_at m w) as (λ b. cond b (suc (count_at m ws)) (count_at m ws) ≤ 1 → count_at m ws ≤ 1)
    [ true ↦ λ z. omega arith | false ↦ λ z. z ] (h m)

pub apart_first : (w : Waiting) (ws : List Waiting) → AreApart (w ∷ ws) → Each (λ x. ¬ (x.mailbox ≡ w.mailbox)) ws
apart_first w ws h = let most = h w.mailbox in let one =
    ap (λ b. cond b (suc (count_at w.mailbox ws)) (count_at w.mailbox ws)) (eq-eqb w.mailbox w.mailbox refl) in
    none_there ws w.mailbox (omega arith)

module _ (word next : ℕ) (Q : ℕ → Type 0) (same : (i j : ℕ) → i < j → j < 3 → Q i → Q j →
    order_bit next i j ≡ order_bit word i j) where
  pub older : (i j : ℕ) → i < 3 → j < 3 → Q i → Q j → ¬ (j ≡ i) → IsOlder word i j → IsOlder next i j
  older i j a b qi qj n h = dite (dec_le (suc i) j) (λ l. same i j (omega arith) b qi qj ∙ h)
      (λ l. ap (λ x. field next x 1) (let e : 23 + i + j ≡ 23 + j + i = omega arith in e)
      ∙ same j i (omega arith) a qj qi
      ∙ ap (λ x. field word x 1) (let e : 23 + j + i ≡ 23 + i + j = omega arith in e) ∙ h)

  older_row : (i : ℕ) → i < 3 → Q i → (q : List Waiting) → Each (λ x. ¬ (x.mailbox ≡ i)) q →
      Each (λ x. x.mailbox < 3) q → Each (λ x. Q x.mailbox) q →
      Each (λ x. IsOlder word i x.mailbox) q → Each (λ x. IsOlder next i x.mailbox) q
  older_row i a qi [] d s k h = tt
  older_row i a qi (w ∷ ws) d s k h = (older i w.mailbox a s.0 qi k.0 d.0 h.0, older_row i a qi ws d.1 s.1 k.1 h.1)

  -- where the bits between these mailboxes stay, the order stays
  pub ordered : (q : List Waiting) → AreApart q → Each (λ x. x.mailbox < 3) q → Each (λ x. Q x.mailbox) q →
      AreOrdered word q → AreOrdered next q
  ordered [] d s k h = tt
  ordered (w ∷ ws) d s k h =
      (older_row w.mailbox s.0 k.0 ws (apart_first w ws d) s.1 k.1 h.0, ordered ws (apart_rest w ws d) s.1 k.1 h.1)

-- a request that is younger than all others goes behind them
pub ordered-push : (word : ℕ) (q : List Waiting) (w : Waiting) → Each (λ x. IsOlder word x.mailbox w.mailbox) q →
    AreOrdered word q → AreOrdered word (q ++ w ∷ [])
ordered-push word [] w a h = (tt, tt)
ordered-push word (x ∷ xs) w a h =
    (each-append (λ y. IsOlder word x.mailbox y.mailbox) xs (w ∷ []) h.0 (a.0, tt), ordered-push word xs w a.1 h.1)

-- of two requests not each is older than the other
pub older_once : (word i j : ℕ) → ¬ (i ≡ j) → IsOlder word i j → IsOlder word j i → ⊥
older_once word i j n a b =
    let e : older_bit i j ≡ older_bit j i =
    sym a ∙ ap (λ x. field word x 1) (let e : 23 + i + j ≡ 23 + j + i = omega arith in e) ∙ b in
    let bit : (k l : ℕ) → k < l → (older_bit k l ≡ 0) × (older_bit l k ≡ 1) =
    λ k l h. (ap (λ c. cond c 0 1) (lt-ltb k l h), ap (λ c. cond c 0 1) (le-ltb l k (omega arith))) in
    dite (dec_le (suc i) j) (λ l. let t = bit i j l in let x = t.0 in let y = t.1 in omega arith)
    (λ l. dite (dec_le (suc j) i) (λ l. let t = bit j i l in let x = t.0 in let y = t.1 in omega arith)
    (λ m. n (omega arith)))
