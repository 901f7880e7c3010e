-- Each move of the sides keeps the rule of the queue.
use Rattle.std.proofs.Common.{◌≡◌, ◌≢◌, ℕ, zero, suc, true, false, true≢false, List, [], ◌∷◌, ◌++◌, length, set, sym}
use Rattle.std.proofs.Common.{refl, ap, ◌∙◌, subst, ⊎_elim, append_assoc, append-nil, length-append, arith, lit≤, ◌≤◌}
use Rattle.std.proofs.Common.{◌+◌}
use Rattle.std.proofs.lemmas.List.{nil_from_length}
use Rattle.std.specs.Prelude.{Some, None}
use mathlib.Core.Option.{some, some-ne-none}
use lib.ListN.{get_elem?}
use Rattle.crossbeam_queue.specs.Fifo.{Pushes, Pops, Forks, Merges, Learns}
use Rattle.crossbeam_queue.proofs.Lists.{at_set, at_snoc}
use Rattle.bx_rx.specs.declared.log.Log.{Log}
use Rattle.bx_rx.specs.declared.rx_frame.RxFrame.{RxFrame}
use Rattle.bx_rx.specs.Rule.{log, Knows, Relays, StoredFact, ReleasedFact, TotalFact}

at_end : (l : List Log) (a b : Log) (j : ℕ) → get_elem? l j ≢ some b → get_elem? (l ++ a ∷ []) j ≡ some b → j ≡ length l
at_end [] a b zero n e = refl
at_end [] a b (suc j) n e = absurd (some-ne-none b (sym e))
at_end (x ∷ xs) a b zero n e = absurd (n e)
at_end (x ∷ xs) a b (suc j) n e = ap suc (at_end xs a b j n e)

abbrev All : (ℕ → Log → Type 0) → List Log → Type 0
All F views = (port : ℕ) (v : Log) → get_elem? views port ≡ some v → F port v

all_set : (F : ℕ → Log → Type 0) (views : List Log) (port : ℕ) (w : Log) → F port w →
    ((j : ℕ) (u : Log) → j ≢ port → get_elem? views j ≡ some u → F j u) → All F (set views port w)
all_set F views port w mine others j u e =
    ⊎_elim (λ (x : (j ≡ port) × (w ≡ u)). subst (λ (y : ℕ × Log). F y.0 y.1) (λ i. (sym x.0 i, x.1 i)) mine)
    (λ (x : (j ≢ port) × (get_elem? views j ≡ some u)). others j u x.0 x.1) (at_set views port j w u e)

pub begins : Relays [] (log true true [] [] [] ∷ [])
begins = (
  0,
  0,
  [],
  [],
  refl,
  lit≤ tt,
  all_set (Knows 0 0 [] []) (log true true [] [] [] ∷ []) 0
      (log true true [] [] []) ((λ _. (refl, refl)), λ _. (refl, refl))
      (λ j u other e. absurd (other (at_end [] _ u j (λ x. some-ne-none u (sym x)) e))),
)

pub stores : (n port : ℕ) (v : Log) (x : RxFrame) → n ≡ 3 → v.offers ≡ true →
    Pushes Relays n port v x (λ w. w ≡ log v.offers v.releases (v.stored ++ x ∷ []) v.released (v.calls ++ Some x ∷ []))
stores n port v x three may items views room h at = let w : Log = log v.offers v.releases
    (v.stored ++ x ∷ []) v.released (v.calls ++ Some x ∷ []) in let mine = h.6 port v at in let stored =
    h.2 ++ x ∷ [] in (
      w,
      (
        h.0,
        h.1,
        stored,
        h.3,
        ap (λ l. l ++ x ∷ []) h.4 ∙ append_assoc h.3 items (x ∷ []),
        omega (arith, length-append items (x ∷ [])),
        all_set (Knows h.0 h.1 stored h.3) views port w (
          (λ _. ((mine.0 may).0, ap (λ l. l ++ x ∷ []) (mine.0 may).1)),
          mine.1,
        )
            (λ j u other e. ((λ p. absurd (other (((h.6 j u e).0 p).0 ∙ sym (mine.0 may).0))), (h.6 j u e).1)),
      ),
      refl,
    )

pub releases_one : (port : ℕ) (v : Log) → v.releases ≡ true →
    Pops Relays port v (λ x w. w ≡ log v.offers v.releases v.stored (v.released ++ x ∷ []) (v.calls ++ Some x ∷ []))
releases_one port v may x items views h at = let w : Log = log v.offers v.releases v.stored (v.released ++ x ∷ [])
    (v.calls ++ Some x ∷ []) in let mine = h.6 port v at in let released = h.3 ++ x ∷ [] in (
      w,
      (
        h.0,
        h.1,
        h.2,
        released,
        h.4 ∙ sym (append_assoc h.3 (x ∷ []) items),
        (let l = h.5 in omega arith),
        all_set (Knows h.0 h.1 h.2 released) views port w
            (mine.0, λ _. ((mine.1 may).0, ap (λ l. l ++ x ∷ []) (mine.1 may).1))
            (λ j u other e. ((h.6 j u e).0, λ p. absurd (other (((h.6 j u e).1 p).0 ∙ sym (mine.1 may).0)))),
      ),
      refl,
    )

pub forks : (port : ℕ) (v : Log) → v.offers ≡ true → v.releases ≡ true →
    Forks Relays port v (log true false v.stored [] v.calls) (log false true [] v.released [])
forks port v a b items views h at = let l : Log = log true false v.stored [] v.calls in let r : Log =
    log false true [] v.released [] in let mine = h.6 port v at in let vs : List Log = set views port l in
    let Old : ℕ → Log → Type 0 = λ j u. (u.offers ≡ true → (j ≡ h.0) × (u.stored ≡ h.2)) × (u.releases ≢ true) in
    let old : All Old vs = all_set Old views port l ((λ _. mine.0 a), λ p. true≢false (sym p))
    (λ j u other e. ((h.6 j u e).0, λ p. other (((h.6 j u e).1 p).0 ∙ sym (mine.1 b).0))) in (
      h.0,
      length vs,
      h.2,
      h.3,
      h.4,
      h.5,
      λ j u e. ⊎_elim (λ x. ((old j u x).0, λ p. absurd ((old j u x).1 p)))
          (λ (is : r ≡ u). (
            (λ p. absurd (true≢false (sym (ap (λ (y : Log). y.offers) is ∙ p)))),
            λ p. (at_end vs r u j (λ x. (old j u x).1 p) e, ap (λ (y : Log). y.released) (sym is) ∙ (mine.1 b).1),
          ))
          (at_snoc vs r u j e),
    )

pub merges : (port : ℕ) (v : Log) (other : ℕ) (u : Log) → v.offers ≡ true → u.releases ≡ true →
    Merges Relays port v other u (log true true v.stored u.released []) (log false false [] [] [])
merges port v other u a b items views h at two at' = let both : Log = log true true v.stored u.released [] in let mine =
    h.6 port v at in let vs : List Log = set views port both in
    let was : get_elem? views other ≡ some u = ⊎_elim (λ x. absurd (two x.0)) (λ x. x.1)
    (at_set views port other both u at') in let theirs = (h.6 other u was).1 b in
    let Now : ℕ → Log → Type 0 = λ j y. j ≢ other → Knows h.0 port h.2 h.3 j y in
    let now : All Now vs = all_set Now views port both (λ _. ((λ _. mine.0 a), λ _. (refl, theirs.1)))
    (λ j y _ e apart. ((h.6 j y e).0, λ p. absurd (apart (((h.6 j y e).1 p).0 ∙ sym theirs.0)))) in (
      h.0,
      port,
      h.2,
      h.3,
      h.4,
      h.5,
      all_set (Knows h.0 port h.2 h.3) vs other (log false false [] [] [])
          ((λ p. absurd (true≢false (sym p))), λ p. absurd (true≢false (sym p))) (λ j y apart e. now j y e apart),
    )

-- a side that may do nothing is divided off
pub forks_aside : (port : ℕ) (v : Log) → Forks Relays port v v (log false false [] [] [])
forks_aside port v items views h at = let r : Log = log false false [] [] [] in let vs : List Log = set views port v in
    let old : All (Knows h.0 h.1 h.2 h.3) vs =
    all_set (Knows h.0 h.1 h.2 h.3) views port v (h.6 port v at) (λ j u other e. h.6 j u e) in (
      h.0,
      h.1,
      h.2,
      h.3,
      h.4,
      h.5,
      λ j u e. ⊎_elim (old j u)
          (λ (is : r ≡ u). (
            (λ p. absurd (true≢false (sym (ap (λ (y : Log). y.offers) is ∙ p)))),
            λ p. absurd (true≢false (sym (ap (λ (y : Log). y.releases) is ∙ p))),
          )) (at_snoc vs r u j e),
    )

-- and taken in again, where the other side has noted a call
pub notes : (port : ℕ) (v : Log) (other : ℕ) (u : Log) →
    Merges Relays port v other u (log v.offers v.releases v.stored v.released (v.calls ++ None ∷ []))
    (log false false [] [] [])
notes port v other u items views h at two at' = let noted : Log =
    log v.offers v.releases v.stored v.released (v.calls ++ None ∷ []) in let vs : List Log = set views port noted in
    let old : All (Knows h.0 h.1 h.2 h.3) vs =
    all_set (Knows h.0 h.1 h.2 h.3) views port noted (h.6 port v at) (λ j y other_port e. h.6 j y e) in (
      h.0,
      h.1,
      h.2,
      h.3,
      h.4,
      h.5,
      all_set (Knows h.0 h.1 h.2 h.3) vs other (log false false [] [] [])
          ((λ p. absurd (true≢false (sym p))), λ p. absurd (true≢false (sym p))) (λ j y apart e. old j y e),
    )

pub totals : (port : ℕ) (v : Log) → v.offers ≡ true → v.releases ≡ true → Learns Relays port v (TotalFact v)
totals port v a b items views h at = let mine =
    h.6 port v at in ((mine.0 a).1 ∙ h.4 ∙ ap (λ l. l ++ items) (sym (mine.1 b).1), h.5)

pub learns_stored : (port : ℕ) (v : Log) → v.offers ≡ true → Learns Relays port v (StoredFact v)
learns_stored port v a items views h at = (h.3, ((h.6 port v at).0 a).1 ∙ h.4)

pub learns_released : (port : ℕ) (v : Log) → v.releases ≡ true → Learns Relays port v (ReleasedFact v)
learns_released port v b items views h at = let mine = h.6 port v at in
    (h.2, h.4 ∙ ap (λ l. l ++ items) (sym (mine.1 b).1), h.5, λ a. (mine.0 a).1)

-- for the loop that releases what is left
pub kept-none_yet : (v w : Log) (kept : List RxFrame) → w ≡ v → v ≡ log true true v.stored v.released v.calls →
    kept ≡ [] → w ≡ log true true v.stored (v.released ++ kept) w.calls
kept-none_yet v w kept same whole none_yet = same ∙ whole
    ∙ ap (λ l. log true true v.stored l v.calls) (sym (ap (λ l. v.released ++ l) none_yet ∙ append-nil v.released))
    ∙ ap (λ (y : Log). log true true v.stored (v.released ++ kept) y.calls) (sym same)

pub stored_within_three : (v : Log) (items : List RxFrame) → TotalFact v items → length v.stored ≤ length v.released + 3
stored_within_three v items f = let e = ap length f.0 in let l = f.1 in omega (arith, length-append v.released items)

pub stored-at_empty : (v : Log) (stored released kept items : List RxFrame) →
    v ≡ log true true stored (released ++ kept) v.calls → v.stored ≡ v.released ++ items → items ≡ [] →
    stored ≡ released ++ kept
stored-at_empty v stored released kept items is all empty = sym (ap (λ (y : Log). y.stored) is) ∙ all
    ∙ ap (λ (y : Log). y.released ++ items) is ∙ ap (λ l. (released ++ kept) ++ l) empty ∙ append-nil (released ++ kept)

pub none_behind_three : (v : Log) (stored released kept items : List RxFrame) →
    v ≡ log true true stored (released ++ kept) v.calls → v.stored ≡ v.released ++ items → 3 ≤ length kept →
    length stored ≤ length released + 3 → items ≡ []
none_behind_three v stored released kept items is all full bound =
    nil_from_length items (let e : stored ≡ (released ++ kept) ++ items = sym (ap (λ (y : Log). y.stored) is) ∙ all
    ∙ ap (λ (y : Log). y.released ++ items) is in
    let n = ap length e in omega (arith, length-append (released ++ kept) items, length-append released kept))
