-- The count of requests in the control word: how a request changes it, and that it has room.
use Rattle.std.proofs.Common.{◌≡◌, ℕ, zero, suc, ◌+◌, ◌*◌, ◌%◌, ◌^◌, ◌<◌, ◌≤◌, cond, List, [], ◌∷◌, length, get_or, set}
use Rattle.std.proofs.Common.{refl, ap, ◌∙◌, arith, eq-eqb, Bool, true, false}
use Rattle.std.proofs.lemmas.List.{length-map}
use Rattle.bx_core.specs.declared.entry.Entry.{Entry}
use Rattle.bx_core.specs.Lists.{Each, Rises}
use Rattle.bx_core.specs.States.{State, RouteLists, no_lists, lists_of, numbers}
use Rattle.bx_core.specs.Steps.{greatest_number}
use Rattle.bx_core.specs.Law.{Law, IsRouteLawful}
use Rattle.bx_core.proofs.Words.{each_more}
use Rattle.bx_words.specs.Lanes.{rest_of, one_more, HasCount}
use Rattle.bx_shared.specs.Marks.{count_requests, rest_by}

-- one route's request is one more of all
pub count_requests-set : (ls : List RouteLists) (r : ℕ) (l : RouteLists) → r < length ls →
    length l.requested ≡ length (get_or ls r no_lists).requested + 1 →
    count_requests (set ls r l) ≡ count_requests ls + 1
count_requests-set [] r l h e = absurd (omega arith)
count_requests-set (x ∷ xs) zero l h e = omega arith
count_requests-set (x ∷ xs) (suc r) l h e = let k = count_requests-set xs r l (omega arith) e in omega arith

pub one_more-rest : (txfp : Bool) (n : ℕ) → one_more (rest_by txfp n) ≡ rest_by txfp (n + 1)
one_more-rest true n = refl
one_more-rest false n = let odd : (1 + 2 * n) % 2 ≡ 1 = omega arith in
    ap (λ b. cond b (1 + 2 * n + 2) (1 + 2 * n)) (eq-eqb ((1 + 2 * n) % 2) 1 odd) ∙ (omega arith)

-- numbers that rise from above k up to a greatest one are at most as many as there are between them
few_rise : (k most : ℕ) (xs : List ℕ) → k ≤ most → Each (λ x. k < x) xs → Each (λ x. x ≤ most) xs → Rises xs →
    length xs + k ≤ most
few_rise k most [] h a b r = omega arith
few_rise k most (x ∷ xs) h a b r = let t = few_rise x most xs b.0 r.0 b.1 r.1 in let first = a.0 in omega arith

pub few_requests : (txfp : Bool) (l : RouteLists) (waits : List ℕ) → IsRouteLawful txfp l waits →
    length l.requested ≤ greatest_number
few_requests txfp l waits law =
    let t = few_rise 0 greatest_number (numbers l.requested) (omega arith)
    (each_more (λ n. (1 ≤ n) × (n ≤ greatest_number)) (λ n. 0 < n) (numbers l.requested) (λ n h. let one = h.0 in
    omega arith) law.in_range)
    (each_more (λ n. (1 ≤ n) × (n ≤ greatest_number)) (λ n. n ≤ greatest_number) (numbers l.requested)
    (λ n h. h.1) law.in_range) law.rises in
    let same : length (numbers l.requested) ≡ length l.requested = length-map l.requested (λ (e : Entry). e.number) in
    omega arith

few_in_all : (ls : List RouteLists) → ((r : ℕ) → length (get_or ls r no_lists).requested ≤ greatest_number) →
    count_requests ls ≤ length ls * greatest_number
few_in_all [] h = omega arith
few_in_all (l ∷ ls) h = let first = h 0 in let rest = few_in_all ls (λ r. h (suc r)) in omega arith

-- eight routes make at most 134,217,720 requests, so the count has room for one more
pub has_count : (s : State) (word : ℕ) → Law s → length s.routes ≡ 8 →
    rest_of word ≡ rest_by s.txfp (count_requests s.routes) → HasCount word
has_count s word law eight is odd =
    elim s.txfp as (λ b. rest_of word ≡ rest_by b (count_requests s.routes) → rest_of word + 2 < 2 ^ 37) [
      | true ↦ λ is. omega arith
      | false ↦ λ is. let few = few_in_all s.routes (λ r. few_requests s.txfp (lists_of s r) _ (law.route r)) in
          omega arith
    ] is
