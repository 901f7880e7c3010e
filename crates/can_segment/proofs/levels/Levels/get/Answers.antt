use Rattle.std.proofs.Common.{arith, ◌≡◌, ◌-◌, ◌*◌, ◌+◌, ◌/◌, ◌%◌, ◌<◌, ◌≤◌, ℕ, Some, false, eqb, length, get_or, ap, sym, ◌∙◌}
use Rattle.std.specs.Int.{bit_at}
use Rattle.std.proofs.lemmas.Nat.Bits.{shr_and_one}
use Rattle.std.proofs.lemmas.Option.{slice_get-get_or, slice_get_past}
use Rattle.can_segment.specs.Levels.{levels_of_words}
use Rattle.can_segment.proofs.PackedLevels.{held, length-held, level_of_full, level_of_last}
use Rattle.can_segment.proofs.levels.Levels.get.Goals as goal
use Rattle.can_segment.proofs.levels.Levels.get.Goals.{Joined-get, in-Some, in-None}

pub returns-then-index-self : goal.returns-then-index-self
returns-then-index-self c =
    let a = c.self.inside in
    let items = c.args.self.now.items in
    let h = held a.words.items a.last a.len items c.self.invariant (ap (λ v. v.items) c.self.view_is) in
    sym (slice_get_past items c.args.index (omega (arith, length-held h, c.self.invariant.size)))

-- the level in the word that holds it
found : (c : Joined-get) → eqb (bit_at c.match-get.word.0 (c.match-get.word.1 - 1 - c.args.index % 64)) 1
    ≡ get_or c.args.self.now.items c.args.index false
found c =
    let a = c.self.inside in
    let items = c.args.self.now.items in
    let words = a.words.items in
    let index = c.args.index in
    let q : ℕ = index / 64 in
    let r : ℕ = index % 64 in
    let h = held words a.last a.len items c.self.invariant (ap (λ v. v.items) c.self.view_is) in
    let whole : get_or items index false ≡ get_or (levels_of_words words (a.len % 64) a.last) (64 * q + r) false =
    ap (λ levels. get_or levels index false) (sym h.items)
    ∙ ap (λ k. get_or (levels_of_words words (a.len % 64) a.last) k false) (omega arith) in
    elim c.match-get.branch [
      | in-Some w ↦
          let look = c.get.ensures.lookup in
          let value = c.deref.ensures.value in
          let is = w.in-Some.is in
          let word : w.in-Some.word.now ≡ get_or words q 0 = grind (arith, look, value, is) in
          let full : q < length words = grind (arith, look, value, is) in
          rw (w.word-is, word) (sym (whole ∙ level_of_full words (a.len % 64) a.last q r 0 false full (omega arith)))
      | in-None w ↦
          let look = c.get.ensures.lookup in
          let value = c.deref.ensures.value in
          let is = w.in-None.is in
          let behind : length words ≤ q = grind (arith, look, value, is) in
          let q_is : q ≡ length words = omega (arith, behind, c.if-index-self.false, c.self.invariant.size) in
          rw w.word-is (sym (whole ∙ ap (λ k. get_or (levels_of_words words (a.len % 64) a.last) (64 * k + r) false) q_is
          ∙ level_of_last words (a.len % 64) a.last r false
          (omega (arith, q_is, c.if-index-self.false, c.self.invariant.size))))
    ]

pub returns : goal.returns
returns c =
    let items = c.args.self.now.items in
    let index = c.args.index in
    let h = held _ _ _ items c.self.invariant (ap (λ v. v.items) c.self.view_is) in
    let word = c.match-get.word in
    ap (λ b. Some (eqb b 1)) (shr_and_one word.0 (word.1 - 1 - index % 64))
    ∙ ap Some (found c)
    ∙ sym (slice_get-get_or items index false (omega (arith, length-held h, c.if-index-self.false, c.self.invariant.size)))
