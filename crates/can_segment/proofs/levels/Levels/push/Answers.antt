use Rattle.std.proofs.Common.{arith, ◌≡◌, ◌+◌, ◌*◌, ◌++◌, ◌∷◌, [], ◌%◌, ℕ, length, ap}
use Rattle.std.proofs.lemmas.List.{length_push}
use Rattle.can_segment.specs.Levels.{levels_of_word}
use Rattle.can_segment.proofs.PackedLevels.{Hold, fits_with, from_bool_most, held, length-held}
use Rattle.can_segment.proofs.PackedLevels.{more_held, next_level, packed, unpacked, word_filled}
use Rattle.can_segment.proofs.levels.Levels.push.Goals as goal
use Rattle.can_segment.proofs.levels.Levels.push.Goals.{After-from}

before : (c : After-from) → Hold c.self.inside.words.items (c.self.inside.len % 64) c.self.inside.last c.args.self.now.items
before c =
    let a = c.self.inside in
    held a.words.items a.last a.len c.args.self.now.items c.self.invariant (ap (λ v. v.items) c.self.view_is)

size_is : (c : After-from) → length (c.args.self.now.items ++ c.args.level ∷ []) ≡ c.self.inside.len + 1
size_is c = omega (
  arith,
  length_push c.args.self.now.items c.args.level,
  length-held (before c),
  c.self.invariant.size,
)

pub overflow_add-self-2 : goal.overflow_add-self-2
overflow_add-self-2 c =
    let j = (goal.at.overflow_add-self-2 c).After-from in
    let room = ap (λ v. v.capacity) c.self.view_is in
    omega (arith, room, length-held (before j), c.self.invariant.size)

pub push_reserved-requires : goal.push_reserved-requires
push_reserved-requires c =
    let j = (goal.at.push_reserved-requires c).After-from in
    let a = c.self.inside in
    let room = ap (λ v. v.capacity) c.self.view_is in
    omega (arith, room, length-held (before j), a.words.ok.0)

next_is : (c : After-from) →
    let a = c.self.inside in
    levels_of_word (a.len % 64 + 1) (a.last * 2 + c.from.result) ≡ levels_of_word (a.len % 64) a.last ++ c.args.level ∷ []
next_is c = rw c.from.ensures (next_level (c.self.inside.len % 64) c.self.inside.last c.args.level)

within : (c : After-from) → ((c.self.inside.len + 1) % 64 ≡ 0 → ⊥) →
    let a = c.self.inside in
    Hold a.words.items (a.len % 64 + 1) (a.last * 2 + c.from.result) (c.args.self.now.items ++ c.args.level ∷ [])
within c not_full =
    let a = c.self.inside in
    let h = before c in
    let next : ℕ = a.last * 2 + c.from.result in
    more_held next (c.args.level ∷ []) h (a.len % 64 + 1) (next_is c) (let less = h.below in omega (arith, less, not_full))
    (fits_with (a.len % 64) 1 a.last next h.rest (omega (arith, from_bool_most c.args.level, c.from.ensures)))

pub invariant_of-self-else-self-eq0 : goal.invariant_of-self-else-self-eq0
invariant_of-self-else-self-eq0 c =
    let j = (goal.at.invariant_of-self-else-self-eq0 c).After-from in
    packed _ (within j c.if-self-eq0.false) (size_is j)

pub returns-then-self-eq0-clause-items : goal.returns-then-self-eq0-clause-items
returns-then-self-eq0-clause-items c =
    let j = (goal.at.returns-then-self-eq0-clause-items c).After-from in
    let a = c.self.inside in
    let next : ℕ = a.last * 2 + c.from.result in
    let full : a.len % 64 + 1 ≡ 64 = omega (arith, c.if-self-eq0.true) in
    rw c.push_reserved.ensures.items
    (unpacked _ (word_filled next (c.args.level ∷ []) (before j) (rw full at (next_is j))) (size_is j))

pub returns-else-self-eq0-clause-items : goal.returns-else-self-eq0-clause-items
returns-else-self-eq0-clause-items c =
    let j = (goal.at.returns-else-self-eq0-clause-items c).After-from in
    unpacked _ (within j c.if-self-eq0.false) (size_is j)
