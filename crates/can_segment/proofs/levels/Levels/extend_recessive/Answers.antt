use Rattle.std.proofs.Common.{List, Bool, refl, arith, ◌≡◌, ◌+◌, ◌/◌, ◌++◌, ◌∷◌, [], ◌%◌, ℕ, ◌-◌, ◌*◌, ◌^◌, ◌∙◌, true, is_ok}
use Rattle.std.proofs.Common.{◌≤◌, append-nil, zero-add, sym, replicate, take_all, vec_len, vec_capacity, length}
use Rattle.std.proofs.Common.{length-append, ap}
use Rattle.std.proofs.lemmas.List.{length-replicate}
use Rattle.can_segment.specs.declared.levels.Levels.TheInside.{Inside}
use Rattle.can_segment.specs.Levels.{levels_of_word, recessive_levels}
use Rattle.can_segment.proofs.PackedLevels.{Hold, held, length-held, packed, more_held, word_filled, words_more}
use Rattle.can_segment.proofs.PackedLevels.{fits_with, joined, room_of, unpacked}
use Rattle.can_segment.proofs.levels.Levels.extend_recessive.Goals as goal
use Rattle.can_segment.proofs.levels.Levels.extend_recessive.Goals.{After-self, After-with_recessive-self-inside}
use Rattle.can_segment.proofs.levels.Levels.extend_recessive.Goals.{Joined-missing-lt64}
use Rattle.can_segment.proofs.levels.Levels.extend_recessive.Goals.{After-with_recessive-self-inside-2}
use Rattle.can_segment.proofs.levels.Levels.extend_recessive.Goals.{then-missing-lt64, else-missing-lt64}

before : (c : After-self) → Hold c.self.inside.words.items (c.self.inside.len % 64) c.self.inside.last c.args.self.now.items
before c =
    let a = c.self.inside in
    held a.words.items a.last a.len c.args.self.now.items c.self.invariant (ap (λ v. v.items) c.self.view_is)

size_is : (c : After-self) →
    length (c.args.self.now.items ++ recessive_levels c.args.count) ≡ c.self.inside.len + c.args.count
size_is c = omega (
  arith,
  length-append c.args.self.now.items (recessive_levels c.args.count),
  length-replicate c.args.count true,
  length-held (before c),
  c.self.invariant.size,
)

pub overflow_add-self : goal.overflow_add-self
overflow_add-self c =
    let a = c.self.inside in
    let h = held a.words.items a.last a.len c.args.self.now.items c.self.invariant (ap (λ v. v.items) c.self.view_is) in
    let capacity = ap (λ v. v.capacity) c.self.view_is in
    omega (arith, capacity, length-held h, c.self.invariant.size, c.requires.room)

pub with_recessive-self-inside-requires-clause-room :
    goal.with_recessive-self-inside-requires-clause-room
with_recessive-self-inside-requires-clause-room c =
    let a = c.self.inside in
    room_of (a.len % 64) c.args.count a.last c.self.invariant.rest (omega (arith, c.if-count-missing.true))

-- within the last word
within : (c : After-with_recessive-self-inside) →
    Hold c.self.inside.words.items (c.self.inside.len % 64 + c.args.count) c.with_recessive-self-inside.result
    (c.args.self.now.items ++ recessive_levels c.args.count)
within c =
    let a = c.self.inside in
    let count = c.args.count in
    let h = held a.words.items a.last a.len c.args.self.now.items c.self.invariant (ap (λ v. v.items) c.self.view_is) in
    let room = c.with_recessive-self-inside.ensures.room in
    more_held c.with_recessive-self-inside.result (recessive_levels count) h (a.len % 64 + count)
    (c.with_recessive-self-inside.ensures.levels (a.len % 64)) (omega (arith, c.if-count-missing.true))
    (fits_with (a.len % 64) count a.last c.with_recessive-self-inside.result h.rest (omega (arith, room)))

pub invariant_of-self : goal.invariant_of-self
invariant_of-self c =
    let places = goal.at.invariant_of-self c in
    packed _ (within places.After-with_recessive-self-inside) (size_is places.After-self)

pub with_recessive-requires-clause-room : goal.with_recessive-requires-clause-room
with_recessive-requires-clause-room c =
    let a = c.self.inside in
    room_of (a.len % 64) (64 - a.len % 64) a.last c.self.invariant.rest (omega arith)

pub push_reserved-requires : goal.push_reserved-requires
push_reserved-requires c =
    let a = c.self.inside in
    let h = held a.words.items a.last a.len c.args.self.now.items c.self.invariant (ap (λ v. v.items) c.self.view_is) in
    let capacity = ap (λ v. v.capacity) c.self.view_is in
    omega (
      arith,
      capacity,
      length-held h,
      c.self.invariant.size,
      c.requires.room,
      c.if-count-missing.false,
      a.words.ok.0,
    )

-- The last word of a is filled in b, if it was begun, with the first of `count` recessive levels behind these.
record IsFilled (items : List Bool) (count : ℕ) (a b : Inside) : Type 0 where
  pub more : ℕ
  pub last : ℕ
  pub hold : Hold b.words.items 0 last (items ++ recessive_levels more)
  pub filled : 64 * length b.words.items ≡ a.len + more
  pub most : more ≤ count
  pub len : b.len ≡ a.len + count
  pub capacity : vec_capacity b.words ≡ vec_capacity a.words

is_filled : (c : Joined-missing-lt64) →
    IsFilled c.args.self.now.items c.args.count c.self.inside c.if-missing-lt64.self-inside
is_filled c =
    let a = c.self.inside in
    let h = held a.words.items a.last a.len c.args.self.now.items c.self.invariant (ap (λ v. v.items) c.self.view_is) in
    let missing : ℕ = 64 - a.len % 64 in
    elim c.if-missing-lt64.branch [
      | then-missing-lt64 w ↦
          let full : a.len % 64 + missing ≡ 64 = omega arith in
          let longer = length-append a.words.items (w.with_recessive.result ∷ []) in
          record {
            more = missing;
            last = 0;
            hold = rw (w.self-inside-is, w.push_reserved.ensures.items)
                (word_filled w.with_recessive.result (recessive_levels missing) h
                (rw full at (w.with_recessive.ensures.levels (a.len % 64))));
            filled = rw (w.self-inside-is, w.push_reserved.ensures.items)
                (omega (arith, longer, c.self.invariant.size));
            most = c.if-count-missing.false;
            len = ap (λ b. b.len) w.self-inside-is;
            capacity = rw w.self-inside-is w.push_reserved.ensures.capacity;
          }
      | else-missing-lt64 w ↦
          let none : a.len % 64 ≡ 0 = omega (arith, w.if-missing-lt64.false) in
          record {
            more = 0;
            last = a.last;
            hold = rw (w.self-inside-is, append-nil) (rw none at h);
            filled = rw w.self-inside-is (omega (arith, none, c.self.invariant.size));
            most = omega arith;
            len = ap (λ b. b.len) w.self-inside-is;
            capacity = rw w.self-inside-is refl;
          }
    ]

beyond : (c : After-with_recessive-self-inside-2) →
    IsFilled c.args.self.now.items c.args.count c.self.inside c.if-missing-lt64.self-inside →
    Hold c.resize.new.self.items (c.if-missing-lt64.self-inside.len % 64) c.with_recessive-self-inside-2.result
    (c.args.self.now.items ++ recessive_levels c.args.count)
beyond c f =
    let a = c.self.inside in
    let h = held a.words.items a.last a.len c.args.self.now.items c.self.invariant (ap (λ v. v.items) c.self.view_is) in
    let b = c.if-missing-lt64.self-inside in
    let n : ℕ = b.len % 64 in
    let more : ℕ = b.len / 64 - vec_len b.words in
    let next = c.with_recessive-self-inside-2.result in
    let room = c.with_recessive-self-inside-2.ensures.room in
    let size = b.words.ok.0 in
    let capacity = ap (λ v. v.capacity) c.self.view_is in
    let fine : is_ok c.resize.result ≡ true =
    c.resize.ensures.succeeds (omega (
      arith,
      f.capacity,
      f.len,
      capacity,
      length-held h,
      c.self.invariant.size,
      c.requires.room,
    )) in
    let words : c.resize.new.self.items ≡ b.words.items ++ replicate more (2 ^ 64 - 1) =
    rw fine at c.resize.ensures.items
    ∙ ap (λ xs. xs ++ replicate more (2 ^ 64 - 1))
    (take_all (b.len / 64) b.words.items (omega (arith, size, f.filled, f.most, f.len))) in
    let all : f.more + 64 * more + n ≡ c.args.count = omega (arith, size, f.filled, f.most, f.len) in
    let e : levels_of_word n next ≡ levels_of_word 0 0 ++ recessive_levels n =
    rw zero-add at (c.with_recessive-self-inside-2.ensures.levels 0) in
    rw (words, ← joined c.args.self.now.items f.more (64 * more) n c.args.count all)
    (more_held next (recessive_levels n) (words_more more f.hold) n e (omega arith) (omega (arith, room)))

pub invariant_of-self-2 : goal.invariant_of-self-2
invariant_of-self-2 c =
    let places = goal.at.invariant_of-self-2 c in
    let f = is_filled places.Joined-missing-lt64 in
    packed _ (beyond places.After-with_recessive-self-inside-2 f) (size_is places.After-self ∙ sym f.len)

pub returns-clause-items : goal.returns-clause-items
returns-clause-items c =
    let places = goal.at.returns-clause-items c in
    let f = is_filled places.Joined-missing-lt64 in
    unpacked _ (beyond places.After-with_recessive-self-inside-2 f) (size_is places.After-self ∙ sym f.len)
