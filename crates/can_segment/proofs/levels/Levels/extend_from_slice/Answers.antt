use Rattle.std.proofs.Common.{arith, ◌≡◌, ◌+◌, ◌-◌, ◌++◌, [], ℕ, ◌%◌, length, length-append, ap, refl, ◌∙◌}
use Rattle.std.proofs.Common.{append-nil, append_assoc}
use Rattle.std.proofs.lemmas.List.{take-append-drop}
use Rattle.can_segment.proofs.PackedLevels.{Hold, fits_with, held, length-held, more_held, packed, room_of, unpacked}
use Rattle.can_segment.proofs.PackedLevels.{word_filled}
use Rattle.can_segment.proofs.levels.Levels.extend_from_slice.Goals as goal
use Rattle.can_segment.proofs.levels.Levels.extend_from_slice.Goals.{After-with_levels-self-inside}

pub loop-missing-init : goal.loop-missing-init
loop-missing-init c =
    let a = c.self.inside in
    let items = c.args.self.now.items in
    let h = held a.words.items a.last a.len items c.self.invariant (ap (λ v. v.items) c.self.view_is) in
    let begun : 64 - (64 - a.len % 64) ≡ a.len % 64 = omega arith in
    record {
      some = omega arith;
      most = omega arith;
      done = [];
      split = refl;
      hold = rw (begun, append-nil) h;
      capacity = ap (λ v. v.capacity) c.self.view_is;
      len = omega (arith, length-held h, c.self.invariant.size);
    }

pub with_levels-requires : goal.with_levels-requires
with_levels-requires c =
    let i = c.loop-missing.invariant in
    record {
      room = room_of (64 - c.loop-missing.missing) (length c.split_at.result.0.now) c.loop-missing.word i.hold.rest
          (omega (arith, c.split_at.ensures.front_len, i.most, c.loop-missing-test.true));
    }

pub push_reserved-requires : goal.push_reserved-requires
push_reserved-requires c =
    let i = c.loop-missing.invariant in
    omega (
      arith,
      i.capacity,
      length-held i.hold,
      length-append c.args.self.now.items i.done,
      ap length i.split,
      length-append i.done c.loop-missing.rest.now,
      i.most,
      i.some,
      c.loop-missing-test.true,
      c.requires.room,
      c.loop-missing.self-inside.words.ok.0,
    )

pub loop-missing-preserved : goal.loop-missing-preserved
loop-missing-preserved c =
    let i = c.loop-missing.invariant in
    let items = c.args.self.now.items in
    let fills = c.split_at.result.0.now in
    let behind = c.split_at.result.1.now in
    let full : 64 - c.loop-missing.missing + length fills ≡ 64 =
    omega (arith, c.split_at.ensures.front_len, i.most, c.loop-missing-test.true) in
    let e = c.with_levels.ensures.levels (64 - c.loop-missing.missing) in
    record {
      some = omega arith;
      most = omega arith;
      done = i.done ++ fills;
      split = append_assoc i.done fills behind
          ∙ ap (λ part. i.done ++ part) (rw (c.split_at.ensures.front, c.split_at.ensures.back)
          (take-append-drop c.loop-missing.missing c.loop-missing.rest.now))
          ∙ i.split;
      hold = rw (c.push_reserved.ensures.items, ← append_assoc)
          (word_filled c.with_levels.result fills i.hold (rw full at e));
      capacity = rw c.push_reserved.ensures.capacity i.capacity;
      len = i.len;
    }

pub with_levels-self-inside-requires : goal.with_levels-self-inside-requires
with_levels-self-inside-requires c =
    let i = c.loop-missing.invariant in
    record {
      room = room_of (64 - c.loop-missing.missing) (length c.loop-missing.rest.now) c.loop-missing.word i.hold.rest
          (omega (arith, i.most, c.loop-missing-test.false));
    }

all_held : (c : After-with_levels-self-inside) →
    Hold c.loop-missing.self-inside.words.items (64 - c.loop-missing.missing + length c.loop-missing.rest.now)
    c.with_levels-self-inside.result (c.args.self.now.items ++ c.args.levels.now)
all_held c =
    let i = c.loop-missing.invariant in
    let n : ℕ = 64 - c.loop-missing.missing in
    let rest = c.loop-missing.rest.now in
    let next = c.with_levels-self-inside.result in
    let behind : (c.args.self.now.items ++ i.done) ++ rest ≡ c.args.self.now.items ++ c.args.levels.now =
    append_assoc c.args.self.now.items i.done rest ∙ ap (λ part. c.args.self.now.items ++ part) i.split in
    rw (← behind) (more_held next rest i.hold (n + length rest) (c.with_levels-self-inside.ensures.levels n)
    (omega (arith, i.most, i.some, c.loop-missing-test.false))
    (fits_with n (length rest) c.loop-missing.word next i.hold.rest c.with_levels-self-inside.ensures.room))

size_is : (c : After-with_levels-self-inside) →
    length (c.args.self.now.items ++ c.args.levels.now) ≡ c.loop-missing.self-inside.len + length c.args.levels.now
size_is c = omega (arith, length-append c.args.self.now.items c.args.levels.now, c.loop-missing.invariant.len)

pub invariant_of-self : goal.invariant_of-self
invariant_of-self c = let j = (goal.at.invariant_of-self c).After-with_levels-self-inside in
    packed _ (all_held j) (size_is j)

pub returns-clause-items : goal.returns-clause-items
returns-clause-items c = let j = (goal.at.returns-clause-items c).After-with_levels-self-inside in
    unpacked _ (all_held j) (size_is j)
