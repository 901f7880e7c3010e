use Rattle.std.proofs.Common.{arith, ◌%◌, length, ap}
use Rattle.std.proofs.lemmas.Result.{on_ok_weaker}
use Rattle.can_segment.proofs.PackedLevels.{held, length-held, length-levels_of_words}
use Rattle.can_segment.proofs.levels.Levels.reserve.Goals as goal

pub returns-in_default-clause-succeeds : goal.returns-in_default-clause-succeeds
returns-in_default-clause-succeeds c room =
    let a = c.self.inside in
    let h = held a.words.items a.last a.len c.args.self.now.items c.self.invariant (ap (λ v. v.items) c.self.view_is) in
    let capacity = ap (λ v. v.capacity) c.self.view_is in
    absurd (c.in_default.ensures (omega (arith, capacity, length-held h, c.self.invariant.size, room)))

-- the length before, in levels, and how many words hold that and the levels to come
pub returns-clause-room : goal.returns-clause-room
returns-clause-room c =
    let a = c.self.inside in
    let after = c.reserve.new.self in
    let words = c.reserve.ensures.items in
    let sum = c.in-Some.ensures in
    let up = c.div_ceil.ensures in
    let size = length-levels_of_words after.items (a.len % 64) a.last in
    on_ok_weaker c.reserve.result (λ room. omega (
      arith,
      room,
      size,
      ap length words,
      sum,
      up,
      c.len.ensures,
      c.self.invariant.size,
      a.words.ok.0,
      after.ok.0,
    )) c.reserve.ensures.ok

pub returns-clause-succeeds : goal.returns-clause-succeeds
returns-clause-succeeds c room =
    let a = c.self.inside in
    let h = held a.words.items a.last a.len c.args.self.now.items c.self.invariant (ap (λ v. v.items) c.self.view_is) in
    let capacity = ap (λ v. v.capacity) c.self.view_is in
    let sum = c.in-Some.ensures in
    let up = c.div_ceil.ensures in
    c.reserve.ensures.succeeds
    (omega (arith, capacity, length-held h, c.self.invariant.size, room, sum, up, c.len.ensures, a.words.ok.0))
