use Rattle.std.proofs.Common.{arith, ◌≡◌, ◌+◌, ◌*◌, ◌++◌, ◌∷◌, [], false, length, take, get_or}
use Rattle.std.proofs.Common.{ap, sym, ◌∙◌, append_assoc, append-nil, add-zero}
use Rattle.std.proofs.lemmas.List.{take_all, take_more}
use Rattle.std.specs.Int.{from_bool}
use Rattle.can_segment.specs.Levels.{levels_of_word}
use Rattle.can_segment.proofs.PackedLevels.{next_level, one_more, one_more_fits}
use Rattle.can_segment.proofs.levels.with_levels.Goals as goal

pub loop-level-init : goal.loop-level-init
loop-level-init c = record {
  room = omega arith;
  levels = λ n. ap (λ k. levels_of_word k c.args.word) (add-zero n) ∙ sym (append-nil (levels_of_word n c.args.word));
}

pub overflow_mul-word : goal.overflow_mul-word
overflow_mul-word c =
    let i = c.loop-level.invariant in
    let k = c.loop-level.level-index in
    omega (
      arith,
      one_more_fits c.args.word c.loop-level.word k (length c.args.levels.now) false i.room
          c.loop-level-test.true c.requires.room,
    )

pub overflow_add-word : goal.overflow_add-word
overflow_add-word c =
    let i = c.loop-level.invariant in
    let k = c.loop-level.level-index in
    let level = get_or c.args.levels.now k false in
    omega (
      arith,
      c.from.ensures,
      one_more_fits c.args.word c.loop-level.word k (length c.args.levels.now) level i.room
          c.loop-level-test.true c.requires.room,
    )

pub loop-level-preserved : goal.loop-level-preserved
loop-level-preserved c =
    let i = c.loop-level.invariant in
    let k = c.loop-level.level-index in
    let word = c.loop-level.word in
    let levels = c.args.levels.now in
    let level = get_or levels k false in
    record {
      room = rw c.from.ensures (one_more c.args.word word k level i.room);
      levels = λ n. rw c.from.ensures (ap (λ m. levels_of_word m (word * 2 + from_bool level)) (omega arith)
          ∙ next_level (n + k) word level
          ∙ ap (λ part. part ++ level ∷ []) (i.levels n)
          ∙ append_assoc (levels_of_word n c.args.word) (take k levels) (level ∷ [])
          ∙ ap (λ part. levels_of_word n c.args.word ++ part)
          (sym (take_more levels k false c.loop-level-test.true)));
    }

pub returns-clause-room : goal.returns-clause-room
returns-clause-room c =
    let i = c.loop-level.invariant in
    let size : c.loop-level.level-index ≡ length c.args.levels.now = omega (arith, c.loop-level-test.false) in
    rw (← size) i.room

pub returns-clause-levels : goal.returns-clause-levels
returns-clause-levels c = λ n.
    let i = c.loop-level.invariant in
    let k = c.loop-level.level-index in
    let levels = c.args.levels.now in
    let size : length levels ≡ k = omega (arith, c.loop-level-test.false) in
    ap (λ m. levels_of_word (n + m) c.loop-level.word) size
    ∙ i.levels n
    ∙ ap (λ part. levels_of_word n c.args.word ++ part) (take_all k levels c.loop-level-test.false)
