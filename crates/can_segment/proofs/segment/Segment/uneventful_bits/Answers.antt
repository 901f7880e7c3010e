use Rattle.std.proofs.Common.{[], ◌∷◌, ◌≤◌, ap, arith, length, length-append, rules, sym, subst}
use Rattle.can_segment.specs.UneventfulBits.{MakeUneventfulBits}
use Rattle.can_segment.specs.UneventfulBits.MakeUneventfulBits.{no_bit}
use Rattle.can_segment.proofs.Copies.{copies}
use Rattle.can_segment.proofs.UneventfulBits.{left_uneventfully, uneventful_both, uneventful_more, uneventful_on, uneventful_start}
use Rattle.can_segment.proofs.segment.Segment.uneventful_bits.Goals as goal

pub loop-init : goal.loop-init
loop-init c =
    let passed : c.args.self.now.idle_until ≤ length c.args.self.now.levels =
    omega (arith, c.len.ensures, c.if-len-self.false, ap (λ s. s.idle_until) c.self.view_is, ap (λ s. length s.levels) c.self.view_is) in
    (uneventful_start c.args.self.now c.args.limit, passed)

pub returns-then-len-self-clause-bits : goal.returns-then-len-self-clause-bits
returns-then-len-self-clause-bits c = no_bit

pub returns-then-len-self-clause-copies : goal.returns-then-len-self-clause-copies
returns-then-len-self-clause-copies c = copies _ _ _

pub transmit_burst-requires : goal.transmit_burst-requires
transmit_burst-requires c = c.loop.invariant.1

pub uneventful_bit-requires : goal.uneventful_bit-requires
uneventful_bit-requires c =
    omega (arith, c.loop.invariant.1, c.transmit_burst.ensures.same, (left_uneventfully c.transmit_burst.ensures.bits).longer)

pub loop-preserved : goal.loop-preserved
loop-preserved c =
    let ran = c.transmit_burst.ensures in
    let so_far = uneventful_both c.loop.invariant.0 (record { bits = ran.bits; within = ran.limit; still = ran.still }) in
    let made = c.uneventful_bit.ensures.made (search rules) in (
      uneventful_more c.args.self.now c.transmit_burst.new.self c.uneventful_bit.new.self c.args.limit
          made (c.uneventful_bit.ensures.still (search rules)) (search rules) so_far,
      omega (
        arith,
        c.loop.invariant.1,
        c.transmit_burst.ensures.same,
        c.uneventful_bit.ensures.same,
        (left_uneventfully c.transmit_burst.ensures.bits).longer,
        ap length made.levels_is,
        length-append c.transmit_burst.new.self.levels (made.level ∷ []),
      ),
    )

pub returns-then-limit-len-clause-bits : goal.returns-then-limit-len-clause-bits
returns-then-limit-len-clause-bits c = uneventful_on c.loop.invariant.0.bits c.transmit_burst.ensures.bits

pub returns-then-limit-len-clause-copies : goal.returns-then-limit-len-clause-copies
returns-then-limit-len-clause-copies c = copies _ _ _

pub returns-then-not-uneventful_bit-clause-bits : goal.returns-then-not-uneventful_bit-clause-bits
returns-then-not-uneventful_bit-clause-bits c =
    subst (MakeUneventfulBits c.args.self.now) (sym (c.uneventful_bit.ensures.none (search rules)))
    (uneventful_on c.loop.invariant.0.bits c.transmit_burst.ensures.bits)

pub returns-then-not-uneventful_bit-clause-copies : goal.returns-then-not-uneventful_bit-clause-copies
returns-then-not-uneventful_bit-clause-copies c = copies _ _ _

pub returns-clause-copies : goal.returns-clause-copies
returns-clause-copies c = copies _ _ _
