use Rattle.std.proofs.Common.{◌∙◌, ap, arith, inl, inr, length, refl, rules, sym, subst}
use Rattle.std.proofs.lemmas.Bool.Decides.{leb_tells}
use Rattle.can_segment.specs.UneventfulBits.{MakeIdleBits}
use Rattle.can_segment.proofs.Copies.{copies}
use Rattle.can_segment.proofs.IdleBits.{idle_both, idle_on, idle_start, left_idle}
use Rattle.can_segment.proofs.segment.Segment.idle_bits.Goals as goal

pub loop-init : goal.loop-init
loop-init c = record {
  so_far = idle_start c.args.self.now c.args.limit;
  made_is = search rules;
  longer = omega arith;
  idle = λ later. refl;
}

pub returns-then-not-idle_burst-clause-bits : goal.returns-then-not-idle_burst-clause-bits
returns-then-not-idle_burst-clause-bits c =
    subst (MakeIdleBits c.args.self.now) (sym c.self-in-loop.view_is)
    (idle_on c.loop.invariant.so_far.bits c.idle_burst.ensures.bits)

pub returns-then-not-idle_burst-clause-idle : goal.returns-then-not-idle_burst-clause-idle
returns-then-not-idle_burst-clause-idle c most =
    let none = c.idle_burst.ensures.none (search rules) in
    let same = ap (λ s. length s.levels) c.self-in-loop.view_is in
    let kept = ap (λ s. length s.levels) none.0 in
    elim (leb_tells c.args.limit (length c.loop.self.levels)) [
      | inl is ↦ omega (arith, is.1, same, kept)
      | inr isnt ↦
          let idle = c.loop.invariant.idle (omega (arith, isnt.1, most)) in
          let passed = none.1 (omega (arith, isnt.1)) in
          absurd (omega (arith, isnt.1, most, idle, passed))
    ]

pub returns-then-not-idle_burst-clause-copies : goal.returns-then-not-idle_burst-clause-copies
returns-then-not-idle_burst-clause-copies c = copies _ _ _

pub loop-preserved : goal.loop-preserved
loop-preserved c =
    let ran = c.idle_burst.ensures in
    let longer = (left_idle ran.bits).longer in
    let more = ran.made (search rules) in
    record {
      so_far = idle_both c.loop.invariant.so_far (record { bits = ran.bits; within = ran.limit; still = ran.still });
      made_is = omega (arith, c.loop.invariant.made_is, more);
      longer = omega (arith, c.loop.invariant.longer, longer);
      idle = λ later.
          let idle = c.loop.invariant.idle (omega (arith, later, longer)) in
          ran.same (omega (arith, later, longer, idle)) ∙ idle;
    }

pub returns-clause-idle : goal.returns-clause-idle
returns-clause-idle c most = omega (arith, c.loop.invariant.made_is, c.loop-test.false)

pub returns-clause-copies : goal.returns-clause-copies
returns-clause-copies c = copies _ _ _
