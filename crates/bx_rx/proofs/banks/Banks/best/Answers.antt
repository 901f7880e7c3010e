-- One more bank: inactive, of no matching filter, or with one that is better or not.
use Rattle.std.proofs.Common.{sym, ◌∙◌, true≢false}
use Rattle.bx_rx.proofs.Choices.{step-inactive, step-unmatched, step-first, step-better, step-kept}
use Rattle.bx_rx.proofs.banks.Banks.best.Goals as goal
use Rattle.bx_rx.proofs.banks.Banks.best.Goals.{in-Some+in-Some-best, in-Some+in_default-best-2}
use Rattle.bx_rx.proofs.banks.Banks.best.Goals.{in-Some+in_default-best, in_default}

pub loop-number-preserved-then-not-is_active : goal.loop-number-preserved-then-not-is_active
loop-number-preserved-then-not-is_active c =
    step-inactive _ _ _ _ c.self.invariant c.loop-number-test.true _ _ c.of-images.ensures.wide
    c.of-images.ensures.narrow _ (sym c.is_active.ensures ∙ c.if-not-is_active.true) c.loop-number.invariant

pub loop-number-preserved : goal.loop-number-preserved
loop-number-preserved c = let i = c.of-images.ensures in let all = c.self.invariant in
    let t = c.loop-number-test.true in let inv = c.loop-number.invariant in let on =
    sym c.is_active.ensures ∙ c.if-not-is_active.false in elim c.match-first_match.branch [
      | in-Some+in-Some-best w ↦ step-kept _ _ _ _ all t _ _ i.wide i.narrow _ _ _ _ _ w.in-Some-best.is w.best-is
          (λ above. true≢false (sym (w.outranks.ensures.1 above) ∙ w.if-not-outranks.true)) inv
      | in-Some+in_default-best-2 w ↦ step-better _ _ _ _ all t _ _ i.wide i.narrow _ _ _ _ _ _ w.in-Some-best.is
          w.best-is
          on w.in-Some.ensures (w.outranks.ensures.0 w.if-not-outranks.false) inv
      | in-Some+in_default-best w ↦ step-first _ _ _ _ all t _ _ i.wide i.narrow _ _ _ w.in_default-best.is w.best-is on
          w.in-Some.ensures inv
      | in_default w ↦ step-unmatched _ _ _ _ all t _ _ i.wide i.narrow _ _ w.best-is w.in_default.ensures inv
    ]
