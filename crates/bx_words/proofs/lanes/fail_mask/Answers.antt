use Rattle.std.proofs.Common.{◌≡◌, ℕ, refl, subst, arith}
use Rattle.bx_words.specs.Lanes.{IsTransmitting}
use Rattle.bx_words.proofs.LaneSteps.{failed, mask_0, mask_1, mask_2}
use Rattle.bx_words.proofs.lanes.fail_mask.Goals as goal

pub returns-in-0 : goal.returns-in-0
returns-in-0 c = λ w fits mark.
    let is : c.args.mailbox ≡ 0 = c.in-0.is in
    rw is (failed w 0 18446744073709551607 fits (subst (λ (m : ℕ). IsTransmitting w m) is mark)
    (mask_0 18446744073709551607 247 refl refl refl refl refl refl refl))

pub returns-in-1 : goal.returns-in-1
returns-in-1 c = λ w fits mark.
    let is : c.args.mailbox ≡ 1 = c.in-1.is in
    rw is (failed w 1 18446744073709549567 fits (subst (λ (m : ℕ). IsTransmitting w m) is mark)
    (mask_1 18446744073709549567 247 refl refl refl refl refl refl refl))

pub returns-in_default : goal.returns-in_default
returns-in_default c = λ w fits mark.
    let is : c.args.mailbox ≡ 2 = omega arith in
    rw is (failed w 2 18446744073709027327 fits (subst (λ (m : ℕ). IsTransmitting w m) is mark)
    (mask_2 18446744073709027327 247 refl refl refl refl refl refl refl))
