use Rattle.std.proofs.Common.{◌≡◌, refl, arith}
use Rattle.bx_words.proofs.LaneSteps.{masked, mask_0, mask_1, mask_2, nothing_left}
use Rattle.bx_words.proofs.lanes.lane_mask.Goals as goal

pub returns-in-0 : goal.returns-in-0
returns-in-0 c = λ w fits.
    let is : c.args.mailbox ≡ 0 = c.in-0.is in
    rw is (masked w 0 18446744073709551360 0 0 fits (mask_0 18446744073709551360 0 refl refl refl refl refl refl refl)
    (nothing_left w 0))

pub returns-in-1 : goal.returns-in-1
returns-in-1 c = λ w fits.
    let is : c.args.mailbox ≡ 1 = c.in-1.is in
    rw is (masked w 1 18446744073709486335 0 0 fits (mask_1 18446744073709486335 0 refl refl refl refl refl refl refl)
    (nothing_left w 1))

pub returns-in_default : goal.returns-in_default
returns-in_default c = λ w fits.
    let is : c.args.mailbox ≡ 2 = omega arith in
    rw is (masked w 2 18446744073692839935 0 0 fits (mask_2 18446744073692839935 0 refl refl refl refl refl refl refl)
    (nothing_left w 2))
