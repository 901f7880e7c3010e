use Rattle.std.proofs.Common.{◌≡◌, ℕ, refl, subst, arith}
use Rattle.bx_words.specs.Lanes.{mark_of}
use Rattle.bx_words.proofs.LaneSteps.{added, bits_0, bits_1, bits_2, asks}
use Rattle.bx_words.proofs.lanes.with_abort.Goals as goal

pub returns-in-0 : goal.returns-in-0
returns-in-0 c =
    let is : c.args.mailbox ≡ 0 = c.in-0.is in
    let mark : mark_of c.args.word 0 ≡ 15 = subst (λ (m : ℕ). mark_of c.args.word m ≡ 15) is c.requires.transmitting in
    rw is (added c.args.word 0 15 16 16 mark (bits_0 16 16 refl refl refl refl refl refl refl) asks)

pub returns-in-1 : goal.returns-in-1
returns-in-1 c =
    let is : c.args.mailbox ≡ 1 = c.in-1.is in
    let mark : mark_of c.args.word 1 ≡ 15 = subst (λ (m : ℕ). mark_of c.args.word m ≡ 15) is c.requires.transmitting in
    rw is (added c.args.word 1 15 16 4096 mark (bits_1 4096 16 refl refl refl refl refl refl refl) asks)

pub returns-in_default : goal.returns-in_default
returns-in_default c =
    let is : c.args.mailbox ≡ 2 = omega arith in
    let mark : mark_of c.args.word 2 ≡ 15 = subst (λ (m : ℕ). mark_of c.args.word m ≡ 15) is c.requires.transmitting in
    rw is (added c.args.word 2 15 16 1048576 mark (bits_2 1048576 16 refl refl refl refl refl refl refl) asks)
