use Rattle.std.proofs.Common.{◌≡◌, ℕ, refl, subst, arith}
use Rattle.bx_words.specs.Lanes.{mark_of}
use Rattle.bx_words.proofs.LaneSteps.{added, bits_0, bits_1, bits_2, starts}
use Rattle.bx_words.proofs.lanes.with_start.Goals as goal

pub returns-in-0 : goal.returns-in-0
returns-in-0 c =
    let is : c.args.mailbox ≡ 0 = c.in-0.is in
    let mark : mark_of c.args.word 0 ≡ 7 = subst (λ (m : ℕ). mark_of c.args.word m ≡ 7) is c.requires.scheduled in
    rw is (added c.args.word 0 7 8 8 mark (bits_0 8 8 refl refl refl refl refl refl refl) starts)

pub returns-in-1 : goal.returns-in-1
returns-in-1 c =
    let is : c.args.mailbox ≡ 1 = c.in-1.is in
    let mark : mark_of c.args.word 1 ≡ 7 = subst (λ (m : ℕ). mark_of c.args.word m ≡ 7) is c.requires.scheduled in
    rw is (added c.args.word 1 7 8 2048 mark (bits_1 2048 8 refl refl refl refl refl refl refl) starts)

pub returns-in_default : goal.returns-in_default
returns-in_default c =
    let is : c.args.mailbox ≡ 2 = omega arith in
    let mark : mark_of c.args.word 2 ≡ 7 = subst (λ (m : ℕ). mark_of c.args.word m ≡ 7) is c.requires.scheduled in
    rw is (added c.args.word 2 7 8 524288 mark (bits_2 524288 8 refl refl refl refl refl refl refl) starts)
