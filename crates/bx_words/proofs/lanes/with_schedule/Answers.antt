use Rattle.std.proofs.Common.{◌≡◌, ℕ, refl, subst, arith}
use Rattle.bx_words.specs.Lanes.{mark_of}
use Rattle.bx_words.proofs.LaneSteps.{added, bits_0, bits_1, bits_2, schedules}
use Rattle.bx_words.proofs.lanes.with_schedule.Goals as goal

pub returns-in-0 : goal.returns-in-0
returns-in-0 c =
    let is : c.args.mailbox ≡ 0 = c.in-0.is in
    let mark : mark_of c.args.word 0 ≡ 3 = subst (λ (m : ℕ). mark_of c.args.word m ≡ 3) is c.requires.pending in
    rw is (added c.args.word 0 3 4 4 mark (bits_0 4 4 refl refl refl refl refl refl refl) schedules)

pub returns-in-1 : goal.returns-in-1
returns-in-1 c =
    let is : c.args.mailbox ≡ 1 = c.in-1.is in
    let mark : mark_of c.args.word 1 ≡ 3 = subst (λ (m : ℕ). mark_of c.args.word m ≡ 3) is c.requires.pending in
    rw is (added c.args.word 1 3 4 1024 mark (bits_1 1024 4 refl refl refl refl refl refl refl) schedules)

pub returns-in_default : goal.returns-in_default
returns-in_default c =
    let is : c.args.mailbox ≡ 2 = omega arith in
    let mark : mark_of c.args.word 2 ≡ 3 = subst (λ (m : ℕ). mark_of c.args.word m ≡ 3) is c.requires.pending in
    rw is (added c.args.word 2 3 4 262144 mark (bits_2 262144 4 refl refl refl refl refl refl refl) schedules)
