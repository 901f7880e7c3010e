use Rattle.std.proofs.Common.{◌≡◌, ℕ, ◌<◌, ◌^◌, subst, arith, lit<}
use Rattle.std.specs.Int.Bits.{bit_or}
use Rattle.std.proofs.lemmas.Nat.{or_lt}
use Rattle.bx_words.specs.Lanes.{lane_of, filling}
use Rattle.bx_words.proofs.LaneSteps.{requested, requests_0, requests_1, requests_2}
use Rattle.bx_words.proofs.lanes.with_youngest.Goals as goal

pub returns-in-0 : goal.returns-in-0
returns-in-0 c =
    let is : c.args.mailbox ≡ 0 = c.in-0.is in
    let was : lane_of c.args.word 0 ≡ filling c.args.route =
    subst (λ (m : ℕ). lane_of c.args.word m ≡ filling c.args.route) is c.requires.filling in
    let fits : bit_or c.args.word 50331650 < 2 ^ 64 = or_lt 64 c.args.word 50331650 (omega arith) (lit< tt) in
    rw is (requested c.args.word 0 c.args.route 50331650 18446744073709551615
    (lit< tt) c.requires.route fits was requests_0)

pub returns-in-1 : goal.returns-in-1
returns-in-1 c =
    let is : c.args.mailbox ≡ 1 = c.in-1.is in
    let was : lane_of c.args.word 1 ≡ filling c.args.route =
    subst (λ (m : ℕ). lane_of c.args.word m ≡ filling c.args.route) is c.requires.filling in
    let fits : bit_or c.args.word 67109376 < 2 ^ 64 = or_lt 64 c.args.word 67109376 (omega arith) (lit< tt) in
    rw is (requested c.args.word 1 c.args.route 67109376 18446744073692774399
    (lit< tt) c.requires.route fits was requests_1)

pub returns-in_default : goal.returns-in_default
returns-in_default c =
    let is : c.args.mailbox ≡ 2 = omega arith in
    let was : lane_of c.args.word 2 ≡ filling c.args.route =
    subst (λ (m : ℕ). lane_of c.args.word m ≡ filling c.args.route) is c.requires.filling in
    let fits : bit_or c.args.word 131072 < 2 ^ 64 = or_lt 64 c.args.word 131072 (omega arith) (lit< tt) in
    rw is (requested c.args.word 2 c.args.route 131072 18446744073608888319
    (lit< tt) c.requires.route fits was requests_2)
