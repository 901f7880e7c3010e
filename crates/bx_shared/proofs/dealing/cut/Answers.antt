use Rattle.std.proofs.Common.{arith}
use Rattle.bx_shared.proofs.Parting.{cuts, cut_left, cut_right}
use Rattle.bx_shared.proofs.dealing.cut.Goals as goal

pub split_seat-requires : goal.split_seat-requires
split_seat-requires c = let seven = c.requires.table.seven in (
  c.requires.table.same,
  omega arith,
  cuts c.args.words.now.shared.key c.args.words.now.shared.key _
      c.args.seat.now.me c.args.left c.requires.some c.requires.seat,
)

pub returns-clause-rest : goal.returns-clause-rest
returns-clause-rest c =
    cut_left c.args.words.now.shared.key _ _ c.args.left c.requires.some c.requires.seat c.split_seat.ensures.2

pub returns-clause-one : goal.returns-clause-one
returns-clause-one c =
    cut_right c.args.words.now.shared.key _ _ c.args.left c.requires.some c.requires.seat c.split_seat.ensures.4
