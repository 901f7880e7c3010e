use Rattle.std.proofs.Common.{arith}
use Rattle.gw_threads.specs.Clocks.{pacer_of}
use Rattle.gw_threads.proofs.Pacing.{deals-keep}
use Rattle.gw_threads.proofs.clock_steps.deal.Goals as goal

pub split_seat-requires : goal.split_seat-requires
split_seat-requires c = let words = c.requires.table.words in (
  c.requires.table.same,
  omega arith,
  deals-keep c.args.clocks.now.shared.key c.args.seat.now.id
      (pacer_of c.args.seat.now.me) c.requires.some,
)
