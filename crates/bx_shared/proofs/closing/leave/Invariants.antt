use Rattle.std.proofs.Common.{◌≡◌, length}
use Rattle.bx_shared.specs.Closing.{Remains, waiting_in}
use Rattle.bx_shared.proofs.closing.leave.Given as goal

abbrev pub invariant-loop : goal.invariant-loop
invariant-loop l = (l.seat.table_id ≡ l.fn.seat.table_id) × (l.seat.me ≡ l.fn.seat.me)
    × Remains l.word (waiting_in l.fn.seat.me) l.left.items × (length l.left.items ≡ l.counter)
