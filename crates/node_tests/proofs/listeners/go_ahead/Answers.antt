use Rattle.std.proofs.Common.{◌<◌, length, arith}
use Rattle.node_tests.proofs.listeners.go_ahead.Goals as goal

pub go_ahead_by-requires-clause-goes : goal.go_ahead_by-requires-clause-goes
go_ahead_by-requires-clause-goes c =
    let ahead = c.ahead.result.now in
    let some : 0 < length ahead = omega (arith, c.if-count-eq0.false, c.if-ahead-count.true) in
    (ahead, c.ahead.ensures.may some, omega (arith, c.if-ahead-count.true))
