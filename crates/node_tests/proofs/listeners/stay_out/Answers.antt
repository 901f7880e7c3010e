use Rattle.std.proofs.Common.{false}
use Rattle.node_tests.proofs.listeners.stay_out.Goals as goal

pub go_on_by-requires-clause-goes : goal.go_on_by-requires-clause-goes
go_on_by-requires-clause-goes c = (false, c.stays_out-count.ensures.may)
