use Rattle.std.proofs.Common.{refl}
use Rattle.node_tests.proofs.listeners.go_on.Goals as goal

pub go_on-requires-clause-goes : goal.go_on-requires-clause-goes
go_on-requires-clause-goes c = c.if-not-goes_on.ensures.may refl
