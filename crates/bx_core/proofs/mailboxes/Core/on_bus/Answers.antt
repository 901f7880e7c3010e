-- What is found is one of those that wait.
use Rattle.std.proofs.Common.{rules}
use Rattle.bx_core.specs.declared.waiting.Waiting.{Waiting}
use Rattle.bx_core.specs.States.{is_transmitting}
use Rattle.bx_core.proofs.Found.{find-in_place}
use Rattle.bx_core.proofs.mailboxes.Core.on_bus.Goals as goal

pub returns-clause-in_place : goal.returns-clause-in_place
returns-clause-in_place c = find-in_place c.args.self.now (λ (w : Waiting). is_transmitting w.status) c.on_bus.result
    c.keep_law.ensures.law (search rules)
