-- What is found is one of those that wait.
use Rattle.std.proofs.Common.{rules}
use Rattle.bx_core.specs.declared.waiting.Waiting.{Waiting}
use Rattle.bx_core.specs.Priority.{goes_first}
use Rattle.bx_core.proofs.Found.{find-in_place}
use Rattle.bx_core.proofs.mailboxes.Core.next.Goals as goal

pub returns-else-self-clause-in_place : goal.returns-else-self-clause-in_place
returns-else-self-clause-in_place c =
    let s = c.args.self.now in
    find-in_place s (λ (w : Waiting). goes_first w s.queue) c.least.result c.keep_law.ensures.law (search rules)
