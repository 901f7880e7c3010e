-- What events lead to keeps the law.
use Rattle.std.proofs.Common.{subst}
use Rattle.bx_core.specs.Law.{Reached}
use Rattle.bx_core.proofs.Reaches.{law_of}
use Rattle.bx_core.proofs.mailboxes.Core.keep_law.Goals as goal

pub returns-clause-law : goal.returns-clause-law
returns-clause-law c = law_of c.args.self.now (subst Reached c.self.view_is c.self.invariant.reached)
