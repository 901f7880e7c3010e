-- The command is the one that was described.
use Rattle.std.proofs.Common.{rules}
use Rattle.gw_command.proofs.command.threads_command.Goals as goal

pub returns-clause-app : goal.returns-clause-app
returns-clause-app c = search rules
