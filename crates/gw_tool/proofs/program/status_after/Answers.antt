-- A run that fails ends with its failure's status.
use Rattle.std.proofs.Common.{inr}
use Rattle.gw_tool.proofs.program.status_after.Goals as goal

pub returns-in-Err : goal.returns-in-Err
returns-in-Err g c =
    inr (c.in-Err.failure, c.status.ensures, c.in-Err.ensures)
