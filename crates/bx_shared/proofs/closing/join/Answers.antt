-- The places of both seats together.
use Rattle.std.proofs.Common.{rules}
use Rattle.bx_shared.proofs.Places.{joins-keep}
use Rattle.bx_shared.proofs.closing.join.Goals as goal

pub join_seat-requires : goal.join_seat-requires
join_seat-requires c = ((search rules), (search rules), (search rules), (search rules), joins-keep _ _ _ _ _)
