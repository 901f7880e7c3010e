use Rattle.can_node.proofs.Sofs.{starts_are_sofs}
use Rattle.can_node.proofs.laws.attempts_start_at_their_sof.Goals as goal

pub returns : goal.returns
returns c = starts_are_sofs
