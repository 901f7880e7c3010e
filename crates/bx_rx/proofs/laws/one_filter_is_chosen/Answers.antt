-- Of two filters one comes before the other.
use Rattle.bx_rx.proofs.Choices.{one_chosen}
use Rattle.bx_rx.proofs.laws.one_filter_is_chosen.Goals as goal

pub returns : goal.returns
returns c = one_chosen
