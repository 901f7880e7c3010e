-- The law, by its lemma.
use Rattle.bx_shared.proofs.Determined.{shows_one}
use Rattle.bx_shared.proofs.laws.one_state_is_shown.Goals as goal

pub returns : goal.returns
returns c = shows_one
