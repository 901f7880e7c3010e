-- The law of all lists of events is a lemma.
use Rattle.bx_core.proofs.Reaches.{law_after_all}
use Rattle.bx_core.proofs.laws.law_after_all.Goals as goal

pub returns : goal.returns
returns c = law_after_all
