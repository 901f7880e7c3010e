use Rattle.std.proofs.Common.{inr, sym, ◌∙◌}
use Rattle.std.proofs.lemmas.Bool.{not-true}
use Rattle.can_segment.proofs.deferred.Deferred.starts_none.Goals as goal

pub returns : goal.returns
returns c none = inr (λ node next. sym (c.wants_start.ensures node next) ∙ not-true c.wants_start.result none)
