-- The newest number is that of the last request.
use Rattle.std.proofs.Common.{ap, sym, ◌∙◌}
use Rattle.bx_core.specs.Steps.{last_number}
use Rattle.bx_core.proofs.LastNumber.{last_of-last}
use Rattle.bx_core.proofs.lists.Lists.last_number.Goals as goal

pub returns-in-Some : goal.returns-in-Some
returns-in-Some c = sym (last_of-last c.as_slice.result.now c.in-Some.entry.now 0 c.in-Some.ensures.value)
    ∙ ap last_number c.as_slice.ensures.value
