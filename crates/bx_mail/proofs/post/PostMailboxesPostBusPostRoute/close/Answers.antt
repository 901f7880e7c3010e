-- What is left is the same, as `Left`, and what the sides did with its counts is what they did.
use Rattle.std.proofs.Common.{◌∙◌, map, true, sym, ap, subst}
use Rattle.bx_core.specs.Ties.{AllTied, NothingBeyond}
use Rattle.bx_mail.specs.Postings.{item_left}
use Rattle.bx_mail.specs.Sides.{HasRun, RouteRuns}
use Rattle.bx_mail.proofs.post.PostMailboxesPostBusPostRoute.close.Goals as goal

pub returns-clause-tied : goal.returns-clause-tied
returns-clause-tied g c = subst (AllTied HasRun RouteRuns true c.args.bus c.args.sides.items)
    (sym (c.in_ok-lefts.ensures ∙ ap (map item_left) c.as_slice.ensures.value))
    (λ route s did past at h k. c.close-closed.ensures.tied route s did past at h.runs k)

pub returns-clause-beyond : goal.returns-clause-beyond
returns-clause-beyond g c = subst (NothingBeyond HasRun c.args.bus.routes c.args.bus)
    (sym (c.in_ok-lefts.ensures ∙ ap (map item_left) c.as_slice.ensures.value))
    (λ did h. c.close-closed.ensures.beyond did h.runs)
