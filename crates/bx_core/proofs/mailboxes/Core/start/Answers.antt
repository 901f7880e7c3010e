-- A start of the request that was found scheduled is not refused.
use Rattle.std.proofs.Common.{sym, ap, ◌∙◌}
use Rattle.bx_core.specs.declared.waiting.Waiting.{Waiting}
use Rattle.bx_core.proofs.Leads.{leads-start, found_at}
use Rattle.bx_core.proofs.mailboxes.Core.start.Goals as goal

pub set_status-requires-clause-route : goal.set_status-requires-clause-route
set_status-requires-clause-route c =
    let found = c.in-Some.ensures in
    λ w. ap (λ (x : Waiting). x.route)
    (found_at c.args.mailbox c.args.self.now.queue c.in-Some.waiting w c.in-Some.place found.waiting found.place)

pub set_status-requires-clause-leads : goal.set_status-requires-clause-leads
set_status-requires-clause-leads c =
    let found = c.in-Some.ensures in
    leads-start c.args.self.now c.args.mailbox c.in-Some.waiting c.in-Some.place c.requires.in_mailboxes found.waiting
    found.place (sym c.may_start.ensures ∙ c.if-not-may_start.false)
