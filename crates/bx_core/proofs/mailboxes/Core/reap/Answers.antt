-- A reap of the request that was found asked to end is not refused.
use Rattle.std.proofs.Common.{sym, ◌∙◌}
use Rattle.bx_core.proofs.Leads.{leads-reap, found_at}
use Rattle.bx_core.proofs.mailboxes.Core.reap.Goals as goal

pub end-requires-clause-waiting : goal.end-requires-clause-waiting
end-requires-clause-waiting c =
    let found = c.in-Some.ensures in
    λ w. found_at c.args.mailbox c.args.self.now.queue c.in-Some.waiting w c.in-Some.place found.waiting found.place

pub end-requires-clause-leads : goal.end-requires-clause-leads
end-requires-clause-leads c =
    let found = c.in-Some.ensures in
    leads-reap c.args.self.now c.args.mailbox c.in-Some.waiting c.in-Some.place c.requires.in_mailboxes found.waiting
    found.place (sym c.may_reap.ensures ∙ c.if-not-may_reap.false)
