-- An abort of its owner's request, not asked before, is not refused.
use Rattle.std.proofs.Common.{◌≡◌, arith, sym, ap, ◌∙◌}
use Rattle.bx_core.specs.declared.waiting.Waiting.{Waiting}
use Rattle.bx_core.proofs.Leads.{leads-ask, leads-abort, found_at}
use Rattle.bx_core.proofs.mailboxes.Core.abort.Goals as goal

pub set_waiting-requires-clause-route : goal.set_waiting-requires-clause-route
set_waiting-requires-clause-route c =
    let found = c.in-Some.ensures in
    λ w. ap (λ (x : Waiting). x.route)
    (found_at c.args.mailbox c.args.self.now.queue c.in-Some.waiting w c.in-Some.place found.waiting found.place)

pub set_waiting-requires-clause-leads : goal.set_waiting-requires-clause-leads
set_waiting-requires-clause-leads c =
    let found = c.in-Some.ensures in
    let own : c.in-Some.waiting.route ≡ c.args.route = omega arith in
    leads-ask c.args.self.now c.args.route c.args.mailbox c.in-Some.waiting c.in-Some.place c.requires.in_range
    c.requires.in_mailboxes found.waiting found.place own c.if-waiting.false
    (sym c.is_transmitting.ensures ∙ c.if-is_transmitting.true)

pub end-requires-clause-waiting : goal.end-requires-clause-waiting
end-requires-clause-waiting c =
    let found = c.in-Some.ensures in
    λ w. found_at c.args.mailbox c.args.self.now.queue c.in-Some.waiting w c.in-Some.place found.waiting found.place

pub end-requires-clause-leads : goal.end-requires-clause-leads
end-requires-clause-leads c =
    let found = c.in-Some.ensures in
    let own : c.in-Some.waiting.route ≡ c.args.route = omega arith in
    leads-abort c.args.self.now c.args.route c.args.mailbox c.in-Some.waiting c.in-Some.place c.requires.in_range
    c.requires.in_mailboxes found.waiting found.place own c.if-waiting.false
    (sym c.is_transmitting.ensures ∙ c.if-is_transmitting.false)
