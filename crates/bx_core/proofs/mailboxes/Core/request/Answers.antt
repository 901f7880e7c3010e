-- A request by the owner, of a number that may follow, is not refused.
use Rattle.std.proofs.Common.{sym, ◌∙◌}
use Rattle.bx_core.specs.Steps.{with_request}
use Rattle.bx_core.proofs.Leads.{leads-request, goes-request}
use Rattle.bx_core.proofs.mailboxes.Core.request.Goals as goal

pub add_request-requires-clause-leads : goal.add_request-requires-clause-leads
add_request-requires-clause-leads c =
    leads-request c.args.self.now c.args.route c.args.mailbox c.args.number c.args.frame c.requires.in_range
    c.requires.in_mailboxes
    (sym c.is_claimed_by.ensures ∙ c.if-not-is_claimed_by.false) (sym c.may_follow.ensures ∙ c.if-not-may_follow.false)

pub returns-in-Err : goal.returns-in-Err
returns-in-Err c = (
  tt,
  c.in-Err.ensures.err,
  with_request c.args.self.now c.args.route c.args.mailbox c.args.number c.args.frame,
  goes-request c.args.self.now c.args.route c.args.mailbox c.args.number c.args.frame
      (sym c.is_claimed_by.ensures ∙ c.if-not-is_claimed_by.false) (sym c.may_follow.ensures
      ∙ c.if-not-may_follow.false),
)
