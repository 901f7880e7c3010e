-- A withdrawal by the owner of the claim is not refused.
use Rattle.std.proofs.Common.{sym, ◌∙◌}
use Rattle.bx_core.proofs.Leads.{leads-withdraw}
use Rattle.bx_core.proofs.mailboxes.Core.withdraw.Goals as goal

pub set_claim-requires-clause-leads : goal.set_claim-requires-clause-leads
set_claim-requires-clause-leads c =
    leads-withdraw c.args.self.now c.args.route c.args.mailbox c.requires.in_range c.requires.in_mailboxes
    (sym c.is_claimed_by.ensures ∙ c.if-not-is_claimed_by.false)
