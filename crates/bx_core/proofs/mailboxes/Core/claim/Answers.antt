-- A claim of a mailbox that was found empty is not refused.
use Rattle.std.proofs.Common.{sym, ap, ◌∙◌, is_some}
use Rattle.bx_core.proofs.Leads.{leads-claim, is_some-map}
use Rattle.bx_core.proofs.mailboxes.Core.claim.Goals as goal

pub set_claim-requires-clause-leads : goal.set_claim-requires-clause-leads
set_claim-requires-clause-leads c =
    leads-claim c.args.self.now c.args.route c.args.mailbox c.requires.in_range c.requires.in_mailboxes
    (ap is_some (sym c.claim_at.ensures) ∙ sym c.is_some.ensures ∙ c.if-is_some.false)
    (ap is_some (sym c.find.ensures.waiting) ∙ is_some-map _ c.find.result ∙ sym c.is_some-2.ensures
    ∙ c.if-is_some-2.false)
