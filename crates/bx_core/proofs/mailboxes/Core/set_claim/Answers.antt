-- The fields keep to their invariant where a claim changes.
use Rattle.std.proofs.Common.{sym, ap, ◌∙◌, ℕ}
use Rattle.bx_core.specs.States.{State}
use Rattle.bx_core.specs.Steps.{with_claim}
use Rattle.bx_core.specs.Mailboxes.{core_view}
use Rattle.bx_core.proofs.Reaches.{leads-reached}
use Rattle.bx_core.proofs.mailboxes.Core.set_claim.Goals as goal

pub invariant_of-self : goal.invariant_of-self
invariant_of-self c =
    let old = core_view c.self.inside in
    record {
      few = c.self.invariant.few;
      eight = c.self.invariant.eight;
      room = c.self.invariant.room;
      reached = leads-reached old c.args.self.now (with_claim c.args.self.now c.args.mailbox c.args.claim)
          (with_claim old c.from.result c.args.claim) c.self.view_is c.requires.leads
          (ap (λ (s : State). with_claim s c.args.mailbox c.args.claim) (sym c.self.view_is)
          ∙ ap (λ (k : ℕ). with_claim old k c.args.claim) (sym c.from.ensures)) c.self.invariant.reached;
    }
