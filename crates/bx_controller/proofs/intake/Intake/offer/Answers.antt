use Rattle.std.proofs.Common.{arith, refl, ap, inl, inr}
use Rattle.bx_rx.specs.RxIn.{Inlet}
use Rattle.bx_controller.proofs.Intakes.{stores, discards, few_discarded}
use Rattle.bx_controller.proofs.intake.Intake.offer.Goals as goal

pub returns-in-Stored-clause-stores : goal.returns-in-Stored-clause-stores
returns-in-Stored-clause-stores g c = inl (ap (λ (r : Inlet). r.stored) c.in-Stored.ensures)

pub returns-in-Overrun-clause-stores : goal.returns-in-Overrun-clause-stores
returns-in-Overrun-clause-stores g c = inr (ap (λ (r : Inlet). r.stored) c.in-Overrun.ensures.0)

pub returns-in-Stored-clause-stands : goal.returns-in-Stored-clause-stands
returns-in-Stored-clause-stands g c offered few h =
    stores c.args.self.now _ c.args.frame offered (omega (arith, c.saturating_add-self.ensures, h.accepted_is, few))
    refl c.in-Stored.ensures h

pub returns-in-Overrun-clause-stands : goal.returns-in-Overrun-clause-stands
returns-in-Overrun-clause-stands g c offered few h =
    discards c.args.self.now _ c.args.frame.frame offered
    (omega (arith, c.saturating_add-self.ensures, h.accepted_is, few))
    (omega (arith, c.saturating_add-self-in-Overrun.ensures, few_discarded c.args.self.now offered h, few))
    c.in-Overrun.ensures.0 c.in-Overrun.ensures.1 h
