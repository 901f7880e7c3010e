-- A start is an event of the mailbox core.
use Rattle.std.proofs.Common.{sym, refl, ap, subst}
use Rattle.bx_shared.specs.Tallies.{IsTally}
use Rattle.bx_mail.specs.BusParts.{bus_view}
use Rattle.bx_mail.specs.Sides.{BusSide}
use Rattle.bx_mail.proofs.BusSides.{started-past, started-new}
use Rattle.bx_mail.proofs.post_bus.PostBusTxBus.start.Goals as goal

pub invariant_of-self : goal.invariant_of-self
invariant_of-self g c = let i = c.self.invariant in let v = bus_view c.self.inside in (
  i.0,
  i.1,
  (
    _,
    record {
      runs = started-past v v c.start.new.boxes.items c.start.result refl c.start.ensures.boxes c.start.ensures.result
          i.2.0 i.2.1.runs;
      tally = i.2.1.tally;
    },
  ),
)

pub returns-clause-past : goal.returns-clause-past
returns-clause-past g c = λ past h. record {
  runs = started-past c.args.self.now (bus_view c.self.inside) c.start.new.boxes.items c.start.result
      (sym c.self.view_is) c.start.ensures.boxes c.start.ensures.result past h.runs;
  tally = subst (IsTally past.done past.reaped) (sym (ap (λ (x : BusSide). x.tally) c.self.view_is)) h.tally;
}

pub returns-clause-undone : goal.returns-clause-undone
returns-clause-undone g c = λ past h. started-new c.args.self.now (bus_view c.self.inside) c.start.result
    (sym c.self.view_is) c.start.ensures.result past h.runs
