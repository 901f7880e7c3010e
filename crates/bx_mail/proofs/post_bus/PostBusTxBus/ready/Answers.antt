-- What is scheduled next is what the mailbox core schedules.
use Rattle.std.proofs.Common.{sym, refl, ap, ◌∙◌, subst}
use Rattle.bx_shared.specs.Tallies.{IsTally}
use Rattle.bx_mail.specs.BusParts.{bus_view}
use Rattle.bx_mail.specs.Sides.{BusSide}
use Rattle.bx_mail.proofs.BusSides.{scheduled-past}
use Rattle.bx_mail.proofs.post_bus.PostBusTxBus.ready.Goals as goal

pub invariant_of-self : goal.invariant_of-self
invariant_of-self g c = let i = c.self.invariant in let v = bus_view c.self.inside in (
  i.0,
  i.1,
  (
    i.2.0,
    record {
      runs = scheduled-past v v c.schedule.new.boxes.items refl c.schedule.ensures.boxes i.2.0 i.2.1.runs;
      tally = i.2.1.tally;
    },
  ),
)

pub returns-clause-past : goal.returns-clause-past
returns-clause-past g c = λ past h. let v = bus_view c.self.inside in record {
  runs = scheduled-past c.take_posts.new.self v c.schedule.new.boxes.items (sym c.self.view_is)
      c.schedule.ensures.boxes past (c.take_posts.ensures.past past h.runs);
  tally = subst (IsTally past.done past.reaped)
      (sym (ap (λ (x : BusSide). x.tally) c.self.view_is ∙ c.take_posts.ensures.tally)) h.tally;
}
