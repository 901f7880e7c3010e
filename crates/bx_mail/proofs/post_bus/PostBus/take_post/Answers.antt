-- The rule stays when a post is taken, and what is done with it is an event of the mailbox core.
use Rattle.std.proofs.Common.{refl, ap, ◌∙◌}
use Rattle.bx_mail.specs.BusParts.{bus_view}
use Rattle.bx_mail.proofs.Relays.{takes_one, learns_total}
use Rattle.crossbeam_queue.specs.Passes.{view}
use Rattle.bx_mail.specs.Sides.{BusSide}
use Rattle.bx_mail.proofs.Begins.{took-request, took-abort, abort-now, taken_form}
use Rattle.bx_mail.proofs.post_bus.PostBus.take_post.Goals as goal

pub pop_as-requires-clause-rule : goal.pop_as-requires-clause-rule
pop_as-requires-clause-rule g c = let may = ap (λ v. v.gets) c.self.invariant.1 in
    (takes_one _ _ may, learns_total _ _ may)

pub invariant_of-self-in-Transmit : goal.invariant_of-self-in-Transmit
invariant_of-self-in-Transmit g c = let i = c.self.invariant in let q = c.in-Some.ensures.queue in let t =
    c.in-Some.ensures.rule in (
      (q.0 ∙ i.0.0, q.2 ∙ i.0.1),
      taken_form (view c.self.inside.pass) (view c.pop_as.new.pass) c.in-Some.posting t i.1,
      (
        i.2.0,
        record {
          runs = took-request (bus_view c.self.inside) _ _ (view c.self.inside.pass)
              (view c.pop_as.new.pass) c.self.inside.boxes.items c.self.inside.aside c.self.inside.tally
              c.in-Some.posting _ refl q.0 t
              (ap (λ (v : BusSide). v.aside) c.self.view_is ∙ c.requires) c.in-Transmit.is i.2.0 i.2.1.runs;
          tally = i.2.1.tally;
        },
      ),
    )

pub returns-in-Transmit-clause-past : goal.returns-in-Transmit-clause-past
returns-in-Transmit-clause-past g c = λ past h. took-request c.args.self.now _ _ (view c.self.inside.pass)
    (view c.pop_as.new.pass) c.self.inside.boxes.items c.self.inside.aside c.self.inside.tally c.in-Some.posting _
    c.self.view_is
    c.in-Some.ensures.queue.0 c.in-Some.ensures.rule c.requires c.in-Transmit.is past h

pub invariant_of-self-in-Abort : goal.invariant_of-self-in-Abort
invariant_of-self-in-Abort g c = let i = c.self.invariant in let q = c.in-Some.ensures.queue in let t =
    c.in-Some.ensures.rule in (
      (q.0 ∙ i.0.0, q.2 ∙ i.0.1),
      taken_form (view c.self.inside.pass) (view c.pop_as.new.pass) c.in-Some.posting t i.1,
      (
        i.2.0,
        record {
          runs = took-abort (bus_view c.self.inside) _ _ (view c.self.inside.pass)
              (view c.pop_as.new.pass) c.self.inside.boxes.items c.abort.new.boxes.items c.self.inside.aside
              c.self.inside.tally c.in-Some.posting
              refl q.0 t c.in-Abort.is c.abort.ensures i.2.0 i.2.1.runs;
          tally = i.2.1.tally;
        },
      ),
    )

pub returns-in-Abort-clause-past : goal.returns-in-Abort-clause-past
returns-in-Abort-clause-past g c = λ past h. took-abort c.args.self.now _ _ (view c.self.inside.pass)
    (view c.pop_as.new.pass) c.self.inside.boxes.items c.abort.new.boxes.items c.self.inside.aside c.self.inside.tally
    c.in-Some.posting c.self.view_is c.in-Some.ensures.queue.0 c.in-Some.ensures.rule c.in-Abort.is c.abort.ensures
    past h

pub returns-in-Abort-clause-transmits : goal.returns-in-Abort-clause-transmits
returns-in-Abort-clause-transmits g c = abort-now c.args.self.now _ (view c.self.inside.pass)
    (view c.pop_as.new.pass) c.self.inside.boxes.items c.abort.new.boxes.items c.self.inside.aside c.self.inside.tally
    c.in-Some.posting c.self.view_is c.in-Some.ensures.rule c.abort.ensures c.self.invariant.2.0
    c.self.invariant.2.1.runs
