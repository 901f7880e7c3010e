-- The rule begins with the bus side, and stays when it makes the side of a route.
use Rattle.std.proofs.Common.{ap, refl, arith, []}
use Rattle.std.specs.Prelude.{None}
use Rattle.crossbeam_queue.specs.Passes.{view}
use Rattle.bx_core.specs.TxBus.{no_bus_past}
use Rattle.bx_mail.proofs.Begins.{log_form, opened}
use Rattle.bx_mail.proofs.Relays.{begins, forks}
use Rattle.bx_mail.proofs.opening.open.Goals as goal

pub ruled-requires-clause-rule : goal.ruled-requires-clause-rule
ruled-requires-clause-rule c = begins

pub another-posting-requires-clause-rule : goal.another-posting-requires-clause-rule
another-posting-requires-clause-rule c =
    forks _ _ (ap (λ v. v.gets) c.loop-route.invariant.2) (ap (λ v. v.known) c.loop-route.invariant.2)

pub invariant_of-bus : goal.invariant_of-bus
invariant_of-bus c = let i = c.loop-route.invariant in let u = view c.loop-route.pass in let few = c.requires in
    let end = c.loop-route.auto.route-end in let made = ap (λ v. v.made) i.2 in (
      i.0,
      log_form u [] c.loop-route.route i.2,
      (
        no_bus_past,
        record {
          runs = opened (record {
            queue = c.loop-route.pass.table_id;
            routes = u.made;
            got = u.got;
            boxes = c.new-2.result.items;
            aside = None;
            tally = c.new-3.result;
          }) (omega (arith, few, end, made))
              (ap (λ v. v.got) i.2) c.new-2.ensures refl;
          tally = c.new-3.ensures;
        },
      ),
    )
