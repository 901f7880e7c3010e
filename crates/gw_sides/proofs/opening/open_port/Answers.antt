use Rattle.std.proofs.Common.{sym, subst, arith, ◌∙◌}
use Rattle.can_station.proofs.Places.{some_there}
use Rattle.gw_opening.specs.Openings.{routes_at, priority_of}
use Rattle.gw_sides.specs.Seats.{Seated}
use Rattle.gw_sides.specs.Sets.{IsNewSet, IsNewSide}
use Rattle.gw_sides.proofs.Opens.{seated}
use Rattle.gw_sides.proofs.opening.open_port.Goals as goal

pub put_all-requires-clause-few : goal.put_all-requires-clause-few
put_all-requires-clause-few g c = omega (arith, c.in-Ok.ensures.size, c.routes_at.ensures.value)

pub returns-in-Ok-clause-opens : goal.returns-in-Ok-clause-opens
returns-in-Ok-clause-opens g c =
    let made = c.in-Ok.ensures in
    let mail = c.port_of.ensures.mail in
    let Set = IsNewSet g.B.TxBus.bus_after g.B.TxBus.bus_asked g.B.TxBus.transmitting g.M.Mailboxes.routes_of
    g.M.Mailboxes.txfp_of in
    let Side = IsNewSide g.M.Mailboxes.side_of g.S.RouteTx.route_after in
    record {
      is_new = c.port_of.ensures.new;
      mail = λ value e. subst (Set (priority_of value) (routes_at c.args.script.now c.args.controller)) (sym mail)
          (record {
            bus = made.bus;
            asked_none = made.asked;
            idle = made.idle;
            routes_is = made.routes ∙ c.routes_at.ensures.value;
            priority_is = made.priority ∙ c.priority_at-txfp.ensures value e;
          });
      seated = subst (λ m. Seated Side c.args.script.now c.args.controller m c.put_all.new.seats) (sym mail)
          (seated g.M.Mailboxes.side_of g.S.RouteTx.route_after c.args.script.now c.args.controller _ _
          c.put_all.new.seats (made.size ∙ c.routes_at.ensures.value) made.sides made.new c.put_all.ensures.holds);
    }

pub open-requires-clause-priority : goal.open-requires-clause-priority
open-requires-clause-priority g c =
    let s = c.args.script.now in
    let value = some_there s.controllers c.args.controller c.requires.there in
    subst g.M.Mailboxes.can_send_by (sym (c.priority_at-txfp.ensures value.0 value.1))
    (c.requires.priority c.args.controller value.0 value.1)
