-- That the request aside goes into a mailbox is two events of the mailbox core.
use Rattle.std.proofs.Common.{refl}
use Rattle.bx_mail.specs.BusParts.{bus_view}
use Rattle.bx_mail.proofs.Takes.{room, seated-past, seated_now}
use Rattle.bx_mail.proofs.post_bus.PostBus.seat_aside.Goals as goal

pub seat-requires : goal.seat-requires
seat-requires c = let i = c.self.invariant in λ m lt none. room (bus_view c.self.inside) i.2.0 i.2.1.runs m lt none

pub invariant_of-self : goal.invariant_of-self
invariant_of-self c = let i = c.self.invariant in let v = bus_view c.self.inside in (
  i.0,
  i.1,
  (
    i.2.0,
    record {
      runs = seated-past v v c.in-Some.posting c.seat.new.boxes.items c.seat.result refl c.in-Some.is c.seat.ensures
          c.if-seat.true i.2.0 i.2.1.runs;
      tally = i.2.1.tally;
    },
  ),
)

pub returns-then-seat-clause-past : goal.returns-then-seat-clause-past
returns-then-seat-clause-past c = λ past h. seated-past c.args.self.now
    (bus_view c.self.inside) c.in-Some.posting c.seat.new.boxes.items c.seat.result c.self.view_is c.in-Some.is
    c.seat.ensures c.if-seat.true past h

pub returns-then-seat-clause-transmits : goal.returns-then-seat-clause-transmits
returns-then-seat-clause-transmits c = seated_now c.args.self.now (bus_view c.self.inside) c.in-Some.posting
    c.seat.new.boxes.items c.seat.result c.self.view_is c.seat.ensures
