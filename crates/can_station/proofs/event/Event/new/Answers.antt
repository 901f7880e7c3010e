use Rattle.std.proofs.Common.{subst, sym}
use Rattle.can_station.specs.EventParts.{IsEvent}
use Rattle.can_station.proofs.Events.{parts_stand}
use Rattle.can_station.proofs.event.Event.new.Goals as goal

pub invariant_of-result : goal.invariant_of-result
invariant_of-result c = subst (λ parts. IsEvent (record {
  bit = c.args.bit;
  start = parts.1;
  frame = parts.2;
  number = parts.3.number;
  node = c.args.node;
  route = parts.3.route;
  tag = parts.0;
})) (sym c.parts_of-tag.ensures) (parts_stand c.args.bit c.args.node c.args.kind)
