-- The fields keep to their invariant after the end of a request.
use Rattle.std.proofs.Common.{arith, sym, ◌∙◌, length-set}
use Rattle.bx_core.specs.States.{lists_of}
use Rattle.bx_core.specs.Steps.{without}
use Rattle.bx_core.specs.End.{ended_lists}
use Rattle.bx_core.specs.Mailboxes.{core_view}
use Rattle.bx_core.proofs.Fields.{route_within, end-view, end-room, one_room}
use Rattle.bx_core.proofs.Reaches.{leads-reached}
use Rattle.bx_core.proofs.mailboxes.Core.end.Goals as goal

pub listed : goal.listed
listed c =
    let within = route_within c.self.inside c.args.self.now c.args.place c.args.waiting c.self.view_is c.self.invariant
    c.requires.place c.requires.waiting in
    omega (arith, within, c.from.ensures, c.self.invariant.few, c.self.invariant.eight)

pub bounds-self-inside-from : goal.bounds-self-inside-from
bounds-self-inside-from c =
    let within = route_within c.self.inside c.args.self.now c.args.place c.args.waiting c.self.view_is c.self.invariant
    c.requires.place c.requires.waiting in
    omega (arith, within, c.from.ensures, c.self.invariant.few)

pub add_ended-requires : goal.add_ended-requires
add_ended-requires c =
    let within = route_within c.self.inside c.args.self.now c.args.place c.args.waiting c.self.view_is c.self.invariant
    c.requires.place c.requires.waiting in
    one_room c.self.inside c.args.self.now c.args.place c.from.result c.args.waiting c.index-self-from.result
    c.self.view_is c.self.invariant c.from.ensures c.requires.place c.requires.waiting within

pub invariant_of-self : goal.invariant_of-self
invariant_of-self c =
    let within = route_within c.self.inside c.args.self.now c.args.place c.args.waiting c.self.view_is c.self.invariant
    c.requires.place c.requires.waiting in
    record {
      few = c.self.invariant.few;
      eight = length-set _ _ _ ∙ c.self.invariant.eight;
      room = rw c.remove.ensures.items
          (end-room c.self.inside c.args.self.now c.args.place c.from.result c.args.waiting c.add_ended.new.self
          c.index-self-from.result c.self.view_is c.self.invariant c.from.ensures c.requires.place
          c.requires.waiting within c.add_ended.ensures.keeps);
      reached = leads-reached (core_view c.self.inside) c.args.self.now
          (without c.args.self.now c.args.place c.args.waiting.route
          (ended_lists (lists_of c.args.self.now c.args.waiting.route) c.args.waiting c.args.end)) _ c.self.view_is
          c.requires.leads
          (sym (end-view c.self.inside c.args.self.now c.args.place c.from.result c.args.waiting c.args.end
          c.add_ended.new.self c.index-self-from.result c.remove.new.self.items c.self.view_is c.self.invariant
          c.from.ensures within c.remove.ensures.items c.add_ended.ensures.lists)) c.self.invariant.reached;
    }

pub returns : goal.returns
returns c =
    let within = route_within c.self.inside c.args.self.now c.args.place c.args.waiting c.self.view_is c.self.invariant
    c.requires.place c.requires.waiting in
    end-view c.self.inside c.args.self.now c.args.place c.from.result c.args.waiting c.args.end c.add_ended.new.self
    c.index-self-from.result c.remove.new.self.items c.self.view_is c.self.invariant c.from.ensures within
    c.remove.ensures.items c.add_ended.ensures.lists
