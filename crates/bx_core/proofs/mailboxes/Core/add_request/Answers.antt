-- The fields keep to their invariant after a request, and where it wanted memory.
use Rattle.std.proofs.Common.{arith, sym, ap, ◌∙◌, ◌<◌, subst, length-set, length}
use Rattle.bx_core.specs.States.{State}
use Rattle.bx_core.specs.Steps.{with_request}
use Rattle.bx_core.specs.Law.{Reached}
use Rattle.bx_core.specs.Mailboxes.{core_view}
use Rattle.bx_core.proofs.Fields.{route_count, same-view, same-room, queue_room, request-view, request-room}
use Rattle.bx_core.proofs.Leads.{on_err}
use Rattle.bx_core.proofs.Reaches.{leads-reached}
use Rattle.bx_core.proofs.mailboxes.Core.add_request.Goals as goal

pub invariant_of-self : goal.invariant_of-self
invariant_of-self c =
    let count = ap (λ (s : State). length s.routes) c.self.view_is in
    let within : c.from.result < c.self.inside.count =
    omega (arith, c.requires.in_range, count, route_count c.self.inside c.self.invariant, c.from.ensures) in
    record {
      few = c.self.invariant.few;
      eight = length-set _ _ _ ∙ c.self.invariant.eight;
      room = same-room c.self.inside c.from.result c.add_requested.new.self c.index-self-from.result c.self.invariant
          within c.add_requested.ensures.keeps;
      reached =
          subst Reached
          (sym (same-view c.self.inside c.from.result c.add_requested.new.self c.index-self-from.result c.self.invariant
          within c.in_err-add_requested.ensures.err)) c.self.invariant.reached;
    }

pub returns-in_err-add_requested-clause-err : goal.returns-in_err-add_requested-clause-err
returns-in_err-add_requested-clause-err c =
    let count = ap (λ (s : State). length s.routes) c.self.view_is in
    let within : c.from.result < c.self.inside.count =
    omega (arith, c.requires.in_range, count, route_count c.self.inside c.self.invariant, c.from.ensures) in
    on_err c.from_residual.result _
    (same-view c.self.inside c.from.result c.add_requested.new.self c.index-self-from.result c.self.invariant within
    c.in_err-add_requested.ensures.err ∙ c.self.view_is)

pub push-requires : goal.push-requires
push-requires c =
    let few = queue_room c.self.inside c.args.self.now c.args.mailbox c.args.route c.self.view_is c.self.invariant
    c.requires.in_mailboxes c.requires.claimed in
    (omega arith, omega (arith, few))

pub invariant_of-self-2 : goal.invariant_of-self-2
invariant_of-self-2 c =
    let count = ap (λ (s : State). length s.routes) c.self.view_is in
    let within : c.args.route < c.self.inside.count =
    omega (arith, c.requires.in_range, count, route_count c.self.inside c.self.invariant) in
    let few = queue_room c.self.inside c.args.self.now c.args.mailbox c.args.route c.self.view_is c.self.invariant
    c.requires.in_mailboxes c.requires.claimed in
    record {
      few = c.self.invariant.few;
      eight = length-set _ _ _ ∙ c.self.invariant.eight;
      room = rw c.push.ensures.items
          (request-room c.self.inside c.from.result c.args.route c.args.mailbox c.args.number c.args.frame
          c.add_requested.new.self c.index-self-from.result c.self.invariant c.from.ensures within few
          c.in_ok-add_requested.ensures.room);
      reached = leads-reached (core_view c.self.inside) c.args.self.now
          (with_request c.args.self.now c.args.route c.args.mailbox c.args.number c.args.frame) _ c.self.view_is
          c.requires.leads
          (sym (request-view c.self.inside c.args.self.now c.args.route c.from.result c.args.mailbox c.from-2.result
          c.args.number c.args.frame c.add_requested.new.self c.index-self-from.result c.push.new.self.items
          c.self.view_is c.self.invariant c.from.ensures within c.from-2.ensures c.push.ensures.items
          c.in_ok-add_requested.ensures.ok)) c.self.invariant.reached;
    }

pub returns-clause-ok : goal.returns-clause-ok
returns-clause-ok c =
    let count = ap (λ (s : State). length s.routes) c.self.view_is in
    let within : c.args.route < c.self.inside.count =
    omega (arith, c.requires.in_range, count, route_count c.self.inside c.self.invariant) in
    request-view c.self.inside c.args.self.now c.args.route c.from.result c.args.mailbox c.from-2.result c.args.number
    c.args.frame c.add_requested.new.self c.index-self-from.result c.push.new.self.items c.self.view_is
    c.self.invariant c.from.ensures within c.from-2.ensures c.push.ensures.items c.in_ok-add_requested.ensures.ok
