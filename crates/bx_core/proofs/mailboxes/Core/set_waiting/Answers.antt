-- The fields keep to their invariant where a waiting request changes.
use Rattle.std.proofs.Common.{sym, ap, ◌∙◌, ◌<◌, subst, List, length, get_or}
use Rattle.bx_core.specs.declared.waiting.Waiting.{Waiting}
use Rattle.bx_core.specs.States.{State}
use Rattle.bx_core.specs.Steps.{with_waiting}
use Rattle.bx_core.specs.Mailboxes.{core_view}
use Rattle.bx_core.proofs.Queues.{waits_of-set, any_waiting}
use Rattle.bx_core.proofs.Reaches.{leads-reached}
use Rattle.bx_core.proofs.mailboxes.Core.set_waiting.Goals as goal

pub invariant_of-self : goal.invariant_of-self
invariant_of-self c =
    let old = core_view c.self.inside in
    let q = c.self.inside.queue.items in
    let within : c.args.place < length q =
    subst (λ (s : State). c.args.place < length s.queue) (sym c.self.view_is) c.requires.place in
    let route = ap (λ (s : State). (get_or s.queue c.args.place any_waiting).route) c.self.view_is
    ∙ c.requires.route any_waiting in
    record {
      few = c.self.invariant.few;
      eight = c.self.invariant.eight;
      room = λ r d lt. rw (c.set_waiting.ensures, waits_of-set r q c.args.place c.args.waiting any_waiting within route)
          (c.self.invariant.room r d lt);
      reached = leads-reached old c.args.self.now (with_waiting c.args.self.now c.args.place c.args.waiting) _
          c.self.view_is c.requires.leads
          (ap (λ (s : State). with_waiting s c.args.place c.args.waiting) (sym c.self.view_is)
          ∙ ap (λ (items : List Waiting). record old { queue = items }) (sym c.set_waiting.ensures))
          c.self.invariant.reached;
    }
