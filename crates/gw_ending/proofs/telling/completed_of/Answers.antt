use Rattle.std.proofs.Common.{◌++◌, ◌∷◌, [], ap, ap₂, sym, ◌∙◌}
use Rattle.bx_core.specs.Stands.{entries_of}
use Rattle.can_segment.specs.Brought.{all_in, sent_in, kinds_of}
use Rattle.gw_ending.proofs.Tellings.{sent_grows}
use Rattle.gw_ending.proofs.telling.completed_of.Goals as goal

pub loop-event-preserved : goal.loop-event-preserved
loop-event-preserved c =
    let l = c.loop-event in
    let here = c.sent_in.ensures
    ∙ ap (λ event. entries_of c.args.route (all_in sent_in (kinds_of c.args.node (event ∷ [])))) c.event-item.is in
    c.in_ok-push_some.ensures ∙ ap₂ (λ xs ys. xs ++ ys) l.invariant here
    ∙ sym (sent_grows c.args.route c.args.node c.args.events.now l.event-index c.event-item.result
    c.loop-event-test.true)
