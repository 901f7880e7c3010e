use Rattle.std.proofs.Common.{rules, ◌≡◌, ◌+◌, ◌++◌, ◌∷◌, [], length, slice_get, ap, arith, sym, subst, length-append}
use Rattle.std.proofs.Common.{◌∙◌}
use Rattle.can_segment.specs.Kept.{SegmentKept}
use Rattle.can_station.specs.Members.{wants_at}
use Rattle.can_segment.specs.Moves.{PortMoves}
use Rattle.can_segment.specs.DeferredState.{materialized}
use Rattle.can_station.specs.Tellings.{bit_lines}
use Rattle.can_segment.proofs.Keeps.{talker_clocks, controller_clocks, kept_on}
use Rattle.can_segment.proofs.Uneventful.{uneventful_lines}
use Rattle.can_segment.proofs.DeferredState.{members_length}
use Rattle.can_segment.proofs.Wholes.{lines_whole}
use Rattle.can_segment.proofs.make_bit.make_bit.Goals as goal

pub move_nodes-level-requires-clause-talkers : goal.move_nodes-level-requires-clause-talkers
move_nodes-level-requires-clause-talkers g c =
    let deferred = c.args.deferred.now in
    sym (members_length deferred (length c.args.levels.now.items) c.args.talkers.now) ∙
    c.requires.kept.stands.talkers_size

pub move_nodes-level-requires-clause-talker_clocks : goal.move_nodes-level-requires-clause-talker_clocks
move_nodes-level-requires-clause-talker_clocks g c k m e active on =
    let here : c.len-bit.result ≡ length c.args.levels.now.items = search rules in
    let deferred = c.args.deferred.now in
    let bit = c.len-bit.result in
    let kept = subst (λ n. SegmentKept c.args.plan.now c.args.levels.now.items c.args.events.now.items
    (materialized deferred n c.args.talkers.now) (materialized deferred n c.args.controllers.now)) (sym here)
    c.requires.kept in
    talker_clocks c.args.plan.now c.args.levels.now.items c.args.events.now.items
    (materialized deferred bit c.args.talkers.now) (materialized deferred bit c.args.controllers.now) bit _ kept here
    (search rules) k m e on

pub move_nodes-level-requires-clause-clocks : goal.move_nodes-level-requires-clause-clocks
move_nodes-level-requires-clause-clocks g c k m e active on =
    let here : c.len-bit.result ≡ length c.args.levels.now.items = search rules in
    let deferred = c.args.deferred.now in
    let bit = c.len-bit.result in
    let kept = subst (λ n. SegmentKept c.args.plan.now c.args.levels.now.items c.args.events.now.items
    (materialized deferred n c.args.talkers.now) (materialized deferred n c.args.controllers.now)) (sym here)
    c.requires.kept in
    controller_clocks c.args.plan.now c.args.levels.now.items c.args.events.now.items
    (materialized deferred bit c.args.talkers.now) (materialized deferred bit c.args.controllers.now) bit _ kept here
    (search rules) k m e on

pub tell-requires-clause-uneventful : goal.tell-requires-clause-uneventful
tell-requires-clause-uneventful g c none =
    let here : c.len-bit.result ≡ length c.args.levels.now.items = search rules in
    let old = c.args.deferred.now in
    let new = c.move_nodes-level.new.deferred in
    let bit = c.len-bit.result in
    let kept = subst (λ n. SegmentKept c.args.plan.now c.args.levels.now.items c.args.events.now.items
    (materialized old n c.args.talkers.now) (materialized old n c.args.controllers.now)) (sym here) c.requires.kept in
    let talkers = materialized new (bit + 1) c.move_nodes-level.new.talkers in
    let controllers = materialized new (bit + 1) c.move_nodes-level.new.controllers in
    let next = kept_on c.args.plan.now c.args.levels.now.items c.args.events.now.items bit
    c.move_nodes-level.result.level (materialized old bit c.args.talkers.now) talkers
    (materialized old bit c.args.controllers.now) controllers
    kept here c.requires.still c.move_nodes-level.ensures.nodes in
    let uneventful = c.move_nodes-level.ensures.uneventful none in
    sym (lines_whole bit new (bit + 1) c.move_nodes-level.new.talkers c.move_nodes-level.new.controllers)
    ∙ uneventful_lines c.args.plan.now _ _ bit talkers controllers next
    (length-append c.args.levels.now.items (c.move_nodes-level.result.level ∷ []) ∙ omega (arith, here)) uneventful.0
    uneventful.1

pub returns-clause-kept : goal.returns-clause-kept
returns-clause-kept g c =
    let here : c.len-bit.result ≡ length c.args.levels.now.items = search rules in
    let old = c.args.deferred.now in
    let new = c.move_nodes-level.new.deferred in
    let bit = c.len-bit.result in
    let kept = subst (λ n. SegmentKept c.args.plan.now c.args.levels.now.items c.args.events.now.items
    (materialized old n c.args.talkers.now) (materialized old n c.args.controllers.now)) (sym here) c.requires.kept in
    let talkers = materialized new (bit + 1) c.move_nodes-level.new.talkers in
    let controllers = materialized new (bit + 1) c.move_nodes-level.new.controllers in
    let next = kept_on c.args.plan.now c.args.levels.now.items c.args.events.now.items bit
    c.move_nodes-level.result.level (materialized old bit c.args.talkers.now) talkers
    (materialized old bit c.args.controllers.now) controllers
    kept here c.requires.still c.move_nodes-level.ensures.nodes in
    let reported : c.args.events.now.items ++ bit_lines bit talkers controllers ≡ c.tell.new.events.items =
    ap (λ es. c.args.events.now.items ++ es)
    (lines_whole bit new (bit + 1) c.move_nodes-level.new.talkers c.move_nodes-level.new.controllers)
    ∙ sym c.tell.ensures in
    subst (λ n. SegmentKept c.args.plan.now c.push.new.self.items c.tell.new.events.items
    (materialized new (n + 1) c.move_nodes-level.new.talkers)
    (materialized new (n + 1) c.move_nodes-level.new.controllers)) here
    (subst (λ ls. SegmentKept c.args.plan.now ls c.tell.new.events.items talkers controllers) (sym c.push.ensures.items)
    (subst (λ es. SegmentKept c.args.plan.now (c.args.levels.now.items ++ c.move_nodes-level.result.level ∷ []) es
    talkers controllers) reported next))

pub returns-clause-events : goal.returns-clause-events
returns-clause-events g c =
    let here : c.len-bit.result ≡ length c.args.levels.now.items = search rules in
    let new = c.move_nodes-level.new.deferred in
    c.tell.ensures
    ∙ ap (λ es. c.args.events.now.items ++ es)
    (sym (lines_whole c.len-bit.result new (length c.args.levels.now.items + 1) c.move_nodes-level.new.talkers
    c.move_nodes-level.new.controllers))
    ∙ ap (λ n. c.args.events.now.items
    ++ bit_lines n (materialized new (length c.args.levels.now.items + 1) c.move_nodes-level.new.talkers)
    (materialized new (length c.args.levels.now.items + 1) c.move_nodes-level.new.controllers)) here

pub returns-clause-port : goal.returns-clause-port
returns-clause-port g c k a m p q d e f h =
    let here : c.len-bit.result ≡ length c.args.levels.now.items = search rules in
    let old = c.args.deferred.now in
    let new = c.move_nodes-level.new.deferred in
    subst (λ b. PortMoves g.P.TxBus.bus_after g.P.TxBus.bus_asked g.P.TxBus.transmitting g.P.RxSink.sink_after
    g.P.RxSink.port_stays b (wants_at b a) m p q) here
    (c.move_nodes-level.ensures.port k a m p q (ap (λ n. slice_get (materialized old n c.args.controllers.now) k) here
    ∙ d) (ap (λ n. slice_get (materialized new (n + 1) c.move_nodes-level.new.controllers) k) here ∙ e) f h)
