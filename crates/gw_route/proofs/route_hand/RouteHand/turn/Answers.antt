use Rattle.std.proofs.Common.{◌≡◌, sym, subst}
use Rattle.gw_route.specs.RouteHand.{HandValue, hand_value, LogMatches, LogsReleased}
use Rattle.gw_route.specs.Turn.{counted, Acted}
use Rattle.gw_route.proofs.Matches.{matches-counted}
use Rattle.gw_route.proofs.Plans.{turn_keeps, turn_counts}
use Rattle.gw_route.proofs.Turns.{turned-matches, turned-logs}
use Rattle.gw_route.proofs.route_hand.RouteHand.turn.Goals as goal

pub returns-clause-keeps : goal.returns-clause-keeps
returns-clause-keeps g c past next made l =
    turned-matches _ _ past next _ made (matches-counted (hand_value c.args.self.now) past l)

pub returns-clause-log : goal.returns-clause-log
returns-clause-log g c logs =
    let t = c.requires.linked in
    let old : HandValue = hand_value c.args.self.now in
    let released = c.reserve.ensures.items in
    let aborted = c.reserve-2.ensures.items in
    let value = c.count.ensures.value in
    let same : hand_value c.count.new.self ≡ counted old = cc in
    let made = c.act.ensures.turned t.0 t.1
    (subst (λ (v : HandValue). LogMatches v t.0) (sym same) (matches-counted old t.0 t.2)) in
    turned-logs _ _ _ _ _ made.2 (subst LogsReleased (sym same) logs)

pub returns-clause-linked : goal.returns-clause-linked
returns-clause-linked g c =
    let t = c.requires.linked in
    let old : HandValue = hand_value c.args.self.now in
    let released = c.reserve.ensures.items in
    let aborted = c.reserve-2.ensures.items in
    let value = c.count.ensures.value in
    let same : hand_value c.count.new.self ≡ counted old = cc in
    let match = subst (λ (v : HandValue). LogMatches v t.0) (sym same) (matches-counted old t.0 t.2) in
    let made = c.act.ensures.turned t.0 t.1 match in
    (made.0, made.1, turned-matches _ _ _ _ _ made.2 match)

pub returns-clause-counted : goal.returns-clause-counted
returns-clause-counted g c =
    let old : HandValue = hand_value c.args.self.now in
    let released = c.reserve.ensures.items in
    let aborted = c.reserve-2.ensures.items in
    let value = c.count.ensures.value in
    let same : hand_value c.count.new.self ≡ counted old = cc in
    turn_counts (g.T.RouteTx.route_after c.args.tx.now) (g.T.RouteTx.route_after c.act.new.tx) old
    (hand_value c.act.new.self) c.act.result c.requires.linked
    (subst (λ v. Acted (g.T.RouteTx.route_after c.args.tx.now) (g.T.RouteTx.route_after c.act.new.tx) v
    (hand_value c.act.new.self) c.act.result) same c.act.ensures.turned)

pub returns-clause-plan : goal.returns-clause-plan
returns-clause-plan g c planned p =
    let old : HandValue = hand_value c.args.self.now in
    let released = c.reserve.ensures.items in
    let aborted = c.reserve-2.ensures.items in
    let value = c.count.ensures.value in
    let same : hand_value c.count.new.self ≡ counted old = cc in
    turn_keeps planned (g.T.RouteTx.route_after c.args.tx.now) (g.T.RouteTx.route_after c.act.new.tx) old
    (hand_value c.act.new.self) c.act.result c.requires.linked
    (subst (λ v. Acted (g.T.RouteTx.route_after c.args.tx.now) (g.T.RouteTx.route_after c.act.new.tx) v
    (hand_value c.act.new.self) c.act.result) same c.act.ensures.turned) p
