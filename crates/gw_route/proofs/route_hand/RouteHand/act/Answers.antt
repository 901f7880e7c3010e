use Rattle.std.proofs.Common.{arith}
use Rattle.gw_route.specs.RouteHand.{hand_value}
use Rattle.gw_route.proofs.Matches.{tickets-requested, last-requested}
use Rattle.gw_route.proofs.Turns.{acted-idle, acted-request, acted-abort, above-last}
use Rattle.gw_route.proofs.route_hand.RouteHand.act.Goals as goal

pub abort_first-requires-clause-known : goal.abort_first-requires-clause-known
abort_first-requires-clause-known g c =
    let t = c.requires.linked in
    let last = g.met.T.RouteTx.last_is c.args.tx.now t.0 t.1 in
    let h = hand_value c.args.self.now in
    omega (arith, last, last-requested h t.0 t.2, tickets-requested h t.0 t.2, c.in-Some.ensures.some.1.below)

pub next-requires-clause-tickets : goal.next-requires-clause-tickets
next-requires-clause-tickets g c =
    let t = c.requires.linked in
    omega (arith, tickets-requested (hand_value c.args.self.now) t.0 t.2, t.2.limit, t.2.few_held, t.2.room.1)

pub ask-requires-clause-above : goal.ask-requires-clause-above
ask-requires-clause-above g c =
    let t = c.requires.linked in
    let last = g.met.T.RouteTx.last_is c.args.tx.now t.0 t.1 in
    omega (
      arith,
      last,
      above-last (hand_value c.args.self.now) (hand_value c.next.new.self) t.0 c.in-Some-next.entry
          c.next.new.self.queued.items c.in-Some-next.ensures.next t.2,
    )

pub returns-in-Some-clause-turned : goal.returns-in-Some-clause-turned
returns-in-Some-clause-turned g c =
    let e = c.abort_first.ensures.aborted in
    let d = c.in-Some.ensures.some in
    acted-abort _ _ (hand_value c.args.self.now) (hand_value c.abort_first.new.self) c.in-Some.abort e.0
    c.abort_first.result d.0 d.1 e.1 e.2 e.3

pub returns-in-Some-next-clause-turned : goal.returns-in-Some-next-clause-turned
returns-in-Some-next-clause-turned g c =
    let e = c.ask.ensures.asked in
    acted-request _ _ (hand_value c.args.self.now) (hand_value c.next.new.self)
    (hand_value c.ask.new.self) c.in-Some-next.entry c.next.new.self.queued.items e.0 c.ask.result
    c.in-None.ensures.none c.in-Some-next.ensures.next e.3 e.1 e.2 e.4

pub returns-in-None-next-clause-turned : goal.returns-in-None-next-clause-turned
returns-in-None-next-clause-turned g c =
    acted-idle _ (hand_value c.args.self.now) (hand_value c.next.new.self) c.in-None.ensures.none
    c.in-None-next.ensures.next
