use Rattle.std.proofs.Common.{◌+◌, suc, arith, sym, ◌∙◌}
use Rattle.gw_route.specs.RouteHand.{hand_value}
use Rattle.gw_route.proofs.Counts.{counts_on}
use Rattle.gw_route.proofs.burst.make_burst.Goals as goal

pub loop-turns-preserved : goal.loop-turns-preserved
loop-turns-preserved g c =
    let i = c.loop-turns.invariant in
    let turn = c.in_ok-last-2.ensures in
    let tied = c.turn-in-loop-turns.ensures.tied in
    record {
      turns = record {
        before = suc i.turns.before;
        turns_is = omega (arith, i.turns.turns_is);
        mid = c.loop-turns.tx;
        between = hand_value c.loop-turns.hand;
        go_on = (
          i.turns.mid,
          i.turns.between,
          c.loop-turns.last,
          i.turns.go_on,
          i.turns.last,
          sym c.ends_burst.ensures ∙ c.if-not-ends_burst.true,
        );
        last = turn.turned;
      };
      few = omega (arith, c.loop-turns-test.true);
      linked = c.turn-in-loop-turns.ensures.linked;
      counted = λ few. counts_on c.args.hand.now.turns c.loop-turns.turns c.loop-turns.hand.turns
          c.turn-in-loop-turns.new.self.turns (i.counted few) turn.counted;
      plan = λ planned p. c.turn-in-loop-turns.ensures.plan planned (i.plan planned p);
      log = λ logs. c.turn-in-loop-turns.ensures.log (i.log logs);
      tied = (tied.0 ∙ i.tied.0, tied.1 ∙ i.tied.1, tied.2 ∙ i.tied.2);
      stays = g.met.T.RouteTx.stays_on c.args.tx.now c.loop-turns.tx c.turn-in-loop-turns.new.tx i.stays
          c.turn-in-loop-turns.ensures.stays;
    }
