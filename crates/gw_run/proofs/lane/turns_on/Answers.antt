use Rattle.std.proofs.Common.{◌∙◌, ◌+◌, min, ap, arith, sym}
use Rattle.bx_core.specs.PlainMail.{core_of}
use Rattle.gw_route.proofs.Bursts.{idled_in_vain}
use Rattle.gw_route.proofs.Idles.{full_if_filled}
use Rattle.gw_route.specs.RouteHand.{hand_value}
use Rattle.gw_run.proofs.lane.turns_on.Goals as goal

pub returns-clause-idle : goal.returns-clause-idle
returns-clause-idle g c is =
    let old = hand_value c.args.hand.now in
    let filled = hand_value c.fill.new.self in
    let linked = c.requires.linked in
    idled_in_vain _ c.args.most _ _ filled (hand_value c.make_burst.new.hand) c.in_ok-burst.burst
    (linked.0, linked.1, c.fill.ensures.keeps.matches linked.0 linked.2) c.in_ok-burst.ensures.made
    (c.is_idle.ensures is).0 (c.is_idle.ensures is).1
    (full_if_filled old filled c.in_ok-fill.ensures.filled)

pub returns-clause-counted : goal.returns-clause-counted
returns-clause-counted g c =
    let made = c.in_ok-burst.ensures.made in
    let filled = c.fill.ensures.keeps.turns_is in (
      c.in_ok-burst.burst.turns,
      omega (arith, made.turns.turns_is),
      made.few,
      λ few. c.in_ok-burst.ensures.counted (omega (arith, few, filled))
          ∙ ap (λ n. min (n + c.in_ok-burst.burst.turns) 1000000) filled,
    )
