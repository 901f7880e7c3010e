-- What the look tells of the number, and what the gate heard.
use Rattle.std.proofs.Common.{◌<◌, refl, sym, ap, subst, inr, arith}
use Rattle.bx_words.specs.Lanes.{mark_of}
use Rattle.bx_shared.specs.declared.route_view.RouteView.{RouteView}
use Rattle.bx_shared.specs.Steps.{part_of}
use Rattle.bx_shared.specs.Calls.{Answered}
use Rattle.bx_shared.specs.declared.abort_outcome.AbortOutcome.TheVariants.{Asked, Gone}
use Rattle.bx_shared.proofs.Gone.{is_gone, was_asked, hears_ask, hears_take}
use Rattle.bx_shared.proofs.ending.end.Goals as goal

pub returns-in_default-clause-answer : goal.returns-in_default-clause-answer
returns-in_default-clause-answer g c =
    let p = part_of c.args.seat.now.me in
    subst (λ (q : RouteView). Answered p q c.args.number Gone) (sym (ap part_of c.look-seen.ensures.looked)) (
      refl,
      refl,
      is_gone p c.look-seen.result c.args.number c.args.route c.args.tops.now c.requires.tops
          c.requires.route.1 c.requires.number.0 c.requires.number.1 c.in_default.ensures.none,
    )

pub returns-then-mark-gt-TRANSMITTING-clause-answer : goal.returns-then-mark-gt-TRANSMITTING-clause-answer
returns-then-mark-gt-TRANSMITTING-clause-answer g c =
    let p = part_of c.args.seat.now.me in
    let some = c.in-Some.ensures.some in
    let seen = c.look-seen.result in
    let l = c.lane-mark.ensures in
    let high = c.if-mark-gt-TRANSMITTING.true in
    let above : 15 < mark_of seen c.in-Some.mailbox = omega arith in
    subst (λ (q : RouteView). Answered p q c.args.number Asked) (sym (ap part_of c.look-seen.ensures.looked)) (
      refl,
      inr (
        refl,
        (
          c.in-Some.mailbox,
          was_asked p seen c.args.number c.args.route c.in-Some.mailbox c.args.tops.now
              c.requires.tops c.requires.route.1 some.0 c.look-seen.ensures.own some.1 above,
        ),
      ),
    )

pub returns-then-mark-eq-TRANSMITTING-clause-hears : goal.returns-then-mark-eq-TRANSMITTING-clause-hears
returns-then-mark-eq-TRANSMITTING-clause-hears g c =
    hears_ask g.G.Gate.may_have_heard (part_of c.args.seat.now.me) (part_of c.look-seen.new.seat.me)
    (part_of c.ask_end.new.seat.me) c.in-Some.mailbox c.ask_end.result _ _ _ c.ask_end.ensures.answer
    c.pass.ensures.heard c.ask_end.ensures.hears

pub returns-else-mark-eq-TRANSMITTING-clause-hears : goal.returns-else-mark-eq-TRANSMITTING-clause-hears
returns-else-mark-eq-TRANSMITTING-clause-hears g c =
    hears_take g.G.Gate.may_have_heard (part_of c.args.seat.now.me) (part_of c.look-seen.new.seat.me)
    (part_of c.take_out.new.seat.me) c.in-Some.mailbox c.take_out.result _ _ _ c.take_out.ensures.answer
    c.pass.ensures.heard c.take_out.ensures.hears
