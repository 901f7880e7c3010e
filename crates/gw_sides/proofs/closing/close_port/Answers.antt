use Rattle.std.proofs.Common.{refl, arith, ◌∙◌}
use Rattle.gw_sides.proofs.Closes.{same_sides, side_there}
use Rattle.gw_sides.proofs.closing.close_port.Goals as goal

pub take_all-requires-clause-full : goal.take_all-requires-clause-full
take_all-requires-clause-full g c number less =
    let there =
    c.requires.may_close.seated number (omega (arith, less, c.from-count.ensures, c.routes_at.ensures.value)) in
    (there.0, there.1)

pub close-requires-clause-sides : goal.close-requires-clause-sides
close-requires-clause-sides g c =
    same_sides g.M.Mailboxes.side_of c.args.script.now c.args.controller c.args.port.mail c.in_ok-sides.sides.items
    c.args.seats.now
    (c.in_ok-sides.ensures.size ∙ c.from-count.ensures ∙ c.routes_at.ensures.value) c.in_ok-sides.ensures.holds
    c.requires.may_close.seated

pub returns-in-Ok-clause-closes : goal.returns-in-Ok-clause-closes
returns-in-Ok-clause-closes g c =
    let size = c.in_ok-sides.ensures.size ∙ c.from-count.ensures ∙ c.routes_at.ensures.value in
    record {
      tied = λ number side did past less there bus after.
          c.in-Ok.ensures.tied number side did past
          (side_there c.args.script.now c.args.controller number side c.in_ok-sides.sides.items c.args.seats.now
          (omega (arith, less, size)) c.in_ok-sides.ensures.holds there) bus after;
      beyond = λ did bus number above. c.in-Ok.ensures.beyond did bus number
          (omega (arith, above, c.requires.may_close.routes_is));
      few = c.in-Ok.ensures.few;
      banks_is = refl;
      first_is = refl;
      second_is = refl;
    }
