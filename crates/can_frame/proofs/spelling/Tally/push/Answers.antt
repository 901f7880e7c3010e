use Rattle.can_frame.proofs.Tallies.{tally_stuff_bit, tally_data}
use Rattle.std.proofs.Common.{sym, ◌∙◌}
use Rattle.can_frame.proofs.spelling.Tally.push.Goals as goal

pub returns-then-not-is_stuff_bit : goal.returns-then-not-is_stuff_bit
returns-then-not-is_stuff_bit c text h =
    tally_data c.args.self.now c.args.level _ _ text h (sym (c.is_full-is_stuff_bit.ensures.five text h.ends)
    ∙ c.if-not-is_stuff_bit.true) (c.push.ensures.ends text h.ends)
    c.saturating_add-self.ensures

pub returns-else-not-is_stuff_bit : goal.returns-else-not-is_stuff_bit
returns-else-not-is_stuff_bit c text h =
    tally_stuff_bit c.args.self.now c.args.level _ text h (sym (c.is_full-is_stuff_bit.ensures.five text h.ends)
    ∙ c.if-not-is_stuff_bit.false) (c.push.ensures.ends text h.ends)
