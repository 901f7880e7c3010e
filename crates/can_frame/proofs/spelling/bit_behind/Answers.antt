use Rattle.std.proofs.Common.{reverse, sym, ◌∙◌}
use Rattle.can_frame.proofs.Tallies.{bit_stuffs, bit_is_sof, bit_arbitrates}
use Rattle.can_frame.proofs.spelling.bit_behind.Goals as goal

pub returns-then-is_full : goal.returns-then-is_full
returns-then-is_full c small =
    let tallies = c.tally_of-tally.ensures in
    bit_stuffs c.tally_of-tally.result c.args.rtr (reverse c.args.text.now) tallies small c.if-tally-rtr.false
    (sym (c.is_full.ensures.five _ tallies.ends) ∙ c.if-is_full.true)

pub returns-then-tally-eq0 : goal.returns-then-tally-eq0
returns-then-tally-eq0 c small =
    let tallies = c.tally_of-tally.ensures in
    bit_is_sof c.tally_of-tally.result c.args.rtr (reverse c.args.text.now) tallies
    (sym (c.is_full.ensures.five _ tallies.ends) ∙ c.if-is_full.false) c.if-tally-eq0.true

pub returns : goal.returns
returns c small =
    let tallies = c.tally_of-tally.ensures in
    bit_arbitrates c.tally_of-tally.result c.args.rtr (reverse c.args.text.now) tallies small c.if-tally-rtr.false
    (sym (c.is_full.ensures.five _ tallies.ends) ∙ c.if-is_full.false) c.if-tally-eq0.false
