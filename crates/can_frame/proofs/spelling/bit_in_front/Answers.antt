use Rattle.std.proofs.Common.{◌≡◌, ◌<◌, ◌∙◌, reverse, length, arith, rules}
use Rattle.std.proofs.lemmas.List.{length-reverse}
use Rattle.can_frame.proofs.Tallies.{newest_told, front_is_sof, front_stuffs, front_arbitrates}
use Rattle.can_frame.proofs.spelling.bit_in_front.Goals as goal

pub returns-then-is_empty : goal.returns-then-is_empty
returns-then-is_empty c rtr few =
    let none : length c.args.text.now ≡ 0 = search rules in
    front_is_sof (reverse c.args.text.now) rtr (length-reverse c.args.text.now ∙ none)

pub returns-then-is_full : goal.returns-then-is_full
returns-then-is_full c rtr few =
    let text = c.args.text.now in
    let told = newest_told text c.saturating_sub.result c.is_full.result c.saturating_sub.ensures
    (c.is_full.ensures.five _ c.tally_of-newest.ensures.ends) in
    front_stuffs (reverse text) rtr (omega (arith, few, length-reverse text)) (told ∙ c.if-is_full.true)

pub returns-else-is_full : goal.returns-else-is_full
returns-else-is_full c rtr few =
    let text = c.args.text.now in
    let told = newest_told text c.saturating_sub.result c.is_full.result c.saturating_sub.ensures
    (c.is_full.ensures.five _ c.tally_of-newest.ensures.ends) in
    let some : 0 < length text = search rules in
    front_arbitrates (reverse text) rtr (omega (arith, few, length-reverse text))
    (omega (arith, some, length-reverse text)) (told ∙ c.if-is_full.false)
