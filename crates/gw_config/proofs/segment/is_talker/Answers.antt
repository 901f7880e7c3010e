-- One segment more is looked at.
use Rattle.std.proofs.Common.{◌≡◌, ◌∙◌, ◌||◌, ap, sym, true, false, drop, ◌+◌}
use Rattle.gw_fields.specs.Names.{is_among}
use Rattle.gw_config.specs.Talkers.{talker_names}
use Rattle.gw_config.specs.Segments.{all_talker_names}
use Rattle.gw_config.proofs.NameLaws.{talkers-step, talkers-end}
use Rattle.gw_config.proofs.segment.is_talker.Goals as goal

pub returns-then-is_among : goal.returns-then-is_among
returns-then-is_among c =
    let here : is_among c.args.name.now (talker_names c.segment-item.result.talkers) ≡ true =
    ap (λ ts. is_among c.args.name.now (talker_names ts)) (sym c.talkers.ensures) ∙ sym c.is_among.ensures
    ∙ c.if-is_among.true in
    sym
    (ap
    (λ b. b || is_among c.args.name.now
    (all_talker_names (drop (c.loop-segment.segment-index + 1) c.args.segments.now))) here)
    ∙ sym (talkers-step c.args.name.now c.args.segments.now c.loop-segment.segment-index c.segment-item.result
    c.loop-segment-test.true c.segment-item.is)
    ∙ c.loop-segment.invariant

pub loop-segment-preserved : goal.loop-segment-preserved
loop-segment-preserved c =
    let not_here : is_among c.args.name.now (talker_names c.segment-item.result.talkers) ≡ false =
    ap (λ ts. is_among c.args.name.now (talker_names ts)) (sym c.talkers.ensures) ∙ sym c.is_among.ensures
    ∙ c.if-is_among.false in
    sym
    (ap
    (λ b. b || is_among c.args.name.now
    (all_talker_names (drop (c.loop-segment.segment-index + 1) c.args.segments.now))) not_here)
    ∙ sym (talkers-step c.args.name.now c.args.segments.now c.loop-segment.segment-index c.segment-item.result
    c.loop-segment-test.true c.segment-item.is)
    ∙ c.loop-segment.invariant

pub returns : goal.returns
returns c = sym (talkers-end c.args.name.now c.args.segments.now c.loop-segment.segment-index c.loop-segment-test.false)
    ∙ c.loop-segment.invariant
