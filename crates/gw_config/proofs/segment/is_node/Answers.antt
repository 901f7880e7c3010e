-- The names of the talkers come first.
use Rattle.std.proofs.Common.{◌∙◌, ◌||◌, ap, sym, map}
use Rattle.gw_fields.specs.Names.{is_among}
use Rattle.gw_config.specs.Segments.{all_talker_names}
use Rattle.gw_config.proofs.NameLaws.{among-append}
use Rattle.gw_config.proofs.segment.is_node.Goals as goal

pub returns-then-is_talker : goal.returns-then-is_talker
returns-then-is_talker g c =
    let names = map g.T.Named.name_of c.args.nodes.now in
    ap (λ b. b || is_among c.args.name.now names) c.if-is_talker.ensures
    ∙ sym (among-append c.args.name.now (all_talker_names c.args.segments.now) names)

pub returns : goal.returns
returns g c =
    let names = map g.T.Named.name_of c.args.nodes.now in
    c.is_among.ensures ∙ ap (λ b. b || is_among c.args.name.now names) c.if-is_talker.ensures
    ∙ sym (among-append c.args.name.now (all_talker_names c.args.segments.now) names)
