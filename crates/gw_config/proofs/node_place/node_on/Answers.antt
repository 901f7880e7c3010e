-- The talkers come first.
use Rattle.std.proofs.Common.{◌≡◌, ◌∙◌, ap, sym, arith, length, Some, None}
use Rattle.std.proofs.lemmas.List.{length-map}
use Rattle.std.specs.List.{position_from}
use Rattle.std.specs.Str.{bytes_eq}
use Rattle.gw_config.specs.Talkers.{TalkerValue, talker_names}
use Rattle.gw_config.specs.Controllers.{controller_names, controllers_on}
use Rattle.gw_config.proofs.NodeLaws.{position-append-found, position-append-later}
use Rattle.gw_config.proofs.node_place.node_on.Goals as goal

pub returns-in-Some : goal.returns-in-Some
returns-in-Some c =
    let found : position_from (bytes_eq c.args.name.now) 0 (talker_names c.args.segment.now.talkers)
    ≡ Some c.in-Some.node =
    ap (λ ts. position_from (bytes_eq c.args.name.now) 0 (talker_names ts)) (sym c.talkers-talkers.ensures)
    ∙ sym c.place_of.ensures.value ∙ c.in-Some.is in
    sym (position-append-found (bytes_eq c.args.name.now) 0 c.in-Some.node (talker_names c.args.segment.now.talkers)
    (controller_names (controllers_on c.args.place c.args.controllers.now)) found)

pub returns-in-None : goal.returns-in-None
returns-in-None c =
    let nowhere : position_from (bytes_eq c.args.name.now) 0 (talker_names c.args.segment.now.talkers) ≡ None =
    ap (λ ts. position_from (bytes_eq c.args.name.now) 0 (talker_names ts)) (sym c.talkers-talkers.ensures)
    ∙ sym c.place_of.ensures.value ∙ c.in-None.is in
    c.controller_on.ensures
    ∙ sym (position-append-later (bytes_eq c.args.name.now) 0 (length c.talkers-talkers.result.now)
    (talker_names c.args.segment.now.talkers)
    (controller_names (controllers_on c.args.place c.args.controllers.now)) nowhere
    (omega (
      arith,
      ap length c.talkers-talkers.ensures,
      length-map c.args.segment.now.talkers (λ (t : TalkerValue). t.name),
    )))
