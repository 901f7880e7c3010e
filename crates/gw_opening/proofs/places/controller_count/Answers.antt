use Rattle.std.proofs.Common.{◌==◌, count_by, ap, sym, ◌∙◌}
use Rattle.std.proofs.lemmas.List.Sums.{length-filter}
use Rattle.gw_config.specs.Controllers.{ControllerValue}
use Rattle.gw_opening.proofs.PlacesWhere.{places-length}
use Rattle.gw_opening.proofs.places.controller_count.Goals as goal

pub returns-clause-places : goal.returns-clause-places
returns-clause-places c =
    let test = λ (x : ControllerValue). x.segment == c.args.segment in
    c.among_controllers.ensures ∙ ap (count_by test) c.controllers.ensures
    ∙ sym (places-length test 0 c.args.script.now.controllers)

pub returns-clause-controllers : goal.returns-clause-controllers
returns-clause-controllers c =
    let test = λ (x : ControllerValue). x.segment == c.args.segment in
    c.among_controllers.ensures ∙ ap (count_by test) c.controllers.ensures
    ∙ sym (length-filter test c.args.script.now.controllers)
