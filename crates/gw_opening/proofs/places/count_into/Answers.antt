use Rattle.std.proofs.Common.{◌==◌, count_by, ap, sym, ◌∙◌}
use Rattle.gw_config.specs.Routes.{RouteValue}
use Rattle.gw_opening.proofs.PlacesWhere.{places-length}
use Rattle.gw_opening.proofs.places.count_into.Goals as goal

pub returns : goal.returns
returns c =
    let test = λ (x : RouteValue). x.target == c.args.controller in
    c.among_routes.ensures ∙ ap (count_by test) c.routes.ensures ∙ sym (places-length test 0 c.args.script.now.routes)
