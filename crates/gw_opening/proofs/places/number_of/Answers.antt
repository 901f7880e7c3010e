use Rattle.std.proofs.Common.{◌≡◌, ◌+◌, ◌==◌, Some, take, count_by, slice_get, arith, ap, ◌∙◌}
use Rattle.std.proofs.lemmas.Bool.{eq-eqb}
use Rattle.gw_config.specs.Routes.{RouteValue}
use Rattle.gw_config.specs.Nodes.{route_places}
use Rattle.gw_opening.proofs.PlacesWhere.{place-found}
use Rattle.gw_opening.proofs.places.number_of.Goals as goal

pub returns : goal.returns
returns c =
    let target = c.args.target in
    let said = c.args.script.now.routes in
    let k = c.args.route in
    let test = λ (x : RouteValue). x.target == target in
    let one = c.requires.there.0 in
    ap (slice_get (route_places c.args.script.now target)) (c.among_routes.ensures
    ∙ ap (λ xs. count_by test (take k xs)) c.routes.ensures)
    ∙ place-found test 0 said k one c.requires.there.1 (eq-eqb one.target target c.requires.there.2)
    ∙ ap Some (let same : 0 + k ≡ k = omega arith in same)
