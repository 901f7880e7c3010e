use Rattle.std.proofs.Common.{◌==◌, arith}
use Rattle.gw_config.specs.Routes.{RouteValue}
use Rattle.gw_opening.proofs.PlacesWhere.{places-length}
use Rattle.gw_opening.proofs.opening.routes_at.Goals as goal

pub overflow_cast-result : goal.overflow_cast-result
overflow_cast-result c =
    let few = c.requires.few_into c.args.controller in
    let same = places-length (λ (x : RouteValue). x.target == c.args.controller) 0 c.args.script.now.routes in
    omega (arith, c.max.ensures, c.count_into.ensures, few, same)

pub returns-clause-few : goal.returns-clause-few
returns-clause-few c =
    let few = c.requires.few_into c.args.controller in
    let same = places-length (λ (x : RouteValue). x.target == c.args.controller) 0 c.args.script.now.routes in
    omega (arith, c.max.ensures, c.count_into.ensures, few, same)
