use Rattle.std.proofs.Common.{rules, ◌≡◌, Some, [], refl, slice_get, sym, ap, subst, ◌∙◌}
use Rattle.std.proofs.lemmas.Option.{slice_get-get_or}
use Rattle.can_station.proofs.Places.{same_some}
use Rattle.gw_config.specs.Routes.{RouteValue}
use Rattle.gw_route.specs.RouteHand.{HandValue, hand_value}
use Rattle.gw_opening.specs.Openings.{IsNewLane}
use Rattle.gw_opening.specs.declared.lane.Lane.{Lane}
use Rattle.gw_opening.proofs.route_start.lane_of.Goals as goal

pub returns-clause-lane : goal.returns-clause-lane
returns-clause-lane c value is =
    let said : RouteValue = c.index-routes-route.result in
    let routes = c.args.script.now.routes in
    let there = slice_get-get_or routes c.args.route said c.requires.there in
    let here : slice_get routes c.args.route ≡ Some said =
    there ∙ ap Some (sym (rw c.routes.ensures at c.index-routes-route.is)) in
    let same : said ≡ value = same_some said value (sym here ∙ is) in
    let made = c.with_queue.ensures.made in
    let lane : Lane =
    record {
      hand = c.with_queue.result;
      source = c.of-source.result;
      fifo = c.fifo.result;
      target = c.of-target.result;
      number = c.number_of-number.result;
    } in
    subst (λ route. IsNewLane c.args.script.now c.args.route route lane) same (record {
      lane_is = record {
        source_is = search rules;
        fifo_is = search rules;
        target_is = search rules;
        number_is = search rules;
        rewrites_is = search rules;
        queue_is = search rules;
        plan = record { done = []; all = search rules; logged = search rules };
      };
      aborts_is = search rules;
      turns_is = search rules;
      linked = c.with_queue.ensures.linked;
      log = search rules;
    })
