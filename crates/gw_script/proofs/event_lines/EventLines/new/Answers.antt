-- The names are those of the script, and none is longer than the longest.
use Rattle.std.proofs.Common.{rules, ◌≤◌, ◌∙◌, All, ap, sym, subst, length, arith}
use Rattle.gw_config.specs.Routes.{RouteValue}
use Rattle.std.proofs.lemmas.List.{length-map}
use Rattle.gw_script.specs.LineParts.{AreEnds, IsFront}
use Rattle.gw_script.specs.ReportTexts.{name_at}
use Rattle.gw_script.proofs.NameLengths.{within-all}
use Rattle.gw_script.proofs.event_lines.EventLines.new.Goals as goal

pub returns : goal.returns
returns c =
    let s = c.args.script.now in
    let node = c.longest_of-nodes.result in
    let route = c.longest_of_routes.result in
    let names = c.in_ok-names.names.items in
    let all = subst (All (λ name. length name.now ≤ node)) c.as_slice.ensures.value c.longest_of-nodes.ensures in
    let routes = subst (All (λ (r : RouteValue). length r.name ≤ route)) c.routes.ensures c.longest_of_routes.ensures in
    record {
      name_is = c.segment_name-name.ensures;
      names_are = c.in_ok-names.ensures;
      front_is = subst (λ n. IsFront n c.in_ok-front.front) c.segment_name-name.ensures c.in_ok-front.ensures;
      ends_are = subst (λ n. AreEnds n c.in_ok-ends.ends)
          (c.len.ensures ∙ (search rules) ∙ sym (length-map names (λ name. name.now)) ∙ ap length c.in_ok-names.ensures)
          c.in_ok-ends.ensures;
      longest_is = record {
        node = node;
        nodes_within = λ k. subst (λ ns. length (name_at ns k) ≤ node) c.in_ok-names.ensures
            (within-all (λ name. name.now) names node all k);
        route = route;
        routes_within = within-all (λ (r : RouteValue). r.name) s.routes route routes;
        longest_is = omega (arith, ap length c.segment_name-name.ensures, c.in-Some.ensures);
      };
    }
