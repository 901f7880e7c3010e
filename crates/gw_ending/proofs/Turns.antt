-- Turns of routes, as their reports have them.
use Rattle.std.proofs.Common.{◌≡◌, ◌++◌, List, [], ◌∷◌, ℕ, refl, ap, ◌∙◌}
use Rattle.gw_opening.specs.declared.lane.Lane.{Lane}
use Rattle.gw_script.specs.declared.route_report.RouteReport.{RouteReport}
use Rattle.gw_ending.specs.Finals.{turns_made, turns_reported}

-- one more of the routes is reported
pub reported_more : (reports : List RouteReport) (r : RouteReport) (lane : Lane) (rest : List Lane) (all : List ℕ) →
    r.turns ≡ lane.hand.turns → turns_reported reports ++ turns_made (lane ∷ rest) ≡ all →
    turns_reported (reports ++ r ∷ []) ++ turns_made rest ≡ all
reported_more [] r lane rest all same reported = ap (λ n. n ∷ turns_made rest) same ∙ reported
reported_more (q ∷ reports) r lane rest all same reported =
    ap (λ ns. q.turns ∷ ns) (reported_more reports r lane rest _ same refl) ∙ reported
