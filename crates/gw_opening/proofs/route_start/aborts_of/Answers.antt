use Rattle.std.proofs.Common.{[], ap, arith, length, ◌∙◌}
use Rattle.std.proofs.lemmas.List.{take_all}
use Rattle.gw_opening.specs.Plans.{abort_in}
use Rattle.gw_opening.proofs.Plans.{kept_of, kept-all}
use Rattle.gw_opening.proofs.route_start.aborts_of.Goals as goal

pub returns : goal.returns
returns c =
    let aborts = c.args.script.now.aborts in
    let all = take_all c.loop-abort.abort-index aborts
    (omega (arith, c.loop-abort-test.false, ap length c.aborts-abort-items.ensures)) in
    c.loop-abort.invariant ∙ ap (kept_of (abort_in c.args.route) []) all ∙ kept-all (abort_in c.args.route) aborts
