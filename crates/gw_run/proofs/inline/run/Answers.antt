use Rattle.std.proofs.Common.{sym, subst, arith}
use Rattle.std.proofs.lemmas.Result.{IfOk-weaker}
use Rattle.can_segment.proofs.Shown.{put_back}
use Rattle.gw_site.specs.Pairs.{Pairs}
use Rattle.gw_opening.specs.Openings.{HaveMails}
use Rattle.gw_run.specs.Ports.{IsNewMail}
use Rattle.gw_run.specs.Finals.{ClosesSite}
use Rattle.gw_run.proofs.Closes.{has_closed, few_closed}
use Rattle.gw_run.proofs.Counted.{each_turned}
use Rattle.gw_run.proofs.inline.run.Goals as goal

pub end_run-requires-clause-over : goal.end_run-requires-clause-over
end_run-requires-clause-over g c =
    let run = c.in_ok-lanes.ensures.run in
    let back = put_back c.in_ok-sites.sites.len c.run_routes.new.sites c.in_ok-sites.sites.items
    (omega (arith, c.as_mut_slice.ensures.len, run.each_site.size, c.in_ok-sites.ensures.new.size))
    (omega (arith, run.each_site.size, c.in_ok-sites.ensures.new.size)) in
    has_closed c.args.script.now c.run_routes.new.sites c.in_ok-lanes.lanes.items c.in_ok-closed.closed.items
    (subst (λ sites. Pairs (λ i. ClosesSite) sites c.in_ok-closed.closed.items) back c.in_ok-closed.ensures) run

pub end_run-requires-clause-few : goal.end_run-requires-clause-few
end_run-requires-clause-few g c place port at =
    (let few = few_closed _ c.in_ok-closed.closed.items c.in_ok-closed.ensures place port at in omega (arith, few))

pub returns-clause-routes : goal.returns-clause-routes
returns-clause-routes g c = IfOk-weaker c.end_run.result _ _
    (λ report all. all 3 (few_closed _ c.in_ok-closed.closed.items c.in_ok-closed.ensures)) c.end_run.ensures.routes

pub run_routes-requires-clause-mails : goal.run_routes-requires-clause-mails
run_routes-requires-clause-mails g c =
    subst (HaveMails IsNewMail c.args.script.now) (sym c.as_mut_slice.ensures.value) c.in_ok-sites.ensures.mails

pub returns-clause-turns : goal.returns-clause-turns
returns-clause-turns g c = IfOk-weaker c.end_run.result _ _
    (λ report reported. each_turned c.args.turn c.args.script.now c.in_ok-lanes.lanes.items report
    c.in_ok-lanes.ensures.turned reported) c.end_run.ensures.turns
