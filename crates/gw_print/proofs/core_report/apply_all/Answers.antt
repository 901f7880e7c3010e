-- One event more is one step more.
use Rattle.std.proofs.Common.{◌∙◌, arith}
use Rattle.gw_print.proofs.CoreReportLaws.{events-left, run-step, refused-step, refused-end}
use Rattle.gw_print.proofs.core_report.apply_all.Goals as goal

pub loop-place-preserved : goal.loop-place-preserved
loop-place-preserved c =
    let events = c.args.events.now in
    let i = c.loop-place.place in
    let event = c.index-events-place.result in
    let left = events-left events i event c.index-events-place.is c.loop-place-test.true in
    record {
      core = run-step c.loop-place.core c.apply_one.new.core event _ _ left c.in_ok-apply_one.ensures.core
          ∙ c.loop-place.invariant.core;
      text = refused-step c.loop-place.core c.apply_one.new.core i event _ _ _ _ left c.in_ok-apply_one.ensures.core
          c.in_ok-apply_one.ensures.text ∙ c.loop-place.invariant.text;
      routes = c.in_ok-apply_one.ensures.routes ∙ c.loop-place.invariant.routes;
    }

pub returns-clause-text : goal.returns-clause-text
returns-clause-text c =
    refused-end c.loop-place.core c.loop-place.place c.args.events.now _ _ (omega arith) c.loop-place.invariant.text
