use Rattle.std.proofs.Common.{refl, rules}
use Rattle.gw_ending.proofs.Ends.{ends}
use Rattle.gw_ending.proofs.route_end.report_of.Goals as goal

pub returns-clause-ends : goal.returns-clause-ends
returns-clause-ends g c = ends _ c.args.intake _ c.args.waiting.now c.close-left.result.items (record {
  log = c.requires.log;
  offered = c.requires.intake.0;
  offers = c.requires.intake.1;
  accepted_is = refl;
  overrun_is = refl;
  held_is = search rules;
  released_is = refl;
  aborted_is = search rules;
  stored_is = c.close-left.ensures.kept;
  few_left = c.close-left.ensures.few;
})
