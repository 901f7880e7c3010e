use Rattle.gw_ending.proofs.Reports.{all_ordered, all_balance, none_refilled}
use Rattle.gw_run.proofs.inline.run_inline.Goals as goal

pub returns-in-Ok-clause-order : goal.returns-in-Ok-clause-order
returns-in-Ok-clause-order g c = all_ordered 3 c.args.script.now c.in-Ok.report c.in-Ok.ensures.routes

pub returns-in-Ok-clause-sum : goal.returns-in-Ok-clause-sum
returns-in-Ok-clause-sum g c = all_balance 3 c.args.script.now c.in-Ok.report c.in-Ok.ensures.routes

pub returns-in-Ok-clause-no_refill : goal.returns-in-Ok-clause-no_refill
returns-in-Ok-clause-no_refill g c = λ place r started e starts. none_refilled 3 c.args.script.now c.in-Ok.report place
    r started c.in-Ok.ensures.routes e starts
