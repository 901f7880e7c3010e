-- The gates stand at their places.
use Rattle.std.proofs.Common.{subst, arith, ◌∙◌, length}
use Rattle.std.proofs.lemmas.Result.{IfOk-weaker}
use Rattle.gw_threaded.specs.Parts.{HaveParted}
use Rattle.gw_threaded.proofs.Walks.{have_gates, placed_there}
use Rattle.gw_threaded.proofs.parting.part_all.Goals as goal

pub part-requires-clause-gates : goal.part-requires-clause-gates
part-requires-clause-gates g c =
    placed_there c.args.gates.items c.as_mut_slice.result.now (length c.args.lanes.items)
    (c.as_mut_slice.ensures.value ∙ c.in_ok-gates.ensures) (omega (arith, c.requires.gates))

pub returns-clause-gates : goal.returns-clause-gates
returns-clause-gates g c = IfOk-weaker c.part.result _ _
    (λ made parted. have_gates c.args.seats.now c.args.gates.items c.args.lanes.items made.0.items made.1.items
    c.requires.gates
    (subst (λ slots. HaveParted c.args.seats.now slots c.args.lanes.items made.0.items made.1.items)
    (c.as_mut_slice.ensures.value ∙ c.in_ok-gates.ensures) parted)) c.part.ensures.parted
