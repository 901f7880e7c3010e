-- What is taken stands behind what was taken before; at an empty queue, or after eight, nothing is left.
use Rattle.std.proofs.Common.{ap, arith}
use Rattle.std.proofs.lemmas.List.{nil_from_length}
use Rattle.crossbeam_queue.specs.Passes.{view}
use Rattle.bx_mail.proofs.Relays.{takes_one, learns_total}
use Rattle.bx_mail.proofs.Leaving.{none_behind, drained}
use Rattle.bx_mail.proofs.closing.drain.Goals as goal

pub learn_as-requires-clause-rule : goal.learn_as-requires-clause-rule
learn_as-requires-clause-rule g c = learns_total _ _ (ap (λ v. v.gets) c.requires.bus)

pub pop_as-requires-clause-rule : goal.pop_as-requires-clause-rule
pop_as-requires-clause-rule g c = let may = ap (λ v. v.gets) c.loop.invariant.1 in
    (takes_one _ _ may, learns_total _ _ may)

pub learn_as-requires-2-clause-rule : goal.learn_as-requires-2-clause-rule
learn_as-requires-2-clause-rule g c = learns_total _ _ (ap (λ v. v.gets) c.loop.invariant.1)

pub returns : goal.returns
returns g c = let v = view c.args.pass.now in let w = view c.loop.pass in let h = c.learn_as-2.ensures.rule in let i =
    c.loop.invariant in let n = i.2 in
    drained v w c.loop.posts.items h.0 i.1 h.1
    (none_behind v w c.loop.posts.items h.0 c.requires.all i.3 i.1 h.1 (omega (arith, n, c.loop-test.false)))

pub returns-in_default : goal.returns-in_default
returns-in_default g c = let v = view c.args.pass.now in let w = view c.loop.pass in let h =
    c.in_default.ensures.rule.1 in
    drained v w c.loop.posts.items h.0 c.loop.invariant.1 h.2 (nil_from_length h.0 h.1)
