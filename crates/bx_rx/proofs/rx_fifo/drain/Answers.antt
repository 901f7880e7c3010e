-- What is popped stands behind what was released; at an empty queue, or after three, nothing is left.
use Rattle.std.proofs.Common.{ap, ◌∙◌, length, rules, arith}
use Rattle.std.proofs.lemmas.List.{nil_from_length}
use Rattle.crossbeam_queue.specs.Passes.{view}
use Rattle.bx_rx.proofs.Relays.{releases_one, learns_released, totals, kept-none_yet, stored_within_three}
use Rattle.bx_rx.proofs.Relays.{stored-at_empty, none_behind_three}
use Rattle.bx_rx.proofs.rx_fifo.drain.Goals as goal

pub learn_as-requires-clause-rule : goal.learn_as-requires-clause-rule
learn_as-requires-clause-rule g c =
    totals _ _ (ap (λ v. v.offers) c.requires.both) (ap (λ v. v.releases) c.requires.both)

pub pop_as-requires-clause-rule : goal.pop_as-requires-clause-rule
pop_as-requires-clause-rule g c = let may = ap (λ v. v.releases) c.loop.invariant.1 in
    (releases_one _ _ may, learns_released _ _ may)

pub learn_as-requires-2-clause-rule : goal.learn_as-requires-2-clause-rule
learn_as-requires-2-clause-rule g c =
    totals _ _ (ap (λ v. v.offers) c.loop.invariant.1) (ap (λ v. v.releases) c.loop.invariant.1)

pub loop-init : goal.loop-init
loop-init g c = let e = c.learn_as.ensures in let v = view c.args.pass.now in (
  (search rules),
  kept-none_yet v (view c.learn_as.new.pass) c.new-kept.result.items e.queue.1 c.requires.both
      c.new-kept.ensures,
  ap length c.new-kept.ensures,
  stored_within_three v e.rule.0 e.rule.1,
)

pub returns-in_default-clause-kept : goal.returns-in_default-clause-kept
returns-in_default-clause-kept g c = let v = view c.args.pass.now in let h = c.in_default.ensures.rule.1 in
    stored-at_empty (view c.loop.pass) v.stored v.released c.loop.kept.items h.0 c.loop.invariant.1
    (h.2.3 (ap (λ v. v.offers) c.loop.invariant.1) ∙ h.2.1) (nil_from_length h.0 h.1)

pub returns-clause-kept : goal.returns-clause-kept
returns-clause-kept g c = let v = view c.args.pass.now in let h = c.learn_as-2.ensures.rule in let i =
    c.loop.invariant in let n = i.2 in
    stored-at_empty (view c.loop.pass) v.stored v.released c.loop.kept.items h.0 i.1 h.1.0
    (none_behind_three (view c.loop.pass) v.stored v.released c.loop.kept.items h.0 i.1 h.1.0 (omega arith) i.3)
