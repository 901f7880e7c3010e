use Rattle.std.proofs.Common.{◌++◌, ◌∷◌, [], ap, ap₂, sym, ◌∙◌}
use Rattle.bx_core.specs.States.{numbers}
use Rattle.bx_core.specs.Ties.{left_of}
use Rattle.gw_ending.proofs.Tellings.{left_grows}
use Rattle.gw_ending.proofs.telling.waiting_of.Goals as goal

pub loop-one-preserved : goal.loop-one-preserved
loop-one-preserved c =
    let l = c.loop-one in
    let here = c.left_in.ensures ∙ ap (λ one. numbers (left_of c.args.route (one ∷ []))) c.one-item.is in
    c.in_ok-push_some.ensures ∙ ap₂ (λ xs ys. xs ++ ys) l.invariant here
    ∙ sym (left_grows c.args.route c.args.left.now l.one-index c.one-item.result c.loop-one-test.true)
