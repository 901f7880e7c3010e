use Rattle.std.proofs.Common.{◌+◌, ◌++◌, [], ◌∷◌, ℕ, get_or, set, sym, subst}
use Rattle.bx_shared.specs.Tallies.{IsTally}
use Rattle.bx_shared.proofs.Tallying.{adds_done}
use Rattle.bx_shared.proofs.tally.Tally.add_done.Goals as goal

pub returns : goal.returns
returns c = λ done reaped h. let t = c.args.self.now in let item = c.args.item in
    subst (λ (k : ℕ). IsTally (done ++ item ∷ []) reaped (record t { done = set t.done k (get_or t.done k 0 + 1) }))
    (sym c.from.ensures) (adds_done t done reaped item c.requires.route h)
