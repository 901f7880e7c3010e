use Rattle.std.proofs.Common.{◌+◌, ◌++◌, [], ◌∷◌, ℕ, get_or, set, sym, subst}
use Rattle.bx_shared.specs.Tallies.{IsTally}
use Rattle.bx_shared.proofs.Tallying.{adds_reaped}
use Rattle.bx_shared.proofs.tally.Tally.add_reaped.Goals as goal

pub returns : goal.returns
returns c = λ done reaped h. let t = c.args.self.now in let label = c.args.label in
    subst (λ (k : ℕ). IsTally done (reaped ++ label ∷ [])
    (record t { reaped = set t.reaped k (get_or t.reaped k 0 + 1) })) (sym c.from.ensures)
    (adds_reaped t done reaped label c.requires.route h)
