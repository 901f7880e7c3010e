use Rattle.std.proofs.Common.{◌≡◌, sym, [], ◌∷◌, ◌++◌, false, subst, ap, ◌∙◌, take, rules}
use Rattle.can_frame.specs.Reading.{InRegion, Inside}
use Rattle.can_frame.proofs.Steps.{inside_none}
use Rattle.can_frame.proofs.Anew.{inside_sof, begins}
use Rattle.can_frame.proofs.reader.Reader.begin.Goals as goal

pub returns-then-is_empty-clause-stands : goal.returns-then-is_empty-clause-stands
returns-then-is_empty-clause-stands c =
    record { ends = c.new-self.ensures; inside = subst (Inside []) (sym c.clear.ensures) inside_none }

pub returns-then-text-clause-stands : goal.returns-then-text-clause-stands
returns-then-text-clause-stands c =
    record { ends = c.new-self.ensures; inside = subst (Inside []) (sym c.clear.ensures) inside_none }

pub returns-clause-stands : goal.returns-clause-stands
returns-clause-stands c =
    let whole : take 1 c.args.text.now ≡ false ∷ [] = begins c.args.text.now false (search rules) c.if-text.false in
    let kept = c.push-2.ensures.items ∙ ap (λ xs. xs ++ false ∷ []) c.clear.ensures in
    let inside = subst (Inside (false ∷ [])) (sym kept) inside_sof in
    subst (InRegion c.push.new.self c.push-2.new.self.items) (sym whole)
    (record { ends = c.push.ensures.ends [] c.new-self.ensures; inside = inside })
