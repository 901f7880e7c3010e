use Rattle.std.proofs.Common.{◌≡◌, ◌∙◌, ap, refl, ◌==◌, false, length, List, [], ◌∷◌, ℕ, Ok}
use Rattle.serde_json.specs.View.{items_view}
use Rattle.serde_json.specs.declared.value.Value.{Value}
use Rattle.gw_fields.specs.Fields.{◌>>=◌, filled, filled_list}
use Rattle.gw_fields.proofs.fields.filled_list.Goals as goal

one-or-more : (name : List ℕ) (vs : List Value) → false ≡ (length vs == 0) →
    filled name (items_view vs) ≡ Ok (items_view vs)
one-or-more name [] e = cc
one-or-more name (v ∷ vs) e = refl

pub returns-else-is_empty-clause-value : goal.returns-else-is_empty-clause-value
unfolding filled_list
returns-else-is_empty-clause-value c =
    ap (λ r. r >>= filled c.args.name.now) c.in_ok-items.ensures.value
    ∙ one-or-more c.args.name.now c.in_ok-items.items.now (c.if-is_empty.ensures)
