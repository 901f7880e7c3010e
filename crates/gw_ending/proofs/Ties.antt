-- Where a route asked nothing of its mailboxes, nothing was done for it, and nothing is left of it.
use Rattle.std.proofs.Common.{◌≡◌, ℕ, Bool, inl, List, [], ◌∷◌, refl, sym, subst, ◌∙◌}
use Rattle.bx_core.specs.declared.left.Left.{Left}
use Rattle.bx_core.specs.Lists.{Each, Has}
use Rattle.bx_core.specs.RouteTx.{no_route_past}
use Rattle.bx_core.specs.Ties.{RouteTied, NothingOf, left_of}
use Rattle.bx_core.specs.TxBus.{BusPast}

-- a list whose elements all stand in the empty one is empty
none_known : {X : Type 0} (xs : List X) → Each (Has {A = X} []) xs → xs ≡ []
none_known [] known = refl
none_known (x ∷ xs) known = absurd known.0

nothing_has : {X : Type 0} (xs : List X) → ((x : X) → Has xs x → ⊥) → xs ≡ []
nothing_has [] none = refl
nothing_has (x ∷ xs) none = absurd (none x (inl refl))

pub tied_nothing : (txfp : Bool) (route : ℕ) (did : BusPast) (left : List Left) →
    RouteTied txfp route did no_route_past (left_of route left) → NothingOf route did left
tied_nothing txfp route did left t = record {
  none_started = nothing_has _ t.starts;
  none_done = sym t.done_is
      ∙ none_known t.lists.done (subst (λ es. Each (Has es) t.lists.done) t.requested_is t.law.done_known);
  none_reaped = sym t.reaped_is ∙ nothing_has t.lists.reaped t.reaped_asked;
  none_left = none_known (left_of route left) t.waiting_known;
}
