-- What the faults of a plan do does not change before the next bit at which one of them begins or ends.
use Rattle.std.proofs.Common.{◌≡◌, ℕ, ◌<◌, ◌≤◌, ◌==◌, ◌&&◌, ◌||◌, cond, Bool, true, false, Option, Some, List}
use Rattle.std.proofs.Common.{[], ◌∷◌, ◌++◌, inl, inr, refl, sym, ap, arith, ◌∙◌}
use Rattle.std.proofs.lemmas.Bool.Decides.{eqb_tells}
use Rattle.std.proofs.lemmas.List.Folds.{list_any-append}
use Rattle.std.proofs.lemmas.List.Sums.{fold-append}
use Rattle.can_station.specs.CurrentFaults.{InvertsSame, SetsLine, level_by}
use Rattle.can_station.specs.Faults.{is_inverted, line_level, stands}
use Rattle.can_station.specs.declared.plan.LineFault.{LineFault}
use Rattle.can_station.specs.declared.plan.NodeFault.{NodeFault}

-- a fault stands at each of these bits, or at none
abbrev pub IsConstant : ℕ → ℕ → ℕ → ℕ → Bool → Type 0
IsConstant from until bit change here = (at : ℕ) → bit ≤ at → at < change → stands from until at ≡ here

pub sets_more : (faults : List LineFault) (fault : LineFault) (bit until change less : ℕ) (level : Option Bool)
    (here : Bool) → SetsLine faults bit until level → IsConstant fault.bit fault.until bit change here → less ≤ until →
    less ≤ change → SetsLine (faults ++ fault ∷ []) bit less (cond here (Some fault.level) level)
sets_more faults fault bit until change less level here sets same a b at driven from before =
    fold-append (λ l (f : LineFault). cond (stands f.bit f.until at) f.level l) driven faults (fault ∷ [])
    ∙ ap (λ s. cond s fault.level (line_level faults at driven)) (same at from (omega (arith, before, b)))
    ∙ by here (sets at driven from (omega (arith, before, a)))
  where
    by : (x : Bool) → line_level faults at driven ≡ level_by level driven →
        cond x fault.level (line_level faults at driven) ≡ level_by (cond x (Some fault.level) level) driven
    by true e = refl
    by false e = e

-- so far the same nodes are inverted, at each of these bits
pub record Inverts (faults : List NodeFault) (bit until : ℕ) (here : List NodeFault) : Type 0 where
  pub same : InvertsSame faults bit until here
  pub constant : (at node : ℕ) → bit ≤ at → at < until → is_inverted faults node at ≡ is_inverted faults node bit

or_false : (b : Bool) → (b || false) ≡ b
or_false true = refl
or_false false = refl

and_false : (b : Bool) → (b && false) ≡ false
and_false true = refl
and_false false = refl

-- one fault more
abbrev inverted_by : NodeFault → ℕ → Bool → Bool
inverted_by fault node here = fault.node == node && here

one_more : (faults : List NodeFault) (fault : NodeFault) (node at : ℕ) (here : Bool) →
    stands fault.bit fault.until at ≡ here →
    is_inverted (faults ++ fault ∷ []) node at ≡ (is_inverted faults node at || inverted_by fault node here)
one_more faults fault node at here is =
    list_any-append (λ (f : NodeFault). f.node == node && stands f.bit f.until at) faults (fault ∷ [])
    ∙ ap (λ b. is_inverted faults node at || (fault.node == node && b || false)) is
    ∙ ap (λ b. is_inverted faults node at || b) (or_false (inverted_by fault node here))

constant_more : (faults : List NodeFault) (fault : NodeFault) (bit until change less : ℕ) (here : Bool)
    (inverted : List NodeFault) → Inverts faults bit until inverted →
    IsConstant fault.bit fault.until bit change here → less ≤ until → less ≤ change → (at node : ℕ) → bit ≤ at →
    at < less → is_inverted (faults ++ fault ∷ []) node at ≡ is_inverted (faults ++ fault ∷ []) node bit
constant_more faults fault bit until change less here inverted h same a b at node from before =
    one_more faults fault node at here (same at from (omega (arith, before, b)))
    ∙ ap (λ x. x || inverted_by fault node here) (h.constant at node from (omega (arith, before, a)))
    ∙ sym (one_more faults fault node bit here (same bit (omega arith) (omega (arith, from, before, b))))

-- that does not stand,
pub inverts_other : (faults : List NodeFault) (fault : NodeFault) (bit until change less : ℕ)
    (inverted : List NodeFault) → Inverts faults bit until inverted →
    IsConstant fault.bit fault.until bit change false → less ≤ until → less ≤ change →
    Inverts (faults ++ fault ∷ []) bit less inverted
inverts_other faults fault bit until change less inverted h same a b = record {
  same = λ at node from before. h.same at node from (omega (arith, before, a))
      ∙ sym (one_more faults fault node at false (same at from (omega (arith, before, b)))
      ∙ ap (λ x. is_inverted faults node at || x) (and_false (fault.node == node))
      ∙ or_false (is_inverted faults node at));
  constant = constant_more faults fault bit until change less false inverted h same a b;
}

-- that is added,
pub inverts_added : (faults : List NodeFault) (fault : NodeFault) (bit until change less : ℕ)
    (inverted : List NodeFault) → Inverts faults bit until inverted →
    IsConstant fault.bit fault.until bit change true → less ≤ until → less ≤ change →
    Inverts (faults ++ fault ∷ []) bit less (inverted ++ fault ∷ [])
inverts_added faults fault bit until change less inverted h same a b = record {
  same = λ at node from before.
      let here = same at from (omega (arith, before, b)) in
      one_more inverted fault node at true here
      ∙ ap (λ x. x || inverted_by fault node true) (h.same at node from (omega (arith, before, a)))
      ∙ sym (one_more faults fault node at true here);
  constant = constant_more faults fault bit until change less true inverted h same a b;
}

-- or of a node that has one already
pub inverts_again : (faults : List NodeFault) (fault : NodeFault) (bit until change less : ℕ)
    (inverted : List NodeFault) → Inverts faults bit until inverted →
    IsConstant fault.bit fault.until bit change true → is_inverted inverted fault.node bit ≡ true → less ≤ until →
    less ≤ change → Inverts (faults ++ fault ∷ []) bit less inverted
inverts_again faults fault bit until change less inverted h same already a b = record {
  same = λ at node from before.
      h.same at node from (omega (arith, before, a))
      ∙ by at node from before
      ∙ sym (one_more faults fault node at true (same at from (omega (arith, before, b))));
  constant = constant_more faults fault bit until change less true inverted h same a b;
}
  where
    by : (at node : ℕ) → bit ≤ at → at < less →
        is_inverted faults node at ≡ (is_inverted faults node at || inverted_by fault node true)
    by at node from before = elim (eqb_tells fault.node node) [
      | inl is ↦ (
          let is_true : is_inverted faults node at ≡ true =
          h.constant at node from (omega (arith, before, a))
          ∙ sym (h.same bit node (omega arith) (omega (arith, from, before, a)))
          ∙ ap (λ n. is_inverted inverted n bit) (sym is.1) ∙ already in
          is_true ∙ sym (ap (λ x. x || inverted_by fault node true) is_true))
      | inr isnt ↦ sym (ap (λ x. is_inverted faults node at || (x && true)) isnt.0
          ∙ or_false (is_inverted faults node at))
    ]
