use Rattle.std.proofs.Common.{◌≡◌, ◌+◌, [], length, true, false, Bool, List, sym, ap, subst, ◌∙◌, reverse, ◌∷◌, ◌==◌}
use Rattle.std.proofs.Common.{inl, inr}
use Rattle.std.proofs.lemmas.Bool.Decides.{eqb_tells}
use Rattle.can_frame.specs.FieldReading.{fields_length}
use Rattle.can_frame.specs.Stuffing.{five_equal}
use Rattle.can_frame.proofs.Regions.{no_length}
use Rattle.can_frame.proofs.Nexts.{Bodies, next_sof, next_data_body, next_more}
use Rattle.can_frame.proofs.reader.Reader.push_region.Goals as goal
use Rattle.can_frame.proofs.reader.Reader.push_region.Goals.{else-level-via-then-level+else-is_empty}
use Rattle.can_frame.proofs.reader.Reader.push_region.Goals.{else-level-via-else-level}
use Rattle.can_frame.proofs.reader.Reader.push_region.Goals.{else-complete-via-then-complete+else-not-wants_stuff_bit}
use Rattle.can_frame.proofs.reader.Reader.push_region.Goals.{else-complete-via-else-complete}

is_none : (u : List Bool) → (length u == 0) ≡ true → length u ≡ 0
is_none u e = elim (eqb_tells (length u) 0) [ inl is ↦ is.1 | inr other ↦ absurd (cc (e, other.0)) ]

not_none : (u : List Bool) (b : Bool) → b ≡ (length u == 0) → b ≡ false → u ≡ [] → ⊥
not_none u b e f none = let is : (length u == 0) ≡ true = ap (λ t. length t == 0) none in cc

pub returns-then-is_empty : goal.returns-then-is_empty
returns-then-is_empty c text place h =
    let none = is_none c.args.self.now.levels.items (sym c.is_empty.ensures ∙ c.if-is_empty.true) in
    rw c.fail.ensures.answer (next_sof c.args.self.now.levels.items text c.args.level c.fail.new.self h.inside
    (no_length _ none) c.if-level.true c.fail.ensures.place)

pub returns-then-is_full : goal.returns-then-is_full
returns-then-is_full c text place h =
    c.push_behind_five.ensures text place (sym (c.is_full.ensures.five _ h.ends) ∙ c.if-is_full.true) h

pub returns-then-not-wants_stuff_bit : goal.returns-then-not-wants_stuff_bit
returns-then-not-wants_stuff_bit c text place h =
    let u = c.args.self.now.levels.items in
    let v = c.keep.new.levels.items in
    let full : length v ≡ fields_length v + 15 = subst (λ t. length t ≡ fields_length t + 15) c.as_slice.ensures.value
    (c.is_complete-complete.ensures.whole c.if-complete.true) in
    let bodies : Bodies c.body.result c.body.new.place v =
    subst (Bodies c.body.result c.body.new.place) c.as_slice-then-not-wants_stuff_bit.ensures.value
    (c.body.ensures (subst (λ t. length t ≡ fields_length t + 15)
    (sym c.as_slice-then-not-wants_stuff_bit.ensures.value) full)) in
    let sof : u ≡ [] → c.args.level ≡ false = λ none. elim c.else-level.branch [
      | else-level-via-then-level+else-is_empty w ↦
          absurd (not_none u w.is_empty.result w.is_empty.ensures w.if-is_empty.false none)
      | else-level-via-else-level w ↦ w.if-level.false
    ] in
    let plain : five_equal (reverse text) ≡ false = sym (c.is_full.ensures.five _ h.ends) ∙ c.if-is_full.false in
    let short : five_equal (c.args.level ∷ reverse text) ≡ false =
    sym (c.is_full-wants_stuff_bit.ensures.five _ (c.push.ensures.ends _ h.ends)) ∙ c.if-not-wants_stuff_bit.true in
    next_data_body u v text c.args.level _ c.body.result h.inside plain sof c.keep.ensures.grows full short bodies

pub returns : goal.returns
returns c text place h =
    let u = c.args.self.now.levels.items in
    let v = c.keep.new.levels.items in
    let sof : u ≡ [] → c.args.level ≡ false = λ none. elim c.else-level.branch [
      | else-level-via-then-level+else-is_empty w ↦
          absurd (not_none u w.is_empty.result w.is_empty.ensures w.if-is_empty.false none)
      | else-level-via-else-level w ↦ w.if-level.false
    ] in
    let plain : five_equal (reverse text) ≡ false = sym (c.is_full.ensures.five _ h.ends) ∙ c.if-is_full.false in
    let ends = c.push.ensures.ends _ h.ends in
    let part : length v ≡ fields_length v + 15 → five_equal (c.args.level ∷ reverse text) ≡ true =
    λ full. elim c.else-complete.branch [
      | else-complete-via-then-complete+else-not-wants_stuff_bit w ↦ sym (c.is_full-wants_stuff_bit.ensures.five _ ends)
          ∙ w.if-not-wants_stuff_bit.false
      | else-complete-via-else-complete w ↦
          absurd (c.is_complete-complete.ensures.part w.if-complete.false
          (subst (λ t. length t ≡ fields_length t + 15) (sym c.as_slice.ensures.value) full))
    ] in
    next_more u text c.args.level _ h.inside plain sof ends c.keep.ensures.grows part place
