-- A reader that reads a text anew: behind SOF, and level by level.
use Rattle.std.proofs.Common.{◌≡◌, ◌<◌, Bool, false, List, [], ◌∷◌, ◌++◌, length, inl, refl, sym, subst, take, get_or}
use Rattle.std.proofs.Common.{arith, inr, ap}
use Rattle.std.proofs.lemmas.List.{append-nil, append_assoc}
use Rattle.can_frame.specs.Stuffing.{IsStuffed, unstuffed}
use Rattle.can_frame.specs.Reading.{Inside, ReadsOn, ReadsOnBy, StandsAfter}
use Rattle.can_frame.specs.declared.reader.Reader.{Reader}

pub inside_sof : Inside (false ∷ []) (false ∷ [])
unfolding IsStuffed unstuffed
inside_sof = record { stuffed = (λ e. cc, tt); stands = refl; start = refl; unfinished = inl (omega arith) }

-- one that goes on with a level stands after the text with it
pub stands_on : (old new : Reader) (level : Bool) (text : List Bool) → ReadsOn old level new → StandsAfter old text →
    StandsAfter new (text ++ level ∷ [])
stands_on old new level text on h = elim on [ inl more ↦ more.stands text h | inr stuff ↦ stuff.stands text h ]

pub stands_on_by : (levels : List Bool) (old new : Reader) (text : List Bool) → ReadsOnBy old levels new →
    StandsAfter old text → StandsAfter new (text ++ levels)
stands_on_by [] old new text on h =
    subst (StandsAfter new) (sym (append-nil text)) (subst (λ r. StandsAfter r text) (sym on) h)
stands_on_by (level ∷ levels) old new text (mid, one, more) h =
    subst (StandsAfter new) (append_assoc text (level ∷ []) levels)
    (stands_on_by levels mid new (text ++ level ∷ []) more (stands_on old mid level text one h))

-- the text begins with a dominant level
pub begins : (text : List Bool) (d : Bool) → 0 < length text → get_or text 0 d ≡ false → take 1 text ≡ false ∷ []
begins [] d some e = absurd (omega (arith, some))
begins (x ∷ text) d some e = ap (λ y. y ∷ []) e
