-- How a text ends, and how much of it is data, level by level.
use Rattle.std.proofs.Common.{◌≡◌, ℕ, suc, ◌+◌, ◌≤◌, ◌<◌, min, Bool, true, false, List, [], ◌∷◌, ◌++◌, length, refl}
use Rattle.std.proofs.Common.{sym, ap, arith, ◌∙◌, cond, ◌-◌, inl, inr, take, drop, reverse}
use Rattle.std.proofs.lemmas.Bool.Decides.{leb_tells}
use Rattle.std.proofs.lemmas.List.{take-append-drop, reverse-append, length-reverse, length-drop, take_rest}
use Rattle.can_frame.specs.Stuffing.{five_equal, unstuffed}
use Rattle.can_frame.specs.LevelRuns.{EndsIn}
use Rattle.can_frame.specs.declared.level_run.LevelRun.{LevelRun}
use Rattle.can_frame.specs.Sending.{Tallies, SaysBit}
use Rattle.can_frame.specs.declared.spelling.Tally.{Tally}
use Rattle.can_frame.specs.declared.spelling.SendBit.TheVariants.{Arbitration, ArbitrationStuffBit, Other}

data_same : (older : List Bool) (level : Bool) → five_equal older ≡ true → unstuffed (level ∷ older) ≡ unstuffed older
unfolding unstuffed
data_same older level five = ap (λ b. cond b (unstuffed older) (level ∷ unstuffed older)) five

data_more : (older : List Bool) (level : Bool) → five_equal older ≡ false →
    unstuffed (level ∷ older) ≡ level ∷ unstuffed older
unfolding unstuffed
data_more older level five = ap (λ b. cond b (unstuffed older) (level ∷ unstuffed older)) five

pub tally_stuff_bit : (tally : Tally) (level : Bool) (run : LevelRun) (older : List Bool) → Tallies tally older →
    five_equal older ≡ true → EndsIn (level ∷ older) run →
    Tallies (record { run = run; «data» = tally.«data» }) (level ∷ older)
tally_stuff_bit tally level run older h five ends = record {
  ends = ends;
  data_is = h.data_is ∙ ap (λ t. min (length t) 255) (sym (data_same older level five));
}

pub tally_data : (tally : Tally) (level : Bool) (run : LevelRun) (more : ℕ) (older : List Bool) → Tallies tally older →
    five_equal older ≡ false → EndsIn (level ∷ older) run → more ≡ min (tally.«data» + 1) 255 →
    Tallies (record { run = run; «data» = more }) (level ∷ older)
tally_data tally level run more older h no_five ends grows =
    let longer : length (unstuffed (level ∷ older)) ≡ length (unstuffed older) + 1 =
    ap length (data_more older level no_five) ∙ omega arith in
    record { ends = ends; data_is = omega (arith, grows, h.data_is, longer) }

pub tally_none : (run : LevelRun) → EndsIn [] run → Tallies (record { run = run; «data» = 0 }) []
unfolding unstuffed
tally_none run ends = record { ends = ends; data_is = refl }

-- what the bit behind a text is
pub bit_beyond : (tally : Tally) (rtr : ℕ) (text : List Bool) → Tallies tally text → rtr < tally.«data» →
    SaysBit Other text rtr
bit_beyond tally rtr text h beyond = (
  λ no_five some few. omega (arith, h.data_is, beyond, few),
  λ five few. omega (arith, h.data_is, beyond, few),
)

pub bit_stuffs : (tally : Tally) (rtr : ℕ) (text : List Bool) → Tallies tally text → rtr ≤ 32 → tally.«data» ≤ rtr →
    five_equal text ≡ true → SaysBit ArbitrationStuffBit text rtr
bit_stuffs tally rtr text h small few five = (five, omega (arith, h.data_is, small, few))

pub bit_is_sof : (tally : Tally) (rtr : ℕ) (text : List Bool) → Tallies tally text → five_equal text ≡ false →
    tally.«data» ≡ 0 → SaysBit Other text rtr
bit_is_sof tally rtr text h no_five no_data = (
  λ same some few. omega (arith, h.data_is, no_data, some),
  λ five few. absurd (cc (five, no_five)),
)

pub bit_arbitrates : (tally : Tally) (rtr : ℕ) (text : List Bool) → Tallies tally text → rtr ≤ 32 → tally.«data» ≤ rtr →
    five_equal text ≡ false → (tally.«data» ≡ 0 → ⊥) → SaysBit Arbitration text rtr
bit_arbitrates tally rtr text h small few no_five some =
    (no_five, omega (arith, h.data_is, some), omega (arith, h.data_is, small, few))

-- what the newest five levels tell of a text
due_by_five : (newest older : List Bool) → length newest ≡ 5 → five_equal (newest ++ older) ≡ five_equal newest
due_by_five (a ∷ b ∷ c ∷ d ∷ e ∷ []) older five = refl
due_by_five (a ∷ b ∷ c ∷ d ∷ e ∷ f ∷ more) older five = absurd (omega (arith, five))
due_by_five (a ∷ b ∷ c ∷ d ∷ []) older five = absurd (omega (arith, five))
due_by_five (a ∷ b ∷ c ∷ []) older five = absurd (omega (arith, five))
due_by_five (a ∷ b ∷ []) older five = absurd (omega (arith, five))
due_by_five (a ∷ []) older five = absurd (omega (arith, five))
due_by_five [] older five = absurd (omega (arith, five))

newest_tell : (text : List Bool) (n : ℕ) → n ≡ length text - 5 →
    five_equal (reverse text) ≡ five_equal (reverse (drop n text))
newest_tell text n is = elim (leb_tells 5 (length text)) [
  | inl many ↦
      let apart : reverse text ≡ reverse (drop n text) ++ reverse (take n text) =
      ap reverse (sym (take-append-drop n text)) ∙ reverse-append (take n text) (drop n text) in
      let five : length (reverse (drop n text)) ≡ 5 =
      length-reverse (drop n text) ∙ length-drop n text ∙ omega (arith, is, many.1) in
      ap five_equal apart ∙ due_by_five (reverse (drop n text)) (reverse (take n text)) five
  | inr few ↦
      let none : n ≡ 0 = omega (arith, is, few.1) in
      ap (λ k. five_equal (reverse (drop k text))) (sym none)
]

pub newest_told : (text : List Bool) (n : ℕ) (full : Bool) → n ≡ length text - 5 →
    full ≡ five_equal (reverse (take (length text - n) (drop n text))) → five_equal (reverse text) ≡ full
newest_told text n full is told =
    newest_tell text n is ∙ ap (λ (xs : List Bool). five_equal (reverse xs)) (sym (take_rest text n)) ∙ sym told

-- a text has no more data than levels, and some where it has a level
few_or_more : (five level : Bool) (rest : List Bool) (n : ℕ) → length rest ≤ n →
    length (cond five rest (level ∷ rest)) ≤ suc n
few_or_more true level rest n few = omega (arith, few)
few_or_more false level rest n few = omega (arith, few)

data_few : (text : List Bool) → length (unstuffed text) ≤ length text
unfolding unstuffed
data_few [] = omega arith
data_few (level ∷ older) = few_or_more (five_equal older) level (unstuffed older) (length older) (data_few older)

five_are_some : (text : List Bool) → five_equal text ≡ true → 0 < length text
five_are_some [] five = absurd (cc five)
five_are_some (level ∷ older) five = omega arith

some_left : (five level : Bool) (rest : List Bool) → (five ≡ true → 1 ≤ length rest) →
    1 ≤ length (cond five rest (level ∷ rest))
some_left true level rest h = h refl
some_left false level rest h = omega arith

data_some : (text : List Bool) → 0 < length text → 1 ≤ length (unstuffed text)
unfolding unstuffed
data_some [] some = absurd (omega (arith, some))
data_some (level ∷ older) some =
    some_left (five_equal older) level (unstuffed older) (λ five. data_some older (five_are_some older five))

-- what the bit behind a text is that has no more levels than stand before RTR
pub front_is_sof : (text : List Bool) (rtr : ℕ) → length text ≡ 0 → SaysBit Other text rtr
front_is_sof text rtr none = (
  λ same some few. omega (arith, data_few text, none, some),
  λ five few. omega (arith, five_are_some text five, none),
)

pub front_stuffs : (text : List Bool) (rtr : ℕ) → length text ≤ rtr → five_equal text ≡ true →
    SaysBit ArbitrationStuffBit text rtr
front_stuffs text rtr few five = (five, omega (arith, data_few text, few))

pub front_arbitrates : (text : List Bool) (rtr : ℕ) → length text ≤ rtr → 0 < length text → five_equal text ≡ false →
    SaysBit Arbitration text rtr
front_arbitrates text rtr few some no_five = (no_five, data_some text some, omega (arith, data_few text, few))
