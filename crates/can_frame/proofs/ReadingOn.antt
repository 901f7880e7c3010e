-- The levels with which a reader goes on in the stuffed region.
use Rattle.std.proofs.Common.{◌≡◌, ℕ, zero, suc, ◌≤◌, ◌<◌, Bool, false, List, [], ◌∷◌, ◌++◌, length, take, get_or}
use Rattle.std.proofs.Common.{inl, inr, refl, arith}
use Rattle.std.proofs.lemmas.Bool.Decides.{leb_tells}
use Rattle.can_frame.specs.Reading.{GoesOnNoLonger, GoesOnWith, GoesOnWithAll, read_behind, read_behind_all}
use Rattle.can_frame.specs.declared.reader.Reader.{Reader}

-- one level more
pub goes_on-more : (reader : Reader) (levels : List Bool) (level : Bool) → GoesOnWithAll reader levels →
    GoesOnWith level (read_behind_all reader levels) → GoesOnWithAll reader (levels ++ level ∷ [])
goes_on-more reader [] level all one = (one, tt)
goes_on-more reader (x ∷ xs) level all one = (all.0, goes_on-more (read_behind reader x) xs level all.1 one)

pub read_behind-more : (reader : Reader) (levels : List Bool) (level : Bool) →
    read_behind_all reader (levels ++ level ∷ []) ≡ read_behind (read_behind_all reader levels) level
read_behind-more reader [] level = refl
read_behind-more reader (x ∷ xs) level = read_behind-more (read_behind reader x) xs level

-- so with the first of them
pub goes_on-take : (reader : Reader) (n : ℕ) (levels : List Bool) → GoesOnWithAll reader levels →
    GoesOnWithAll reader (take n levels)
goes_on-take reader zero levels h = tt
goes_on-take reader (suc n) [] h = tt
goes_on-take reader (suc n) (level ∷ levels) h = (h.0, goes_on-take (read_behind reader level) n levels h.1)

pub goes_on_at : (reader : Reader) (i : ℕ) (levels : List Bool) → GoesOnWithAll reader levels → i < length levels →
    GoesOnWith (get_or levels i false) (read_behind_all reader (take i levels))
goes_on_at reader i [] h within = absurd (omega (arith, within))
goes_on_at reader zero (x ∷ xs) h within = h.0
goes_on_at reader (suc i) (x ∷ xs) h within = goes_on_at (read_behind reader x) i xs h.1 (omega (arith, within))

-- so it goes on with each of them before it ends
pub reads_all : (reader : Reader) (levels : List Bool) (count : ℕ) → count ≤ length levels →
    GoesOnNoLonger reader levels count → GoesOnWithAll reader levels → count ≡ length levels
reads_all reader levels count few ends all = elim (leb_tells (length levels) count) [
  | inl whole ↦ omega (arith, few, whole.1)
  | inr more ↦
      let within : count < length levels = let less = more.1 in omega (arith, less) in
      absurd (ends within (goes_on_at reader count levels all within))
]
