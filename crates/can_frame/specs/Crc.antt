-- The CRC sequence, by polynomials over two elements: Bosch CAN Specification 2.0, part B, 3.2.1 DATA
-- FRAME, CRC SEQUENCE. A text is a polynomial, its first level the coefficient of the highest power.
use Rattle.std.specs.Prelude.{◌≡◌, Bool, true, false, not, List, [], ◌∷◌, ◌++◌, length, replicate}

-- the sum of two coefficients, modulo 2
abbrev pub add_level : Bool → Bool → Bool
add_level false y = y
add_level true y = not y

-- The sum of two polynomials whose first levels stand at the same power. Where one ends, zeros follow.
abbrev pub add : List Bool → List Bool → List Bool
add [] ys = ys
add (x ∷ xs) [] = x ∷ xs
add (x ∷ xs) (y ∷ ys) = add_level x y ∷ add xs ys

-- the generator polynomial, x^15 + x^14 + x^10 + x^8 + x^7 + x^4 + x^3 + 1
abbrev pub generator : List Bool
generator =
    true ∷ true ∷ false ∷ false ∷ false ∷ true ∷ false ∷ true ∷ true ∷ false ∷ false ∷ true ∷ true ∷ false ∷ false
    ∷ true ∷ []

-- the copies of the generator that begin where `places` has a 1, added up
unfoldable pub copies : List Bool → List Bool
copies [] = replicate 15 false
copies (false ∷ places) = false ∷ copies places
copies (true ∷ places) = add generator (false ∷ copies places)

-- `check` is the CRC sequence of `text`: fifteen levels such that the text followed by them is a sum of
-- shifted copies of the generator, so that a division by it leaves nothing.
abbrev pub IsCrc : List Bool → List Bool → Type 0
IsCrc text check = (length check ≡ 15) × (places : List Bool) × (length places ≡ length text)
    × (copies places ≡ text ++ check)
