-- A text that is gathered piece by piece, and written from time to time.
use Rattle.std.specs.Prelude.{◌≡◌, List, ◌++◌, ℕ, Option}
use Rattle.std.specs.Io.KnownBytes.{Appends}

-- Of a whole text the front was written, so that the output grew by it; behind that stands what was gathered since, and
-- then the rest of it.
pub record IsGathered (old now : Option (List ℕ)) (text rest whole : List ℕ) : Type 0 where
  pub front : List ℕ
  pub written : Appends old now front
  pub whole_is : front ++ (text ++ rest) ≡ whole
