-- How a text of levels ends. Texts have their newest level first.
use Rattle.std.specs.Prelude.{◌≡◌, ℕ, suc, ◌+◌, min, nat_le, Bool, List, [], ◌∷◌, if◌then◌else◌}
use Rattle.can_frame.specs.Stuffing.{same, newest}
use Rattle.can_frame.specs.declared.level_run.LevelRun.{LevelRun}

-- how many of the newest levels are equal
unfoldable pub run_of : List Bool → ℕ
run_of [] = 0
run_of (x ∷ []) = 1
run_of (x ∷ y ∷ older) = if same x y then suc (run_of (y ∷ older)) else 1

-- the text ends in this run: in so many equal levels, five or more counting as five, and in this one
pub record EndsIn (text : List Bool) (run : LevelRun) : Type 0 where
  pub count_is : run.count ≡ min (run_of text) 5
  pub level_is : run.level ≡ newest text

-- Told of a run alone, whatever text ends in it: whether it is one of five equal levels, its level, and the run behind
-- one level more.
abbrev pub is_full : LevelRun → Bool
is_full run = nat_le 5 run.count

abbrev pub level_of : LevelRun → Bool
level_of run = run.level

abbrev pub run_behind : LevelRun → Bool → LevelRun
run_behind run level = record { count = if same level run.level then min run.count 4 + 1 else 1; level = level }
