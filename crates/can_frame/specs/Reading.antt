-- What a reader holds after a text, and what a push does. Contracts cite `StandsAfter`, `IsReading`,
-- `HasAnswered` and `IsPush`; the rest is how a reader keeps them.
use Rattle.std.specs.Prelude.{◌≡◌, ◌⊎◌, ℕ, ◌+◌, ◌≤◌, ◌<◌, nat_lt, if◌then◌else◌, Bool, true, false, not, List}
use Rattle.std.specs.Prelude.{[], ◌∷◌, ◌++◌, length, reverse, take, drop, get_or}
use Rattle.can_frame.specs.Frames.{FrameValue}
use Rattle.can_frame.specs.Fields.{Unchecked, fields}
use Rattle.can_frame.specs.Crc.{IsCrc}
use Rattle.can_frame.specs.Stuffing.{five_equal, IsStuffed, unstuffed}
use Rattle.can_frame.specs.LevelRuns.{EndsIn, is_full, level_of, run_behind}
use Rattle.can_frame.specs.Fronts.{IsRegion, front_tail}
use Rattle.can_frame.specs.FieldReading.{fields_length}
use Rattle.can_frame.specs.Answers.{Answers, IsLast, IsUndecided}
use Rattle.can_frame.specs.declared.step.Step.{Step}
use Rattle.can_frame.specs.declared.step.Step.TheVariants.{More, StuffBit, Body, Tail, Taken, Fault}
use Rattle.can_frame.specs.declared.level_run.LevelRun.{LevelRun}
use Rattle.can_frame.specs.declared.reader.Place.{Place}
use Rattle.can_frame.specs.declared.reader.Place.TheVariants.{Region, AfterBody, Ended}
use Rattle.can_frame.specs.declared.reader.Reader.{Reader}

-- w is within the stuffed region, and stands for u
pub record Inside (w u : List Bool) : Type 0 where
  pub stuffed : IsStuffed (reverse w)
  pub stands : unstuffed (reverse w) ≡ reverse u
  pub start : get_or u 0 false ≡ false
  pub unfinished : (length u < fields_length u + 15)
      ⊎ ((length u ≡ fields_length u + 15) × (five_equal (reverse w) ≡ true))

-- within the stuffed region: the text ends in this run, and `levels` are what it stands for
pub record InRegion (run : LevelRun) (levels text : List Bool) : Type 0 where
  pub ends : EndsIn (reverse text) run
  pub inside : Inside text levels

-- behind the stuffed region of f, with `seen` of the levels that follow
pub record InTail (f : FrameValue) (right : Bool) (seen : ℕ) (text : List Bool) : Type 0 where
  pub x : Unchecked
  pub check : List Bool
  pub region : List Bool
  pub ack : Bool
  pub is_region : IsRegion f x check region
  pub is_right : right ≡ true → IsCrc (fields f x) check
  pub is_wrong : right ≡ false → IsCrc (fields f x) check → ⊥
  pub few : seen ≤ 8
  pub whole : text ≡ region ++ take seen (front_tail ack)
  pub good : right ≡ true → 2 ≤ seen → ack ≡ false
  pub bad : right ≡ false → seen ≤ 2

-- the answer came at a beginning of the text, and was the first of its kind
pub record HasEnded (step : Step) (text : List Bool) : Type 0 where
  pub before : List Bool
  pub level : Bool
  pub more : List Bool
  pub whole : text ≡ (before ++ level ∷ []) ++ more
  pub undecided : IsUndecided before
  pub answer : Answers step before level
  pub last : IsLast step

-- what the place says of the text
abbrev pub StandsAt : Place → LevelRun → List Bool → List Bool → Type 0
StandsAt Region run levels text = InRegion run levels text
StandsAt (AfterBody frame right seen) run levels text = InTail frame right seen text
StandsAt (Ended step) run levels text = HasEnded step text

-- the reader stands after this text: it may have been pushed these levels since it was new
abbrev pub StandsAfter : Reader → List Bool → Type 0
StandsAfter r text = StandsAt r.place r.run r.levels.items text

-- neither Taken nor a Fault came yet
abbrev pub IsOpen : Place → Type 0
IsOpen Region = Unit {0}
IsOpen (AfterBody frame right seen) = Unit {0}
IsOpen (Ended step) = ⊥

-- the reader has given no last answer
abbrev pub IsReading : Reader → Type 0
IsReading r = IsOpen r.place

-- the reader has ended with this answer, and gives it again
abbrev pub HasAnswered : Reader → Step → Type 0
HasAnswered r step = r.place ≡ Ended step

-- its last answer is that it takes f
abbrev pub HasTaken : Reader → FrameValue → Type 0
HasTaken r f = HasAnswered r (Taken f)

-- Taken and Fault are the last answers; after the others the reader is still reading
abbrev pub Leaves : Step → Reader → Type 0
Leaves More new = IsReading new
Leaves StuffBit new = IsReading new
Leaves (Body frame right) new = IsReading new
Leaves Tail new = IsReading new
Leaves (Taken frame) new = HasAnswered new (Taken frame)
Leaves (Fault kind) new = HasAnswered new (Fault kind)

-- the answer of a reader that was reading, and where that leaves it
pub record Next (step : Step) (new : Reader) (text : List Bool) (level : Bool) : Type 0 where
  pub answer : Answers step text level
  pub stands : StandsAfter new (text ++ level ∷ [])
  pub leaves : Leaves step new

-- What a push does, whatever text the reader stands after. While it is reading, its answer is the one
-- that fits that text; a reader that has ended gives its last answer again.
pub record IsPush (old : Reader) (level : Bool) (step : Step) (new : Reader) : Type 0 where
  pub next : (text : List Bool) → IsReading old → StandsAfter old text → Next step new text level
  pub stands : (text : List Bool) → StandsAfter old text → StandsAfter new (text ++ level ∷ [])
  pub again : (given : Step) → HasAnswered old given → (step ≡ given) × HasAnswered new given

-- a push within the stuffed region, behind which that goes on
abbrev pub ReadsOn : Reader → Bool → Reader → Type 0
ReadsOn old level new = IsPush old level More new ⊎ IsPush old level StuffBit new

-- so with these levels, one after another
abbrev pub ReadsOnBy : Reader → List Bool → Reader → Type 0
ReadsOnBy old [] new = new ≡ old
ReadsOnBy old (level ∷ levels) new = (mid : Reader) × ReadsOn old level mid × ReadsOnBy mid levels new

-- with this level the stuffed region goes on: there is a push of it behind which it does
abbrev pub MayReadOn : Bool → Reader → Type 0
MayReadOn level reader = (new : Reader) × ReadsOn reader level new

-- it takes this frame with this level: there is a push of it that is answered so
abbrev pub MayTake : Bool → FrameValue → Reader → Type 0
MayTake level frame reader = (new : Reader) × IsPush reader level (Taken frame) new

-- The next level is data, whatever it is: no five equal levels stand before it, and the region doesn't end with it. It
-- is not the first one. This and what follows is told by what the reader holds alone, whatever text it stands after.
pub record WantsData (reader : Reader) : Type 0 where
  pub here : reader.place ≡ Region
  pub is_free : is_full reader.run ≡ false
  pub some : reader.levels.items ≡ [] → ⊥
  pub unfinished : length reader.levels.items + 1 ≡ fields_length reader.levels.items + 15 → ⊥

-- this level is the stuff bit that comes next: it is behind five of the other one, and the region didn't end before it
pub record WantsStuffBit (level : Bool) (reader : Reader) : Type 0 where
  pub here : reader.place ≡ Region
  pub is_due : is_full reader.run ≡ true
  pub is_other : level ≡ not (level_of reader.run)
  pub unfinished : length reader.levels.items ≡ fields_length reader.levels.items + 15 → ⊥

-- With this level it goes on in the region, and what it holds behind it. There is room for the level behind each text
-- that a reader stands after. That `push` answers so is promised apart (`ReadsOn`).
abbrev pub GoesOnWith : Bool → Reader → Type 0
GoesOnWith level reader = WantsData reader ⊎ WantsStuffBit level reader

abbrev pub kept : List Bool → Bool → List Bool
kept levels level = if nat_lt (length levels) 118 then levels ++ level ∷ [] else levels

abbrev pub read_behind : Reader → Bool → Reader
read_behind reader level = record {
  run = run_behind reader.run level;
  levels = if is_full reader.run then reader.levels else record { items = kept reader.levels.items level };
  place = reader.place;
  told = reader.told;
}

-- so with these levels, one after another
abbrev pub GoesOnWithAll : Reader → List Bool → Type 0
GoesOnWithAll reader [] = Unit {0}
GoesOnWithAll reader (level ∷ levels) = GoesOnWith level reader × GoesOnWithAll (read_behind reader level) levels

abbrev pub read_behind_all : Reader → List Bool → Reader
read_behind_all reader [] = reader
read_behind_all reader (level ∷ levels) = read_behind_all (read_behind reader level) levels

-- it goes on with no more than so many of these levels: the next one ends that, if there is one
abbrev pub GoesOnNoLonger : Reader → List Bool → ℕ → Type 0
GoesOnNoLonger reader levels count = count < length levels →
    GoesOnWith (get_or levels count false) (read_behind_all reader (take count levels)) → ⊥

-- the other reader stands after each text after which this one does, and reads on where this one does
pub record StandsAs (one other : Reader) : Type 0 where
  pub stands : (text : List Bool) → StandsAfter one text → StandsAfter other text
  pub reading : IsReading one → IsReading other

-- where an answer behind the region leaves the reader
abbrev pub TailGoes : Step → FrameValue → Bool → ℕ → List Bool → Type 0
TailGoes More f right seen text = ⊥
TailGoes StuffBit f right seen text = ⊥
TailGoes (Body frame ok) f right seen text = ⊥
TailGoes Tail f right seen text = InTail f right (seen + 1) text
TailGoes (Taken frame) f right seen text = Unit {0}
TailGoes (Fault kind) f right seen text = Unit {0}

-- an answer behind the region fits, and where it leaves the reader
pub record TailNext (step : Step) (f : FrameValue) (right : Bool) (seen : ℕ) (text : List Bool)
    (level : Bool) : Type 0 where
  pub answer : Answers step text level
  pub goes : TailGoes step f right seen (text ++ level ∷ [])

-- whether the fifteen levels behind the fields are their CRC
pub record Judges (right : Bool) (text : List Bool) : Type 0 where
  pub is_right : right ≡ true → IsCrc (take (fields_length text) text) (drop (fields_length text) text)
  pub is_wrong : right ≡ false → IsCrc (take (fields_length text) text) (drop (fields_length text) text) → ⊥
