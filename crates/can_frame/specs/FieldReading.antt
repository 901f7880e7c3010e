-- Fields of a text by their places. Private clauses cite it.
use Rattle.std.specs.Prelude.{ℕ, zero, suc, ◌+◌, ◌*◌, ◌^◌, Bool, true}
use Rattle.std.specs.Prelude.{false, List, [], ◌∷◌, get_or, if◌then◌else◌, nat_le}
use Rattle.can_frame.specs.Frames.{Identifier, standard, extended, content_of, FrameValue}

-- a level as a digit
abbrev pub digit : Bool → ℕ
digit false = 0
digit true = 1

-- the number at a place, the most significant level first; past the end of the text levels are dominant
unfoldable pub number_at : List Bool → ℕ → ℕ → ℕ
number_at u start zero = 0
number_at u start (suc width) = number_at u start width * 2 + digit (get_or u (start + width) false)

-- so many bytes from a place on
unfoldable pub bytes_at : List Bool → ℕ → ℕ → List ℕ
bytes_at u start zero = []
bytes_at u start (suc k) = number_at u start 8 ∷ bytes_at u (start + 8) k

-- the levels of IDE and of RTR, and the place behind the DLC field
abbrev pub ide : List Bool → Bool
ide u = get_or u 13 false

abbrev pub rtr_at : Bool → List Bool → Bool
rtr_at true u = get_or u 32 false
rtr_at false u = get_or u 12 false

abbrev pub base_at : Bool → ℕ
base_at true = 39
base_at false = 19

abbrev pub code_at : Bool → List Bool → ℕ
code_at true u = number_at u 35 4
code_at false u = number_at u 15 4

-- a DLC field of 9 to 15 counts as 8
abbrev pub at_most_eight : ℕ → ℕ
at_most_eight n = if nat_le 8 n then 8 else n

-- how many bytes follow the DLC field: none in a remote frame
abbrev pub bytes_length : Bool → ℕ → ℕ
bytes_length true code = 0
bytes_length false code = code

-- the identifier, by IDE
abbrev pub id_at : Bool → List Bool → Identifier
id_at true u = extended (number_at u 1 11 * 2 ^ 18 + number_at u 14 18)
id_at false u = standard (number_at u 1 11)

-- length and frame of the fields, by IDE
abbrev pub length_by : Bool → List Bool → ℕ
length_by b u = base_at b + 8 * bytes_length (rtr_at b u) (at_most_eight (code_at b u))

abbrev pub frame_by : Bool → List Bool → FrameValue
frame_by b u = record {
  id = id_at b u;
  content = content_of (rtr_at b u) (at_most_eight (code_at b u))
      (bytes_at u (base_at b) (at_most_eight (code_at b u)));
}

-- how long the fields of a text are that begins so
abbrev pub fields_length : List Bool → ℕ
fields_length u = length_by (ide u) u

-- the frame that a text with these fields stands for
abbrev pub frame_at : List Bool → FrameValue
frame_at u = frame_by (ide u) u
