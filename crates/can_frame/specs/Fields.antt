-- The fields of a frame from SOF to its last data bit: START OF FRAME, ARBITRATION FIELD, CONTROL FIELD and
-- DATA FIELD of Bosch CAN Specification 2.0, part B, 3.2.1 DATA FRAME.
use Rattle.std.specs.Prelude.{ℕ, ◌+◌, ◌/◌, ◌^◌, ◌==◌, Bool, true, false, List, [], ◌∷◌, ◌++◌, length, if◌then◌else◌}
use Rattle.std.specs.List.{flat_map}
use Rattle.can_frame.specs.Levels.{levels}
use Rattle.can_frame.specs.Frames.{Identifier, standard, extended, Content, data_bytes, remote_code, FrameValue}

-- What a receiver does not check: the levels of SRR, r1 and r0, and how far above 8 the DLC field of a
-- frame with a code of 8 is. The reserved bits are accepted in all combinations (the same section,
-- Reserved bits); a data length code of 9 to 15 stands for eight bytes (ISO 11898-1).
pub record Unchecked : Type 0 where
  pub srr : Bool
  pub r1 : Bool
  pub r0 : Bool
  pub over : ℕ

-- what a sender drives there: SRR recessive, the reserved bits dominant, and 8 for 8
abbrev pub senders_choice : Unchecked
senders_choice = record { srr = true; r1 = false; r0 = false; over = 0 }

-- RTR: dominant in a data frame, recessive in a remote frame
abbrev pub is_remote : Content → Bool
is_remote (data_bytes bytes) = false
is_remote (remote_code code) = true

-- the data length code
abbrev pub length_code : Content → ℕ
length_code (data_bytes bytes) = length bytes
length_code (remote_code code) = code

-- what stands in the data field
abbrev pub bytes_of : Content → List ℕ
bytes_of (data_bytes bytes) = bytes
bytes_of (remote_code code) = []

-- the DLC field: a code of 8 may stand as any number from 8 to 15
abbrev pub code_field : ℕ → ℕ → ℕ
code_field over code = if code == 8 then 8 + over else code

-- Identifier, RTR, IDE and the reserved bits. Standard: identifier, RTR, IDE, r0. Extended: the upper 11
-- bits of the identifier, SRR, IDE, its lower 18, RTR, r1, r0.
abbrev pub head_levels : Identifier → Bool → Unchecked → List Bool
head_levels (standard n) remote x = levels 11 n ++ (remote ∷ false ∷ x.r0 ∷ [])
head_levels (extended n) remote x = levels 11 (n / 2 ^ 18) ++ (x.srr ∷ true ∷ []) ++ levels 18 n
    ++ (remote ∷ x.r1 ∷ x.r0 ∷ [])

-- SOF, identifier and control bits, the four bits of the data length code, and the bytes
abbrev pub fields : FrameValue → Unchecked → List Bool
fields f x = (false ∷ []) ++ head_levels f.id (is_remote f.content) x
    ++ levels 4 (code_field x.over (length_code f.content)) ++ flat_map (levels 8) (bytes_of f.content)
