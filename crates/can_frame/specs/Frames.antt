-- Frames of classical CAN, as contracts see them. Bosch CAN Specification 2.0, part B, 3.1 Frame Formats
-- and 3.2 Frame Types.
use Rattle.std.specs.Prelude.{ℕ, ◌<◌, ◌^◌, ◌≤◌, List, [], ◌∷◌, length, Bool, true, false}

-- an identifier of the standard or of the extended format, as a number
pub data Identifier : Type 0 where
  standard : ℕ → Identifier
  extended : ℕ → Identifier

-- the bytes of a data frame, or the data length code of a remote frame, which carries no bytes
pub data Content : Type 0 where
  data_bytes : List ℕ → Content
  remote_code : ℕ → Content

-- a frame: what is sent in its identifier, its control field and its data field
pub record FrameValue : Type 0 where
  pub id : Identifier
  pub content : Content

-- the identifier of this number in the extended format (true) or in the standard one
abbrev pub identifier_of : Bool → ℕ → Identifier
identifier_of true n = extended n
identifier_of false n = standard n

-- 11 bits in the standard format, 29 in the extended one
abbrev pub IsIdentifier : Identifier → Type 0
IsIdentifier (standard n) = n < 2 ^ 11
IsIdentifier (extended n) = n < 2 ^ 29

-- the content of a remote frame (true) or of a data frame
abbrev pub content_of : Bool → ℕ → List ℕ → Content
content_of true code bytes = remote_code code
content_of false code bytes = data_bytes bytes

-- at most eight bytes, or a length code of at most 8
abbrev pub IsContent : Content → Type 0
IsContent (data_bytes bytes) = length bytes ≤ 8
IsContent (remote_code code) = code ≤ 8

-- whether the identifier is of the extended format
abbrev pub is_extended_id : Identifier → Bool
is_extended_id (standard n) = false
is_extended_id (extended n) = true

-- the identifier as a number
abbrev pub number_of : Identifier → ℕ
number_of (standard n) = n
number_of (extended n) = n

-- each number is a byte
abbrev pub AllBytes : List ℕ → Type 0
AllBytes [] = Unit {0}
AllBytes (b ∷ bs) = (b < 256) × AllBytes bs

-- the bytes of a data frame are bytes
abbrev pub AreBytes : Content → Type 0
AreBytes (data_bytes bytes) = AllBytes bytes
AreBytes (remote_code code) = Unit {0}

-- A lawful frame: an identifier that fits, at most eight bytes or a code of at most 8, and each byte a byte.
pub record IsFrameValue (f : FrameValue) : Type 0 where
  pub identifier : IsIdentifier f.id
  pub content : IsContent f.content
  pub bytes : AreBytes f.content
