-- The two payload words of a mailbox (this project's layout). Head: the identifier in bits 0 to 28, bit 29 for the
-- extended format, bit 30 for a remote frame, the data length code in bits 31 to 34, the request's number in bits 35 to
-- 58. Bytes: byte i in bits 8i to 8i + 7. All other bits are 0.
use Rattle.std.specs.Prelude.{◌≡◌, ℕ, ◌+◌, ◌-◌, ◌*◌, ◌^◌, ◌<◌, Bool, if◌then◌else◌, List, ◌++◌, length, replicate}
use Rattle.std.specs.Int.{from_le_bytes, w64}
use Rattle.can_frame.specs.Frames.{FrameValue, IsFrameValue, number_of, is_extended_id}
use Rattle.can_frame.specs.Fields.{is_remote, length_code, bytes_of}

abbrev pub bit_of : Bool → ℕ
bit_of b = if b then 1 else 0

-- the head of a frame that is requested under a number
abbrev pub head_of : FrameValue → ℕ → ℕ
head_of f n = number_of f.id + bit_of (is_extended_id f.id) * 2 ^ 29 + bit_of (is_remote f.content) * 2 ^ 30
    + length_code f.content * 2 ^ 31 + n * 2 ^ 35

-- bytes in a word, the first in its lowest bits, and zeros behind them
abbrev pub little_endian : List ℕ → ℕ
little_endian bytes = from_le_bytes w64 (bytes ++ replicate (8 - length bytes) 0)

-- those of a frame
abbrev pub bytes_word : FrameValue → ℕ
bytes_word f = little_endian (bytes_of f.content)

-- this is the head of a lawful frame under a number of 24 bits
pub record IsHeadOf (f : FrameValue) (n head : ℕ) : Type 0 where
  pub lawful : IsFrameValue f
  pub small : n < 2 ^ 24
  pub is : head ≡ head_of f n

abbrev pub IsHead : ℕ → Type 0
IsHead head = (f : FrameValue) × ((n : ℕ) × IsHeadOf f n head)

-- these are its two words
pub record ArePacked (f : FrameValue) (n head bytes : ℕ) : Type 0 where
  pub head_is : IsHeadOf f n head
  pub bytes_are : bytes ≡ bytes_word f
