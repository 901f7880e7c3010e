-- What a filter compares of a frame: its images, as numbers. RM0008, bxCAN, "Filter bank scale and mode
-- configuration": 32 bits are STID at 31:21, EXID at 20:3, IDE at 2, RTR at 1 and a zero; 16 bits are STID
-- at 15:5, RTR at 4, IDE at 3 and the upper three bits of EXID at 2:0.
use Rattle.std.specs.Prelude.{ℕ, ◌+◌, ◌*◌, ◌/◌, ◌%◌, ◌^◌, Bool, true, false}
use Rattle.can_frame.specs.Frames.{Identifier, standard, extended, FrameValue, is_extended_id}
use Rattle.can_frame.specs.Fields.{is_remote}

-- STID: a standard identifier, or the upper 11 bits of an extended one
abbrev pub stid : Identifier → ℕ
stid (standard n) = n
stid (extended n) = n / 2 ^ 18

-- EXID: the lower 18 bits of an extended identifier; those of a standard frame count as zero
abbrev pub exid : Identifier → ℕ
exid (standard n) = 0
exid (extended n) = n % 2 ^ 18

abbrev pub flag : Bool → ℕ
flag true = 1
flag false = 0

-- IDE: 1 in an extended frame
abbrev pub ide : FrameValue → ℕ
ide f = flag (is_extended_id f.id)

-- RTR: 1 in a remote frame
abbrev pub rtr : FrameValue → ℕ
rtr f = flag (is_remote f.content)

abbrev pub image32 : FrameValue → ℕ
image32 f = stid f.id * 2 ^ 21 + exid f.id * 2 ^ 3 + ide f * 2 ^ 2 + rtr f * 2 ^ 1

abbrev pub image16 : FrameValue → ℕ
image16 f = stid f.id * 2 ^ 5 + rtr f * 2 ^ 4 + ide f * 2 ^ 3 + exid f.id / 2 ^ 15
