-- What decides which of two frames wins on the bus: Bosch CAN Specification 2.0, part B, 2 BASIC CONCEPTS, Arbitration,
-- and 3.2.1 DATA FRAME, ARBITRATION FIELD.
use Rattle.std.specs.Prelude.{ℕ, ◌+◌, ◌*◌, ◌/◌, ◌%◌, ◌^◌, Bool, if◌then◌else◌}
use Rattle.can_frame.specs.Frames.{Identifier, standard, extended, FrameValue}
use Rattle.can_frame.specs.Fields.{is_remote}

-- RTR as a number
abbrev pub rtr_of : Bool → ℕ
rtr_of remote = if remote then 1 else 0

-- The arbitration field with IDE as a number of 32 bits, its first level the highest bit; a standard frame's is filled
-- up with zeros. Of two frames that start at once, that of the lower number wins. Standard: the identifier in bits 31
-- to 21, RTR in bit 20, IDE (0) in bit 19. Extended: the upper 11 bits of the identifier in bits 31 to 21, SRR and IDE
-- (both 1) in bits 20 and 19, its lower 18 bits in bits 18 to 1, RTR in bit 0.
abbrev pub key_by : Identifier → Bool → ℕ
key_by (standard n) remote = n * 2 ^ 21 + rtr_of remote * 2 ^ 20
key_by (extended n) remote = n / 2 ^ 18 * 2 ^ 21 + 2 ^ 20 + 2 ^ 19 + n % 2 ^ 18 * 2 + rtr_of remote

-- the key of a frame
abbrev pub key_of : FrameValue → ℕ
key_of frame = key_by frame.id (is_remote frame.content)
