-- A talker's queue: which frame the talker may begin at a bit.
use Rattle.std.specs.Prelude.{◌≡◌, ℕ, ◌<◌, nat_le, Option, Some, None, List, slice_get, option_and_then, if◌then◌else◌}
use Rattle.can_frame.specs.Frames.{FrameValue}
use Rattle.can_station.specs.declared.due_frame.DueFrame.{DueFrame}

-- a frame of the queue from the bit on at which it is due
abbrev pub from_due : ℕ → DueFrame → Option FrameValue
from_due bit one = if nat_le one.due bit then Some one.frame else None

-- The frame that a talker which completed this many may begin at this bit: the next one of its queue, if it is due.
abbrev pub due_at : List DueFrame → ℕ → ℕ → Option FrameValue
due_at queue completed bit = option_and_then (from_due bit) (slice_get queue completed)

-- a talker that completed this many has no frame to begin before this bit
abbrev pub IsNotDueBefore : List DueFrame → ℕ → ℕ → Type 0
IsNotDueBefore queue completed limit = (bit : ℕ) → bit < limit → due_at queue completed bit ≡ None
