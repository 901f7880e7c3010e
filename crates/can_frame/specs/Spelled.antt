-- What the fields of a `Spelled` have in common.
use Rattle.std.specs.Prelude.{◌≡◌, Some}
use Rattle.can_frame.specs.Frames.{FrameValue}
use Rattle.can_frame.specs.Sending.{IsSpelling}
use Rattle.can_frame.specs.declared.spelled.Spelled.TheInside.{Inside}

-- a frame that is kept is the one that is spelt
pub record IsSpelled (a : Inside) : Type 0 where
  pub spells : (frame : FrameValue) → a.frame ≡ Some frame → IsSpelling frame a.spelling
