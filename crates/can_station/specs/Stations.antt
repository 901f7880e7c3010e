-- What a station does at a bit. Private clauses cite it.
use Rattle.std.specs.Prelude.{◌≡◌, ℕ, ◌&&◌, Bool, true, false, Option, Some, None, is_some}
use Rattle.can_frame.specs.Frames.{FrameValue}
use Rattle.can_node.specs.Histories.{Past}
use Rattle.can_node.specs.Node.{StandsAfter, IsSending, IsWanting, bit_of, with_begin}
use Rattle.can_station.specs.declared.event.Label.{Label}
use Rattle.can_station.specs.declared.station.Station.{Station}

-- it begins to send this frame of this request
pub record IsStart (old new : Station) (frame : FrameValue) (label : Option Label) : Type 0 where
  pub start : ℕ
  pub sending_is : new.sending ≡ Some (record { start = start; frame = frame; label = label })
  pub completed_is : new.completed ≡ old.completed
  pub bit_is : bit_of new.node ≡ bit_of old.node
  pub stands : (past : Past) → StandsAfter old.node past → StandsAfter new.node (with_begin past frame)
  pub sends : (past : Past) → StandsAfter old.node past → IsSending (with_begin past frame) (Some start)

-- A talker begins its next frame or not, whatever past its node stands after: it begins exactly where it wants to start
-- and has this next frame.
pub record IsTalk (old new : Station) (next : Option FrameValue) (began : Bool) : Type 0 where
  pub begins : began ≡ true → (frame : FrameValue) × (next ≡ Some frame) × IsStart old new frame None
  pub stays : began ≡ false → new ≡ old
  pub wants : (past : Past) → StandsAfter old.node past → (wanting : Bool) × IsWanting past wanting
      × (began ≡ (wanting && is_some next))

-- A controller takes its next request or not: it begins only where it wants to start.
pub record IsRequest (old new : Station) (began : Bool) : Type 0 where
  pub begins : began ≡ true → (frame : FrameValue) × (label : Label) × IsStart old new frame (Some label)
  pub stays : began ≡ false → new ≡ old
  pub wants : began ≡ true → (past : Past) → StandsAfter old.node past → IsWanting past true
