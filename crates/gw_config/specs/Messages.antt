-- A message of a talker: a frame that is sent once or several times. Each time is an instance of the message.
use Rattle.std.specs.Prelude.{ℕ, ◌+◌, ◌-◌, ◌/◌, nat_le, min, sum_by, List, [], ◌∷◌, ◌++◌, codes}
use Rattle.std.specs.Prelude.{Option, Some, None, unwrap_or, Result, Ok, Err, if◌then◌else◌}
use Rattle.serde_json.specs.Data.{Data, Items}
use Rattle.serde_json.specs.Find.{get, as_str}
use Rattle.can_frame.specs.Frames.{FrameValue}
use Rattle.gw_config.specs.declared.version.Version.{Version}
use Rattle.gw_config.specs.declared.version.Version.TheVariants.{One, Two, Three}
use Rattle.gw_config.specs.declared.format.Format.{Format}
use Rattle.gw_fields.specs.Faults.{Fault, too_many}
use Rattle.gw_fields.specs.Fields.{◌>>=◌, object_of, text_of, each_after}
use Rattle.gw_fields.specs.Optional.{optional_whole}
use Rattle.gw_fields.specs.Durations.{optional_duration}
use Rattle.gw_fields.specs.Known.{known_fields}
use Rattle.gw_fields.specs.Frames.{frame_of}
use Rattle.gw_fields.specs.FrameTexts.{frame_text}

-- instance k is due at bit at + k * every, for each k below `count`
pub record MessageValue : Type 0 where
  pub frame : FrameValue
  pub at : ℕ
  pub every : ℕ
  pub count : ℕ

-- how many instances these messages have
abbrev pub instances_of : List MessageValue → ℕ
instances_of messages = sum_by (λ (m : MessageValue). m.count) messages

-- a frame that is due once
abbrev pub once : FrameValue → ℕ → MessageValue
once frame at = record { frame = frame; at = at; every = 0; count = 1 }

-- how many of the bits at, at + every, at + 2 * every and so on are below this number of bits
abbrev pub instances_within : ℕ → ℕ → ℕ → ℕ
instances_within bits at every = (bits - at - 1) / every + 1

-- a frame that is due at each of these bits, and at most `times` times where that is given
abbrev pub repeated : ℕ → FrameValue → ℕ → ℕ → Option ℕ → MessageValue
repeated bits frame at every times =
    let within = instances_within bits at every in
    record { frame = frame; at = at; every = every; count = min (unwrap_or times within) within }

-- a message at a bit, which is repeated where `every` is given
abbrev pub timed : ℕ → FrameValue → ℕ → Option ℕ → Option ℕ → MessageValue
timed bits frame at None times = once frame at
timed bits frame at (Some every) times = repeated bits frame at every times

-- `at`, `every` and `times` of a message with this frame
unfoldable pub message_with : Format → FrameValue → Data → Result MessageValue Fault
message_with format frame from = do
  at ← optional_duration (codes "at") 0 (format.bits - 1) format.rate from
  every ← optional_duration (codes "every") 1 100000000 format.rate from
  times ← optional_whole (codes "times") 1 1000000 from
  Ok (timed format.bits frame (unwrap_or at 0) every times)

-- the frame of an object: the text in `frame`, or what the fields `id`, `ext`, `data` and `remote` describe
abbrev pub frame_with : Data → Option Data → Result FrameValue Fault
frame_with from None = frame_of from
frame_with from (Some value) = do
  text ← text_of (codes "frame") value
  frame_text text

-- the known fields of a frame's object, which depend on whether it has the fields `frame` and `every`
abbrev pub frame_fields : Option Data → List (List ℕ)
frame_fields (Some text) = codes "frame" ∷ []
frame_fields None = codes "id" ∷ codes "ext" ∷ codes "data" ∷ codes "remote" ∷ []

abbrev pub time_fields : Option Data → List (List ℕ)
time_fields (Some every) = codes "at" ∷ codes "every" ∷ codes "times" ∷ []
time_fields None = codes "at" ∷ codes "every" ∷ []

abbrev pub message_fields : Option Data → Option Data → List (List ℕ)
message_fields frame every = frame_fields frame ++ time_fields every

-- an element of version 3 that is an object
unfoldable pub object_message : Format → Data → Result MessageValue Fault
object_message format value = do
  from ← object_of (codes "frames") value
  all_known ← known_fields (codes "frames") (message_fields (get (codes "frame") from) (get (codes "every") from)) from
  frame ← frame_with from (get (codes "frame") from)
  message_with format frame from

-- an element of version 3: a text is a frame that is due once, at bit 0
abbrev pub timed_message : Format → Data → Option (List ℕ) → Result MessageValue Fault
timed_message format value None = object_message format value
timed_message format value (Some text) = do
  frame ← frame_text text
  Ok (once frame 0)

-- an element of versions 1 and 2: a frame that is due once, at bit 0
unfoldable pub plain_message : Data → Result MessageValue Fault
plain_message value = do
  from ← object_of (codes "frames") value
  frame ← frame_of from
  Ok (once frame 0)

-- an element of a script of this version
abbrev pub message_of : Version → Format → Data → Result MessageValue Fault
message_of One format value = plain_message value
message_of Two format value = plain_message value
message_of Three format value = timed_message format value (as_str value)

-- in version 3 a message has at most `left` instances
abbrev pub fitting : Version → ℕ → MessageValue → Result MessageValue Fault
fitting One left m = Ok m
fitting Two left m = Ok m
fitting Three left m = if nat_le m.count left then Ok m else Err (too_many (codes "instances"))

-- an element of the list of frames; in version 3 it has at most `left` instances
unfoldable pub next_message : Format → ℕ → Data → Result MessageValue Fault
next_message format left value = do
  message ← message_of format.version format value
  fitting format.version left message

-- the same behind the elements in front of it, where the whole list has at most `left` instances
abbrev pub message_after : Format → ℕ → List MessageValue → Data → Result MessageValue Fault
message_after format left front value = next_message format (left - instances_of front) value

-- the messages of a list of frames
abbrev pub messages_of : Format → ℕ → Items → Result (List MessageValue) Fault
messages_of format left items = each_after (message_after format left) [] items
