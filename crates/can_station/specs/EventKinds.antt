-- What is reported, apart: which thing it is, its start, its frame and its request.
use Rattle.std.specs.Prelude.{ℕ, Some, None, []}
use Rattle.can_frame.specs.Frames.{FrameValue, standard, data_bytes}
use Rattle.can_node.specs.declared.outcome.ErrorKind.{ErrorKind}
use Rattle.can_node.specs.declared.outcome.ErrorKind.TheVariants as error
use Rattle.can_station.specs.declared.event.Label.{Label}
use Rattle.can_station.specs.declared.event.EventKind.{EventKind}
use Rattle.can_station.specs.declared.event.EventKind.TheVariants as kinds
use Rattle.can_station.specs.declared.tag.Tag.{Tag}
use Rattle.can_station.specs.declared.tag.Tag.TheVariants as tag

abbrev pub no_frame : FrameValue
no_frame = record { id = standard 0; content = data_bytes [] }

abbrev pub no_label : Label
no_label = record { route = 0; number = 0 }

abbrev pub tag_of_error : ErrorKind → Tag
tag_of_error error.Bit = tag.BitError
tag_of_error error.Stuff = tag.StuffError
tag_of_error error.Form = tag.FormError
tag_of_error error.Ack = tag.AckError
tag_of_error error.Crc = tag.CrcError

-- a part that nothing is reported by is 0
abbrev pub parts_in : EventKind → Tag × ℕ × FrameValue × Label
parts_in (kinds.Started frame None) = (tag.Started, 0, frame, no_label)
parts_in (kinds.Started frame (Some label)) = (tag.StartedRequest, 0, frame, label)
parts_in (kinds.Took start frame) = (tag.Took, start, frame, no_label)
parts_in (kinds.Completed start frame None) = (tag.Completed, start, frame, no_label)
parts_in (kinds.Completed start frame (Some label)) = (tag.CompletedRequest, start, frame, label)
parts_in (kinds.Lost start) = (tag.Lost, start, no_frame, no_label)
parts_in (kinds.Error of) = (tag_of_error of, 0, no_frame, no_label)
parts_in kinds.Off = (tag.Off, 0, no_frame, no_label)
parts_in kinds.Back = (tag.Back, 0, no_frame, no_label)
parts_in (kinds.Reaped label) = (tag.Reaped, 0, no_frame, label)

-- and together
abbrev pub kind_of_parts : Tag → ℕ → FrameValue → Label → EventKind
kind_of_parts tag.Started start frame label = kinds.Started frame None
kind_of_parts tag.StartedRequest start frame label = kinds.Started frame (Some label)
kind_of_parts tag.Took start frame label = kinds.Took start frame
kind_of_parts tag.Completed start frame label = kinds.Completed start frame None
kind_of_parts tag.CompletedRequest start frame label = kinds.Completed start frame (Some label)
kind_of_parts tag.Lost start frame label = kinds.Lost start
kind_of_parts tag.BitError start frame label = kinds.Error error.Bit
kind_of_parts tag.StuffError start frame label = kinds.Error error.Stuff
kind_of_parts tag.FormError start frame label = kinds.Error error.Form
kind_of_parts tag.AckError start frame label = kinds.Error error.Ack
kind_of_parts tag.CrcError start frame label = kinds.Error error.Crc
kind_of_parts tag.Off start frame label = kinds.Off
kind_of_parts tag.Back start frame label = kinds.Back
kind_of_parts tag.Reaped start frame label = kinds.Reaped label
