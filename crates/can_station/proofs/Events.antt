-- Lines of a record, laid out flat and read again.
use Rattle.std.proofs.Common.{ℕ, Some, None, refl}
use Rattle.can_node.specs.declared.outcome.ErrorKind.TheVariants as error
use Rattle.can_station.specs.declared.event.EventKind.{EventKind}
use Rattle.can_station.specs.declared.event.EventKind.TheVariants as kinds
use Rattle.can_station.specs.EventParts.{event_parts, IsEvent}

pub parts_stand : (bit node : ℕ) (what : EventKind) → IsEvent (event_parts (record { bit = bit; node = node; kind = what }))
parts_stand bit node (kinds.Started frame None) = refl
parts_stand bit node (kinds.Started frame (Some label)) = refl
parts_stand bit node (kinds.Took start frame) = refl
parts_stand bit node (kinds.Completed start frame None) = refl
parts_stand bit node (kinds.Completed start frame (Some label)) = refl
parts_stand bit node (kinds.Lost start) = refl
parts_stand bit node (kinds.Error error.Bit) = refl
parts_stand bit node (kinds.Error error.Stuff) = refl
parts_stand bit node (kinds.Error error.Form) = refl
parts_stand bit node (kinds.Error error.Ack) = refl
parts_stand bit node (kinds.Error error.Crc) = refl
parts_stand bit node kinds.Off = refl
parts_stand bit node kinds.Back = refl
parts_stand bit node (kinds.Reaped label) = refl
