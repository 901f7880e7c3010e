-- What the fields of an `Id` stand for.
use Rattle.std.specs.Prelude.{true, false}
use Rattle.can_frame.specs.Frames.{Identifier, standard, extended, identifier_of}
use Rattle.can_frame.specs.declared.identifier.Id.TheInside.{Inside}

abbrev pub id_view : Inside → Identifier
id_view a = identifier_of a.is_extended a.number

abbrev pub id_parts : Identifier → Inside
id_parts (standard n) = record { number = n; is_extended = false }
id_parts (extended n) = record { number = n; is_extended = true }
