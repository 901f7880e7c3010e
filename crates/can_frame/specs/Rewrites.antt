-- Frames under new identifiers, as a gateway's route sends them on: RTR, the data length code and the bytes stay as
-- they are.
use Rattle.std.specs.Prelude.{nat_eq, Bool, false, List}
use Rattle.std.specs.List.{find}
use Rattle.std.specs.Option.{option_map_or}
use Rattle.can_frame.specs.Frames.{Identifier, standard, extended, FrameValue}
use Rattle.can_frame.specs.declared.rewrite.Rewrite.{Rewrite}

-- two identifiers are the same where format and number are
abbrev pub same_identifier : Identifier → Identifier → Bool
same_identifier (standard m) (standard n) = nat_eq m n
same_identifier (standard m) (extended n) = false
same_identifier (extended m) (standard n) = false
same_identifier (extended m) (extended n) = nat_eq m n

-- the new identifier of the first entry that is for this one, or else this one
abbrev pub replaced : List Rewrite → Identifier → Identifier
replaced entries id = option_map_or (λ (e : Rewrite). e.to)
    (find (λ (e : Rewrite). same_identifier e.from id) entries) id

-- a frame under its new identifier
unfoldable pub rewritten : List Rewrite → FrameValue → FrameValue
rewritten entries frame = record frame { id = replaced entries frame.id }
