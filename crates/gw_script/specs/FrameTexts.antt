-- A frame as a line shows it.
use Rattle.std.specs.Prelude.{ℕ, ◌-◌, false, List, [], ◌∷◌, ◌++◌, length, replicate, codes}
use Rattle.std.specs.List.{flat_map}
use Rattle.std.specs.Fmt.{decimal, digits}
use Rattle.can_frame.specs.Frames.{Identifier, standard, extended, Content, data_bytes, remote_code, FrameValue}

-- n in lower-case hexadecimal, with zeros in front where it has fewer than `width` digits
abbrev pub hexadecimal : ℕ → ℕ → List ℕ
hexadecimal width n = replicate (width - length (digits 16 false n)) 48 ++ digits 16 false n

-- three digits of a standard identifier, eight of an extended one
abbrev pub identifier_text : Identifier → List ℕ
identifier_text (standard n) = hexadecimal 3 n
identifier_text (extended n) = hexadecimal 8 n

-- two digits a byte, and a dash for none
abbrev pub bytes_text : List ℕ → List ℕ
bytes_text [] = codes "-"
bytes_text (b ∷ bs) = flat_map (hexadecimal 2) (b ∷ bs)

abbrev pub content_text : Content → List ℕ
content_text (data_bytes bytes) = codes "data " ++ bytes_text bytes
content_text (remote_code code) = codes "remote " ++ decimal code

abbrev pub frame_text : FrameValue → List ℕ
frame_text f = identifier_text f.id ++ codes " " ++ content_text f.content
