-- What the fields of a `Frame` stand for.
use Rattle.std.specs.Prelude.{◌≡◌, ℕ, ◌-◌, ◌≤◌, ◌++◌, List, length, take, replicate, Bool, true, false, refl}
use Rattle.can_frame.specs.Frames.{Content, data_bytes, remote_code, content_of, FrameValue}
use Rattle.can_frame.specs.Frames.{identifier_of, IsIdentifier, is_extended_id, number_of}
use Rattle.can_frame.specs.declared.frame.Frame.TheInside.{Inside}

-- the eight cells that hold these bytes
abbrev pub padded : List ℕ → List ℕ
padded bytes = bytes ++ replicate (8 - length bytes) 0

abbrev pub frame_view : Inside → FrameValue
frame_view a = record {
  id = identifier_of a.is_extended a.number;
  content = content_of a.is_remote a.dlc (take a.dlc a.bytes);
}

-- unused cells are 0
abbrev pub cells_of : Content → List ℕ
cells_of (data_bytes bytes) = padded bytes
cells_of (remote_code code) = replicate 8 0

abbrev pub dlc_of : Content → ℕ
dlc_of (data_bytes bytes) = length bytes
dlc_of (remote_code code) = code

abbrev pub remote_of : Content → Bool
remote_of (data_bytes bytes) = false
remote_of (remote_code code) = true

abbrev pub frame_parts : FrameValue → Inside
frame_parts f = record {
  number = number_of f.id;
  is_extended = is_extended_id f.id;
  is_remote = remote_of f.content;
  dlc = dlc_of f.content;
  bytes = cells_of f.content;
}

pub record IsFrame (a : Inside) : Type 0 where
  pub fits : IsIdentifier (identifier_of a.is_extended a.number)
  pub few : a.dlc ≤ 8
  pub unused : a.bytes ≡ cells_of (content_of a.is_remote a.dlc (take a.dlc a.bytes))
  pub eight : dlc_of (content_of a.is_remote a.dlc (take a.dlc a.bytes)) ≡ a.dlc

pub remote-view : (b : Bool) (n : ℕ) (xs : List ℕ) → remote_of (content_of b n xs) ≡ b
remote-view true n xs = refl
remote-view false n xs = refl

pub format-view : (b : Bool) (n : ℕ) → is_extended_id (identifier_of b n) ≡ b
format-view true n = refl
format-view false n = refl

pub number-view : (b : Bool) (n : ℕ) → number_of (identifier_of b n) ≡ n
number-view true n = refl
number-view false n = refl

pub parts-view : (a : Inside) → IsFrame a → frame_parts (frame_view a) ≡ a
parts-view a h = rw (number-view, format-view, remote-view, h.eight, ← h.unused) refl
