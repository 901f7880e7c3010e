-- The text of a frame is ASCII.
use Rattle.std.proofs.Common.{ℕ, zero, suc, ◌+◌, ◌%◌, ◌<◌, ◌≤◌, Bool, true, false, cond, List, [], ◌∷◌, ◌++◌, ◌-◌}
use Rattle.std.proofs.Common.{length, replicate, codes, nat_eq, nat_lt, arith, rules, ◌/◌}
use Rattle.std.specs.List.{flat_map}
use Rattle.std.specs.Str.{IsAscii, IsUtf8}
use Rattle.std.specs.Fmt.{digits, digits_onto, digit_glyph}
use Rattle.std.proofs.lemmas.Str.{IsAscii-append, IsUtf8-from_ascii}
use Rattle.std.proofs.lemmas.Str.Ascii.{IsAscii-nil, IsAscii-cons, IsAscii-from_all}
use Rattle.can_frame.specs.Frames.{Identifier, standard, extended, Content, data_bytes, remote_code, FrameValue}
use Rattle.gw_script.specs.FrameTexts.{hexadecimal, identifier_text, bytes_text, content_text, frame_text}

either : (b : Bool) (xs ys : List ℕ) → IsAscii xs → IsAscii ys → IsAscii (cond b xs ys)
either true xs ys p q = p
either false xs ys p q = q

digit_glyph-small : (b : Bool) (d : ℕ) → d < 16 → cond b (48 + d) (87 + d) < 128
digit_glyph-small true d few = omega arith
digit_glyph-small false d few = omega arith

onto-IsAscii : (count base n : ℕ) (behind : List ℕ) → 0 < base → base ≤ 16 → IsAscii behind →
    IsAscii (digits_onto count base false n behind)
onto-IsAscii zero base n behind some few is = is
onto-IsAscii (suc count) base n behind some few is =
    let last : List ℕ = digit_glyph false (n % base) ∷ behind in
    let more : IsAscii last =
    IsAscii-cons _ behind (digit_glyph-small (nat_lt (n % base) 10) (n % base) (omega arith)) is in
    either (nat_eq (n / base) 0) last (digits_onto count base false (n / base) last) more
    (onto-IsAscii count base (n / base) last some few more)

digits-IsAscii : (base n : ℕ) → 0 < base → base ≤ 16 → IsAscii (digits base false n)
unfolding digits
digits-IsAscii base n some few = onto-IsAscii 64 base n [] some few IsAscii-nil

zeros-IsAscii : (count : ℕ) → IsAscii (replicate count 48)
zeros-IsAscii zero = IsAscii-nil
zeros-IsAscii (suc count) = IsAscii-cons 48 _ (omega arith) (zeros-IsAscii count)

hexadecimal-IsAscii : (width n : ℕ) → IsAscii (hexadecimal width n)
hexadecimal-IsAscii width n = IsAscii-append _ _ (zeros-IsAscii (width - length (digits 16 false n)))
    (digits-IsAscii 16 n (omega arith) (omega arith))

pairs-IsAscii : (bytes : List ℕ) → IsAscii (flat_map (hexadecimal 2) bytes)
pairs-IsAscii [] = IsAscii-nil
pairs-IsAscii (b ∷ bs) = IsAscii-append _ _ (hexadecimal-IsAscii 2 b) (pairs-IsAscii bs)

identifier-IsAscii : (id : Identifier) → IsAscii (identifier_text id)
identifier-IsAscii (standard n) = hexadecimal-IsAscii 3 n
identifier-IsAscii (extended n) = hexadecimal-IsAscii 8 n

bytes-IsAscii : (bytes : List ℕ) → IsAscii (bytes_text bytes)
bytes-IsAscii [] = IsAscii-from_all (codes "-") (search rules)
bytes-IsAscii (b ∷ bs) = pairs-IsAscii (b ∷ bs)

content-IsAscii : (content : Content) → IsAscii (content_text content)
content-IsAscii (data_bytes bytes) =
    IsAscii-append (codes "data ") _ (IsAscii-from_all (codes "data ") (search rules)) (bytes-IsAscii bytes)
content-IsAscii (remote_code code) = IsAscii-append (codes "remote ") _
    (IsAscii-from_all (codes "remote ") (search rules)) (digits-IsAscii 10 code (omega arith) (omega arith))

pub frame-IsUtf8 : (f : FrameValue) → IsUtf8 (frame_text f)
frame-IsUtf8 f = IsUtf8-from_ascii _ (IsAscii-append (identifier_text f.id ++ codes " ") _
    (IsAscii-append _ (codes " ") (identifier-IsAscii f.id) (IsAscii-from_all (codes " ") (search rules)))
    (content-IsAscii f.content))
