-- Two payload words are those of one frame and one number.
use Rattle.std.proofs.Common.{◌≡◌, ◌∙◌, ap, sym, refl, ℕ, ◌+◌, ◌*◌, ◌^◌, ◌<◌, ◌≤◌, length}
use Rattle.std.proofs.Common.{take, Bool, true, false, arith}
use Rattle.std.specs.Int.{to_le_bytes, w64}
use Rattle.can_frame.specs.Frames.{Identifier, standard, extended, Content, FrameValue, IsIdentifier, IsContent}
use Rattle.can_frame.specs.Frames.{AreBytes, data_bytes, remote_code, number_of, is_extended_id}
use Rattle.can_frame.specs.Fields.{is_remote, length_code}
use Rattle.bx_words.specs.Payloads.{bit_of, little_endian, bytes_word, ArePacked}
use Rattle.bx_words.proofs.Unpacking.{first_bytes}

below_29 : (id : Identifier) → IsIdentifier id → number_of id < 2 ^ 29
below_29 (standard n) h = omega arith
below_29 (extended n) h = h

code_below : (c : Content) → IsContent c → length_code c ≤ 8
code_below (data_bytes bytes) h = h
code_below (remote_code code) h = h

bit_below : (b : Bool) → bit_of b < 2
bit_below true = omega arith
bit_below false = omega arith

bit_back : (a b : Bool) → bit_of a ≡ bit_of b → a ≡ b
bit_back true true e = refl
bit_back true false e = absurd (omega arith)
bit_back false true e = absurd (omega arith)
bit_back false false e = refl

same_identifier : (i j : Identifier) → is_extended_id i ≡ is_extended_id j → number_of i ≡ number_of j → i ≡ j
same_identifier (standard a) (standard b) e n = ap standard n
same_identifier (standard a) (extended b) e n = cc
same_identifier (extended a) (standard b) e n = cc
same_identifier (extended a) (extended b) e n = ap extended n

same_content : (c d : Content) → IsContent c → IsContent d → AreBytes c → AreBytes d → is_remote c ≡ is_remote d →
    length_code c ≡ length_code d →
    bytes_word (record { id = standard 0; content = c }) ≡ bytes_word (record { id = standard 0; content = d }) → c ≡ d
same_content (data_bytes xs) (data_bytes ys) a b are are_too e n w =
    ap data_bytes (sym (first_bytes xs are a) ∙ ap (λ k. take k (to_le_bytes w64 (little_endian xs))) n
    ∙ ap (λ x. take (length ys) (to_le_bytes w64 x)) w ∙ first_bytes ys are_too b)
same_content (data_bytes xs) (remote_code k) a b are are_too e n w = cc
same_content (remote_code k) (data_bytes ys) a b are are_too e n w = cc
same_content (remote_code k) (remote_code j) a b are are_too e n w = ap remote_code n

-- the five fields of a head
record HasFields (i e r c n j f s d m : ℕ) : Type 0 where
  pub identifier : i ≡ j
  pub format : e ≡ f
  pub remote : r ≡ s
  pub code : c ≡ d
  pub number : n ≡ m

fields_of : (i e r c n j f s d m : ℕ) → i < 2 ^ 29 → j < 2 ^ 29 → e < 2 → f < 2 → r < 2 → s < 2 → c ≤ 8 → d ≤ 8 →
    i + e * 2 ^ 29 + r * 2 ^ 30 + c * 2 ^ 31 + n * 2 ^ 35 ≡ j + f * 2 ^ 29 + s * 2 ^ 30 + d * 2 ^ 31 + m * 2 ^ 35 →
    HasFields i e r c n j f s d m
fields_of i e r c n j f s d m a b g h k l o p is = record {
  identifier = omega arith;
  format = omega arith;
  remote = omega arith;
  code = omega arith;
  number = omega arith;
}

same_frame : (f g : FrameValue) → f.id ≡ g.id → f.content ≡ g.content → f ≡ g
same_frame f g a b = λ k. record { id = a k; content = b k }

pub packed_once : (f g : FrameValue) (n m head bytes : ℕ) → ArePacked f n head bytes → ArePacked g m head bytes →
    (f ≡ g) × (n ≡ m)
packed_once f g n m head bytes a b =
    let h = a.head_is in
    let k = b.head_is in
    let t = fields_of (number_of f.id) (bit_of (is_extended_id f.id)) (bit_of (is_remote f.content))
    (length_code f.content) n
    (number_of g.id) (bit_of (is_extended_id g.id)) (bit_of (is_remote g.content)) (length_code g.content) m
    (below_29 f.id h.lawful.identifier) (below_29 g.id k.lawful.identifier) (bit_below (is_extended_id f.id))
    (bit_below (is_extended_id g.id))
    (bit_below (is_remote f.content)) (bit_below (is_remote g.content)) (code_below f.content h.lawful.content)
    (code_below g.content k.lawful.content) (sym h.is ∙ k.is) in (
      same_frame f g (same_identifier f.id g.id (bit_back (is_extended_id f.id) (is_extended_id g.id) t.format)
          t.identifier)
          (same_content f.content g.content h.lawful.content k.lawful.content h.lawful.bytes k.lawful.bytes
          (bit_back (is_remote f.content) (is_remote g.content) t.remote) t.code (sym a.bytes_are ∙ b.bytes_are)),
      t.number,
    )
