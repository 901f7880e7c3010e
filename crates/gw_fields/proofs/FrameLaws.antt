-- Laws of frames as texts.
use Rattle.std.proofs.Common.{◌≡◌, ℕ, ◌<◌, ◌/◌, List, length, codes, refl, arith, Result, Ok, Err}
use Rattle.std.proofs.lemmas.Bool.{lt-leb}
use Rattle.hex.specs.Hex.{decode_of}
use Rattle.hex.specs.declared.error.FromHexError.{FromHexError}
use Rattle.hex.proofs.HexLemmas.{decode_of-ok}
use Rattle.can_frame.specs.Frames.{Identifier}
use Rattle.gw_fields.specs.Faults.{out_of_range}
use Rattle.gw_fields.specs.FrameTexts.{data_text}

-- digits of more than eight bytes
pub too_many_bytes : (id : Identifier) (digits : List ℕ) → 8 < length digits / 2 →
    data_text id digits ≡ Err (out_of_range (codes "frame"))
too_many_bytes id digits many =
    elim (decode_of digits) as (λ (r : Result (List ℕ) FromHexError). decode_of digits ≡ r → data_text id digits
    ≡ Err (out_of_range (codes "frame"))) [
      | Ok bytes ↦ λ is. let h = decode_of-ok digits bytes is in
          let over : 8 < length bytes = omega (arith, h.2) in
          rw (is, lt-leb (length bytes) 8 over) refl
      | Err e ↦ λ is. rw is refl
    ] refl
