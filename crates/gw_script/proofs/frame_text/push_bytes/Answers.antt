-- One byte more is two digits more.
use Rattle.std.proofs.Common.{ℕ, List, ◌++◌, take, get_or, ap, sym, ◌∙◌, arith}
use Rattle.std.specs.List.{flat_map}
use Rattle.std.proofs.lemmas.List.{flat_map_more, take_more}
use Rattle.gw_script.specs.FrameTexts.{hexadecimal}
use Rattle.gw_script.proofs.frame_text.push_bytes.Goals as goal

pub loop-byte-preserved : goal.loop-byte-preserved
loop-byte-preserved c =
    let bytes = c.args.bytes.now in
    let old = c.args.text.now.items in
    let i = c.loop-byte.byte-index in
    record {
      said = c.push_byte.ensures.items
          ∙ ap (λ (t : List ℕ). t ++ hexadecimal 2 (get_or bytes i 0)) c.loop-byte.invariant.said
          ∙ flat_map_more (hexadecimal 2) old (take i bytes) (get_or bytes i 0)
          ∙ ap (λ xs. old ++ flat_map (hexadecimal 2) xs) (sym (take_more bytes i 0 c.loop-byte-test.true));
      long = omega arith;
    }
