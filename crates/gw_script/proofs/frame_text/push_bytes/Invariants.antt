use Rattle.std.proofs.Common.{◌≡◌, ◌+◌, ◌*◌, ◌++◌, length, take}
use Rattle.std.specs.List.{flat_map}
use Rattle.gw_script.specs.FrameTexts.{hexadecimal}
use Rattle.gw_script.proofs.frame_text.push_bytes.Given as goal

abbrev pub invariant-loop-byte : goal.invariant-loop-byte
invariant-loop-byte l = record {
  said : l.text.items ≡ l.fn.text.items ++ flat_map (hexadecimal 2) (take l.byte-index l.bytes);
  long : length l.text.items ≡ length l.fn.text.items + 2 * l.byte-index;
}
