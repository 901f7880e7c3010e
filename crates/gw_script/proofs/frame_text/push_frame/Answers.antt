-- A frame's text is text.
use Rattle.gw_script.proofs.Ascii.{frame-IsUtf8}
use Rattle.gw_script.proofs.frame_text.push_frame.Goals as goal

pub unreachable-requires : goal.unreachable-requires
unreachable-requires c =
    c.in-Err.ensures.cases.0 (rw (c.as_slice.ensures.value, c.write_frame.ensures) (frame-IsUtf8 c.args.frame.now))
