-- A data length code has one digit.
use Rattle.std.proofs.Common.{◌≡◌, ℕ, ◌+◌, ◌≤◌, [], ◌∷◌, ◌++◌, true, codes, arith, append_assoc}
use Rattle.std.proofs.lemmas.Fmt.{decimal_digit}
use Rattle.can_frame.specs.Frames.{Content, data_bytes, remote_code}
use Rattle.can_frame.specs.Fields.{is_remote, length_code}
use Rattle.gw_script.specs.FrameTexts.{content_text}
use Rattle.gw_script.proofs.frame_text.write_frame.Goals as goal

remote-text : (content : Content) (code : ℕ) → true ≡ is_remote content → code ≡ length_code content → code ≤ 8 →
    content_text content ≡ codes "remote " ++ ((48 + code) ∷ [])
remote-text (data_bytes bytes) code is same few = cc
remote-text (remote_code k) code is same few = rw (← same, decimal_digit code (omega arith))

pub returns-then-is_remote : goal.returns-then-is_remote
returns-then-is_remote c =
    rw (
      remote-text c.args.frame.now.content c.dlc.result c.if-is_remote.ensures c.dlc.ensures.value c.dlc.ensures.few,
      c.push.ensures.items,
      c.push_word.ensures,
      c.push_identifier.ensures.items,
      c.requires,
      c.id.ensures,
    )
    (simp append_assoc)
