use Rattle.std.proofs.Common.{◌∙◌, ap, sym, Ok}
use Rattle.can_frame.specs.Fields.{bytes_of}
use Rattle.bx_words.proofs.Unpacking.{made_remote, remote_frame, data_frame, code_is, bytes_are, given}
use Rattle.bx_words.proofs.payloads.frame_in.Goals.{then-is_remote, else-is_remote}
use Rattle.bx_words.proofs.payloads.frame_in.Goals as goal

pub returns : goal.returns
returns c = λ f n p.
    let id_is = c.id_in-id.ensures f n p.head_is in
    let code = c.code_in-code.ensures.value f n p.head_is in
    let remote = c.is_remote.ensures f n p.head_is in
    given c.if-is_remote.frame _ c.unwrap_or_default.result f c.unwrap_or_default.ensures (elim c.if-is_remote.branch [
      | then-is_remote w ↦
          let made = made_remote w.remote-frame.result _ c.id_in-id.result c.code_in-code.result
          c.code_in-code.ensures.few w.remote-frame.ensures in
          w.frame-is ∙ made ∙ ap Ok (remote_frame f _ _ (sym remote ∙ w.if-is_remote.true) id_is code)
      | else-is_remote w ↦
          let plain = sym remote ∙ w.if-is_remote.false in
          let made = w.data_frame-frame.ensures (bytes_of f.content) (bytes_are f.content p.head_is.lawful.bytes)
          (code ∙ code_is f.content plain) p.bytes_are in
          w.frame-is ∙ made ∙ ap Ok (data_frame f _ plain id_is)
    ])
