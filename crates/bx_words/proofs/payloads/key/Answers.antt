use Rattle.std.proofs.Common.{◌∙◌, ap}
use Rattle.can_frame.specs.Keys.{key_by}
use Rattle.bx_words.proofs.payloads.key.Goals as goal

pub returns : goal.returns
returns c = λ f n is. c.arbitration_key.ensures ∙ ap (λ id. key_by id c.is_remote.result) (c.id_in.ensures f n is)
    ∙ ap (λ remote. key_by f.id remote) (c.is_remote.ensures f n is)
