use Rattle.std.proofs.Common.{◌∙◌, ap, length, take, arith, ◌≤◌}
use Rattle.std.specs.Int.{to_le_bytes, w64}
use Rattle.bx_words.proofs.Unpacking.{first_bytes, made}
use Rattle.bx_words.proofs.payloads.data_frame.Goals as goal

pub returns : goal.returns
returns c = λ all are long is.
    let few : length all ≤ 8 = omega (arith, c.requires, long) in
    let cells = c.to_le_bytes-cells.ensures ∙ ap (to_le_bytes w64) is in
    let same = ap (λ n. take n c.to_le_bytes-cells.result) (c.from.ensures ∙ long) ∙ ap (take (length all)) cells
    ∙ first_bytes all are few in
    made c.with_bytes.result _ c.args.id _ all same few c.with_bytes.ensures
