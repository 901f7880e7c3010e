-- Frames with the same fields are the same frame.
use Rattle.std.proofs.Common.{◌≡◌, length, take, sym, ap, ◌∙◌}
use Rattle.std.proofs.Math.Seq.{take-append_seam}
use Rattle.can_frame.specs.Frames.{Identifier, standard, extended, Content, data_bytes, remote_code, FrameValue}
use Rattle.can_frame.specs.Frames.{is_extended_id, number_of}
use Rattle.can_frame.specs.FrameParts.{padded, cells_of, dlc_of, remote_of}

pub same_identifier : (a b : Identifier) → number_of a ≡ number_of b → is_extended_id a ≡ is_extended_id b → a ≡ b
same_identifier (standard m) (standard n) number format = ap standard number
same_identifier (standard m) (extended n) number format = absurd (cc format)
same_identifier (extended m) (standard n) number format = absurd (cc format)
same_identifier (extended m) (extended n) number format = ap extended number

pub same_content : (a b : Content) → remote_of a ≡ remote_of b → dlc_of a ≡ dlc_of b → cells_of a ≡ cells_of b → a ≡ b
same_content (data_bytes xs) (data_bytes ys) kind code cells =
    ap data_bytes (sym (take-append_seam xs _) ∙ ap (λ bs. take (length xs) bs) cells
    ∙ ap (λ n. take n (padded ys)) code ∙ take-append_seam ys _)
same_content (data_bytes xs) (remote_code n) kind code cells = absurd (cc kind)
same_content (remote_code m) (data_bytes ys) kind code cells = absurd (cc kind)
same_content (remote_code m) (remote_code n) kind code cells = ap remote_code code

pub same_frame : (a b : FrameValue) → a.id ≡ b.id → a.content ≡ b.content → a ≡ b
same_frame a b id content =
    ap (λ i. record { id = i; content = a.content }) id ∙ ap (λ c. record { id = b.id; content = c }) content
