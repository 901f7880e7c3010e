use Rattle.bx_words.proofs.payloads.unpack.Goals as goal

pub returns : goal.returns
returns c = λ f n p. (c.frame_in.ensures f n p, c.number_in.ensures f n p.head_is)
