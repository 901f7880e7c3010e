-- An input that is too long has that as its first fault. Else what comes is the answer to the bytes that were read,
-- which are the whole input.
use Rattle.std.proofs.lemmas.Option.{IfSome_then}
use Rattle.gw_fields.specs.Documents.{too_long}
use Rattle.gw_tool.proofs.Endings.{ends_whole, keeps_all, no_document, shown_whole, wants_memory}
use Rattle.gw_tool.proofs.program.carry_out.Goals as goal

pub returns-in-Err-TooLong : goal.returns-in-Err-TooLong
returns-in-Err-TooLong g c = (
  IfSome_then (g.R.Read.remaining c.args.input.now) (c.in-Err-TooLong.ensures.long c.in-Err-TooLong.field-0-is)
      (λ bytes over. no_document c.args.task bytes _ (too_long over)),
  keeps_all (g.W.Write.contents c.args.output.now),
)

pub returns-in-Err-Memory : goal.returns-in-Err-Memory
returns-in-Err-Memory g c = (wants_memory c.args.task, keeps_all (g.W.Write.contents c.args.output.now))

pub returns-in-Err-Read : goal.returns-in-Err-Read
returns-in-Err-Read g c = keeps_all (g.W.Write.contents c.args.output.now)

pub returns : goal.returns
returns g c =
    let input = g.R.Read.remaining c.args.input.now in
    let whole =
    shown_whole input c.in-Ok.bytes.items c.as_slice.result.now c.in-Ok.ensures.whole c.as_slice.ensures.value in
    ends_whole c.args.task c.as_slice.result.now input (g.W.Write.contents c.args.output.now)
    (g.W.Write.contents c.answer_to.new.output) c.answer_to.result whole c.answer_to.ensures
