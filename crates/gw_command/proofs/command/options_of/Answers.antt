-- The number is read as it was written.
use Rattle.std.proofs.Common.{codes, arith, ◌∙◌}
use Rattle.std.specs.Fmt.{decimal}
use Rattle.std.specs.Str.Parse.{ParsesUnsigned, ExplainsUnsignedError, HasUnsignedDigitsIfOk}
use Rattle.clap.specs.Words.{found_of}
use Rattle.clap.proofs.WalkLemmas.{one_text-rows}
use Rattle.gw_command.proofs.Turns.{reads_decimal}
use Rattle.gw_command.proofs.command.options_of.Goals as goal

pub returns-clause-asked : goal.returns-clause-asked
returns-clause-asked c n turn is none =
    let text_is = one_text-rows (found_of c.args.options.now) (codes "turn") ∙ is in
    let read = c.get_one-turn.ensures.value (decimal n) text_is in
    c.run_of.ensures.asked n
    (reads_decimal (λ bs r. ParsesUnsigned 32 10 bs r × ExplainsUnsignedError 10 bs r × HasUnsignedDigitsIfOk bs r) n
    c.get_one-turn.result turn.1 (λ r given. given.0) read) turn
    (c.get_one-threads.ensures.none (one_text-rows (found_of c.args.options.now) (codes "threads") ∙ none))

pub returns-clause-threads : goal.returns-clause-threads
returns-clause-threads c n m some there slack is =
    let threads_is = one_text-rows (found_of c.args.options.now) (codes "threads") ∙ there in
    let slack_is = one_text-rows (found_of c.args.options.now) (codes "slack") ∙ is in
    let threads_read = c.get_one-threads.ensures.value (decimal n) threads_is in
    let slack_read = c.get_one-slack.ensures.value (decimal m) slack_is in
    c.run_of.ensures.threads n m
    (reads_decimal (λ bs r. ParsesUnsigned 32 10 bs r × ExplainsUnsignedError 10 bs r × HasUnsignedDigitsIfOk bs r) n
    c.get_one-threads.result (omega (arith, some.1)) (λ r given. given.0) threads_read) some
    (reads_decimal (λ bs r. ParsesUnsigned 32 10 bs r × ExplainsUnsignedError 10 bs r × HasUnsignedDigitsIfOk bs r) m
    c.get_one-slack.result slack.1 (λ r given. given.0) slack_read) slack
