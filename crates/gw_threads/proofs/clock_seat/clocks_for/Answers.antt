use Rattle.std.proofs.Common.{ap, ◌∙◌, ◌+◌, replicate, rules}
use Rattle.gw_threads.proofs.Pacing.{begins}
use Rattle.gw_threads.proofs.clock_seat.clocks_for.Goals as goal

pub of_words-requires : goal.of_words-requires
of_words-requires c = begins c.args.pace c.as_slice.result.now
    (c.as_slice.ensures.value ∙ c.in_ok-words.ensures.items_if_clones_equal (search rules)
    ∙ ap (λ n. replicate (n + 1) 0) c.word_of.ensures) c.requires.short
