-- What was asked for is what was taken, unless memory ran out.
use Rattle.std.proofs.Common.{None, Some}
use Rattle.gw_command.specs.declared.task.Task.TheVariants.{Core, Run, RunThreads}
use Rattle.gw_tool.proofs.Endings.{as_asked, ends_without_memory, not_taken}
use Rattle.gw_tool.proofs.program.tool_with_files.Goals as goal

pub returns-in-Ok-Some-clause-core : goal.returns-in-Ok-Some-clause-core
returns-in-Ok-Some-clause-core g c name words_are =
    as_asked (g.F.Files.contents c.args.files.now) (g.R.Read.remaining c.args.input.now) _ _ c.in-Ok-Some.field-0
    c.in-Ok-Some.order (Core, None) _
    c.in-Ok-Some.field-0-is (c.in-Ok-Some.ensures.core name words_are) c.status_after.ensures

pub returns-in-Ok-Some-clause-run : goal.returns-in-Ok-Some-clause-run
returns-in-Ok-Some-clause-run g c name words_are =
    as_asked (g.F.Files.contents c.args.files.now) (g.R.Read.remaining c.args.input.now) _ _ c.in-Ok-Some.field-0
    c.in-Ok-Some.order (Run 1, None) _
    c.in-Ok-Some.field-0-is (c.in-Ok-Some.ensures.run name words_are) c.status_after.ensures

pub returns-in-Ok-Some-clause-turns : goal.returns-in-Ok-Some-clause-turns
returns-in-Ok-Some-clause-turns g c name n turn words_are =
    as_asked (g.F.Files.contents c.args.files.now) (g.R.Read.remaining c.args.input.now) _ _ c.in-Ok-Some.field-0
    c.in-Ok-Some.order (Run n, None) _
    c.in-Ok-Some.field-0-is (c.in-Ok-Some.ensures.turns name n turn words_are) c.status_after.ensures

pub returns-in-Ok-Some-clause-threads : goal.returns-in-Ok-Some-clause-threads
returns-in-Ok-Some-clause-threads g c name n some words_are =
    as_asked (g.F.Files.contents c.args.files.now) (g.R.Read.remaining c.args.input.now) _ _ c.in-Ok-Some.field-0
    c.in-Ok-Some.order (RunThreads n 64, None) _
    c.in-Ok-Some.field-0-is (c.in-Ok-Some.ensures.threads name n some words_are) c.status_after.ensures

pub returns-in-Ok-Some-clause-core_hyphen : goal.returns-in-Ok-Some-clause-core_hyphen
returns-in-Ok-Some-clause-core_hyphen g c name words_are =
    as_asked (g.F.Files.contents c.args.files.now) (g.R.Read.remaining c.args.input.now) _ _ c.in-Ok-Some.field-0
    c.in-Ok-Some.order (Core, None) _
    c.in-Ok-Some.field-0-is (c.in-Ok-Some.ensures.core_hyphen name words_are) c.status_after.ensures

pub returns-in-Ok-Some-clause-run_hyphen : goal.returns-in-Ok-Some-clause-run_hyphen
returns-in-Ok-Some-clause-run_hyphen g c name words_are =
    as_asked (g.F.Files.contents c.args.files.now) (g.R.Read.remaining c.args.input.now) _ _ c.in-Ok-Some.field-0
    c.in-Ok-Some.order (Run 1, None) _
    c.in-Ok-Some.field-0-is (c.in-Ok-Some.ensures.run_hyphen name words_are) c.status_after.ensures

pub returns-in-Ok-Some-clause-core_file : goal.returns-in-Ok-Some-clause-core_file
returns-in-Ok-Some-clause-core_file g c name file is words_are =
    as_asked (g.F.Files.contents c.args.files.now) (g.R.Read.remaining c.args.input.now) _ _ c.in-Ok-Some.field-0
    c.in-Ok-Some.order (Core, Some file) _
    c.in-Ok-Some.field-0-is (c.in-Ok-Some.ensures.core_file name file is words_are) c.status_after.ensures

pub returns-in-Ok-Some-clause-run_file : goal.returns-in-Ok-Some-clause-run_file
returns-in-Ok-Some-clause-run_file g c name file is words_are =
    as_asked (g.F.Files.contents c.args.files.now) (g.R.Read.remaining c.args.input.now) _ _ c.in-Ok-Some.field-0
    c.in-Ok-Some.order (Run 1, Some file) _
    c.in-Ok-Some.field-0-is (c.in-Ok-Some.ensures.run_file name file is words_are) c.status_after.ensures

pub returns-in-Err-clause-turns : goal.returns-in-Err-clause-turns
returns-in-Err-clause-turns g c name n turn words_are =
    (let refused = c.refused_words.ensures.memory (c.in-Err.ensures.turns name n turn words_are) in
    ends_without_memory (Run n) _ _ _ _ refused.0 refused.1)

pub returns-in-Err-clause-threads : goal.returns-in-Err-clause-threads
returns-in-Err-clause-threads g c name n some words_are =
    (let refused = c.refused_words.ensures.memory (c.in-Err.ensures.threads name n some words_are) in
    ends_without_memory (RunThreads n 64) _ _ _ _ refused.0 refused.1)

pub returns-in-Err-clause-core_file : goal.returns-in-Err-clause-core_file
returns-in-Err-clause-core_file g c name file is words_are =
    (let refused = c.refused_words.ensures.memory (c.in-Err.ensures.core_file name file is words_are) in
    ends_without_memory Core _ _ _ _ refused.0 refused.1)

pub returns-in-Err-clause-run_file : goal.returns-in-Err-clause-run_file
returns-in-Err-clause-run_file g c name file is words_are =
    (let refused = c.refused_words.ensures.memory (c.in-Err.ensures.run_file name file is words_are) in
    ends_without_memory (Run 1) _ _ _ _ refused.0 refused.1)

pub returns-in-Ok-None-clause-core_file : goal.returns-in-Ok-None-clause-core_file
returns-in-Ok-None-clause-core_file g c name file is words_are =
    absurd (not_taken _ _ c.in-Ok-None.field-0-is (c.in-Ok-None.ensures.core_file name file is words_are))

pub returns-in-Ok-None-clause-run_file : goal.returns-in-Ok-None-clause-run_file
returns-in-Ok-None-clause-run_file g c name file is words_are =
    absurd (not_taken _ _ c.in-Ok-None.field-0-is (c.in-Ok-None.ensures.run_file name file is words_are))

pub returns-in-Err-clause-core : goal.returns-in-Err-clause-core
returns-in-Err-clause-core g c name words_are =
    (let refused = c.refused_words.ensures.memory (c.in-Err.ensures.core name words_are) in
    ends_without_memory Core _ _ _ _ refused.0 refused.1)

pub returns-in-Err-clause-run : goal.returns-in-Err-clause-run
returns-in-Err-clause-run g c name words_are =
    (let refused = c.refused_words.ensures.memory (c.in-Err.ensures.run name words_are) in
    ends_without_memory (Run 1) _ _ _ _ refused.0 refused.1)

pub returns-in-Err-clause-core_hyphen : goal.returns-in-Err-clause-core_hyphen
returns-in-Err-clause-core_hyphen g c name words_are =
    (let refused = c.refused_words.ensures.memory (c.in-Err.ensures.core_hyphen name words_are) in
    ends_without_memory Core _ _ _ _ refused.0 refused.1)

pub returns-in-Err-clause-run_hyphen : goal.returns-in-Err-clause-run_hyphen
returns-in-Err-clause-run_hyphen g c name words_are =
    (let refused = c.refused_words.ensures.memory (c.in-Err.ensures.run_hyphen name words_are) in
    ends_without_memory (Run 1) _ _ _ _ refused.0 refused.1)
