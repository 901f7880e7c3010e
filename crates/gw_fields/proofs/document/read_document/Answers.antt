-- The length is tested before the JSON text.
use Rattle.std.proofs.Common.{rules, arith}
use Rattle.gw_fields.specs.Documents.{too_long, no_text}
use Rattle.gw_fields.proofs.document.read_document.Goals as goal

pub returns-then-bytes-gt-LIMIT-clause-err : goal.returns-then-bytes-gt-LIMIT-clause-err
returns-then-bytes-gt-LIMIT-clause-err c = too_long (omega arith)

pub returns-else-is_memory-clause-err : goal.returns-else-is_memory-clause-err
returns-else-is_memory-clause-err c = no_text (omega arith) (λ utf8. c.in-Err.ensures.err (λ is_memory. search rules) utf8)
