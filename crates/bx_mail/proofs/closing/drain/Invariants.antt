-- What was taken so far stands behind what was taken before; and how many posts there were in all.
use Rattle.std.proofs.Common.{◌≡◌, ◌++◌, length}
use Rattle.bx_mail.specs.Rule.{bus_log}
use Rattle.bx_mail.proofs.Leaving.{FewLeft}
use Rattle.crossbeam_queue.specs.Passes.{view, IsPassOf}
use Rattle.bx_mail.proofs.closing.drain.Given as goal

abbrev pub invariant-loop : goal.invariant-loop
invariant-loop g l = IsPassOf l.line l.pass
    × (view l.pass ≡ bus_log ((view l.fn.pass).got ++ l.posts.items) (view l.fn.pass).made (view l.fn.pass).known)
    × (length l.posts.items ≡ l.counter) × FewLeft (view l.fn.pass)
