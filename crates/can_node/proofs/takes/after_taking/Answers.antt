use Rattle.can_node.proofs.TakeMoves.{take_more, take_stuff, take_body, take_taken, take_fault}
use Rattle.can_node.proofs.takes.after_taking.Goals as goal

pub returns-in-More-clause-goes : goal.returns-in-More-clause-goes
returns-in-More-clause-goes c =
    rw (c.plain.ensures, c.receiving.ensures, c.in-More.is) (λ may. take_more c.args.start may c.args.stage c.args.errors c.args.level)

pub returns-in-StuffBit-clause-goes : goal.returns-in-StuffBit-clause-goes
returns-in-StuffBit-clause-goes c = rw (c.plain-in-StuffBit.ensures, c.receiving-in-StuffBit.ensures, c.in-StuffBit.is)
    (λ may. take_stuff c.args.start may c.args.stage c.args.errors c.args.level)

pub returns-in-Body-clause-goes : goal.returns-in-Body-clause-goes
returns-in-Body-clause-goes c = rw (c.plain-in-Body.ensures, c.receiving-in-Body.ensures, c.in-Body.is)
    (λ may. take_body c.args.start may c.args.stage c.args.errors c.args.level c.in-Body.field-0 c.in-Body.right)

pub returns-in-Tail-clause-goes : goal.returns-in-Tail-clause-goes
returns-in-Tail-clause-goes c = rw c.in-Tail.is (c.after_tail.ensures c.args.errors)

pub returns-in-Taken-clause-goes : goal.returns-in-Taken-clause-goes
returns-in-Taken-clause-goes c =
    rw c.in-Taken.is (λ may. take_taken c.args.start may c.args.stage c.args.errors c.args.level c.in-Taken.frame)

pub returns-in-Fault-clause-goes : goal.returns-in-Fault-clause-goes
returns-in-Fault-clause-goes c = rw (c.in-Fault.is, c.error_kind.ensures)
    (λ may. take_fault c.args.start may c.args.stage c.args.errors c.args.level c.in-Fault.kind c.error_flag.result
    c.error_flag.ensures)

pub returns-in-More-clause-alike : goal.returns-in-More-clause-alike
returns-in-More-clause-alike c reported other =
    rw (c.plain.ensures, c.receiving.ensures, c.in-More.is) (λ may. take_more c.args.start may c.args.stage other c.args.level)

pub returns-in-StuffBit-clause-alike : goal.returns-in-StuffBit-clause-alike
returns-in-StuffBit-clause-alike c reported other = rw (c.plain-in-StuffBit.ensures, c.receiving-in-StuffBit.ensures, c.in-StuffBit.is)
    (λ may. take_stuff c.args.start may c.args.stage other c.args.level)

pub returns-in-Body-clause-alike : goal.returns-in-Body-clause-alike
returns-in-Body-clause-alike c reported other = rw (c.plain-in-Body.ensures, c.receiving-in-Body.ensures, c.in-Body.is)
    (λ may. take_body c.args.start may c.args.stage other c.args.level c.in-Body.field-0 c.in-Body.right)

pub returns-in-Tail-clause-alike : goal.returns-in-Tail-clause-alike
returns-in-Tail-clause-alike c reported other = rw c.in-Tail.is (c.after_tail.ensures other)

pub returns-in-Taken-clause-alike : goal.returns-in-Taken-clause-alike
returns-in-Taken-clause-alike c reported other =
    rw c.in-Taken.is (λ may. take_taken c.args.start may c.args.stage other c.args.level c.in-Taken.frame)

pub returns-in-Fault-clause-alike : goal.returns-in-Fault-clause-alike
returns-in-Fault-clause-alike c reported = absurd (cc reported)
