use Rattle.std.proofs.Common.{[]}
use Rattle.can_node.proofs.SendMoves.{send_lost, send_stuff_lost, send_overruled}
use Rattle.can_confinement.specs.declared.confinement.Role.TheVariants.{Sender}
use Rattle.can_node.proofs.Readers.{flag_reads_nothing}
use Rattle.can_node.proofs.sends.overruled.Goals as goal

pub returns-in-Arbitration-clause-goes : goal.returns-in-Arbitration-clause-goes
returns-in-Arbitration-clause-goes c =
    rw (c.in-Arbitration.is, c.receiving.ensures) (λ place spelling. send_lost c.args.start place spelling c.args.errors)

pub returns-in-ArbitrationStuffBit-clause-goes : goal.returns-in-ArbitrationStuffBit-clause-goes
returns-in-ArbitrationStuffBit-clause-goes c = rw c.in-ArbitrationStuffBit.is
    (λ place spelling. send_stuff_lost c.args.start place spelling c.args.errors c.error_flag.result
    c.error_flag.ensures)

pub returns-in-Other-clause-goes : goal.returns-in-Other-clause-goes
returns-in-Other-clause-goes c = rw c.in-Other.is
    (λ place spelling. send_overruled c.args.start place spelling c.args.errors c.bit_error.result c.bit_error.ensures)

pub returns-in-ArbitrationStuffBit-clause-lost : goal.returns-in-ArbitrationStuffBit-clause-lost
returns-in-ArbitrationStuffBit-clause-lost c is = let none =
    flag_reads_nothing c.args.errors [] Sender c.error_flag.result c.error_flag.ensures in absurd (cc (is, none))

pub returns-in-Other-clause-lost : goal.returns-in-Other-clause-lost
returns-in-Other-clause-lost c is = let none = flag_reads_nothing c.args.errors [] Sender c.bit_error.result.state
    c.bit_error.ensures.flags in absurd (cc (is, none))
