use Rattle.can_frame.proofs.ReaderLaws.{reading_is_undecided, first_faults_are_answered, answered_faults_are_first}
use Rattle.can_frame.proofs.laws.faults_are_exact.Goals as goal

pub returns : goal.returns
returns c =
    record { reading = reading_is_undecided; answered = first_faults_are_answered; first = answered_faults_are_first }
