-- A level with which a flag, a delimiter or the intermission goes on.
use Rattle.std.proofs.Common.{◌≡◌, ℕ, Bool, false}
use Rattle.can_frame.specs.declared.reader.Reader.{Reader}
use Rattle.can_frame.specs.declared.spelling.Spelling.{Spelling}
use Rattle.can_confinement.specs.Confinement.{state_of}
use Rattle.can_confinement.specs.Counters.{counts_of}
use Rattle.can_confinement.specs.declared.counters.Counters.{Counters}
use Rattle.can_node.specs.declared.outcome.Outcome.TheVariants.{Nothing}
use Rattle.can_node.specs.declared.state.State.{State}
use Rattle.can_node.specs.Machine.{Steps, is_sending, uneventful}
use Rattle.can_node.specs.PlainBits.{LeavesPlainly}
use Rattle.can_node.proofs.Advancing.{other_advances}
use Rattle.can_node.proofs.Samples.{uneventful_steps_now}

pub plain_steps : (state next : State) (counters : Counters) (reader : Reader) (spelling : Spelling) (now : ℕ)
    (level : Bool) → is_sending state ≡ false → LeavesPlainly state counters now level next →
    Steps state counters reader spelling now level Nothing next counters reader
plain_steps state next counters reader spelling now level sends_none leaves =
    let none = leaves.reads_none in
    uneventful_steps_now state next counters reader reader spelling now level
    (other_advances state reader reader spelling now (state_of (counts_of counters)) level (uneventful next) sends_none
    leaves.goes (λ is. absurd (cc (is, none))) (λ is. absurd (cc (is, none))))
