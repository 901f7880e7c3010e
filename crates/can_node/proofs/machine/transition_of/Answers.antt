use Rattle.std.proofs.Common.{◌≡◌, true, ap, sym, refl, ◌∙◌}
use Rattle.can_confinement.specs.declared.confinement.Role.{Role}
use Rattle.can_confinement.specs.declared.confinement.Role.TheVariants.{Receiver, Sender}
use Rattle.can_node.specs.Machine.{is_receiver, steps_alike}
use Rattle.can_node.proofs.machine.transition_of.Goals as goal

receiver : (role : Role) → is_receiver role ≡ true → role ≡ Receiver
receiver Receiver is = refl
receiver Sender is = absurd (cc is)

pub returns-in-Integrating-clause-goes : goal.returns-in-Integrating-clause-goes
returns-in-Integrating-clause-goes c =
    rw c.in-Integrating.is (λ reads_none sends_none. c.after_sync.ensures c.args.now c.args.errors)

pub returns-in-BusIdle-clause-goes : goal.returns-in-BusIdle-clause-goes
returns-in-BusIdle-clause-goes c = rw c.in-BusIdle.is (λ reads_none sends_none. c.after_idle.ensures c.args.errors)

pub returns-in-LastEofBit-clause-goes : goal.returns-in-LastEofBit-clause-goes
returns-in-LastEofBit-clause-goes c =
    rw c.in-LastEofBit.is (λ reads_none sends_none. c.after_last_bit.ensures c.args.now c.args.errors)

pub returns-in-DominantFlag-clause-goes : goal.returns-in-DominantFlag-clause-goes
returns-in-DominantFlag-clause-goes c =
    rw c.in-DominantFlag.is (λ reads_none sends_none. c.after_flag.ensures.goes c.args.now c.args.errors)

pub returns-in-PassiveErrorFlag-clause-goes : goal.returns-in-PassiveErrorFlag-clause-goes
returns-in-PassiveErrorFlag-clause-goes c =
    rw c.in-PassiveErrorFlag.is (λ reads_none sends_none. c.after_passive_flag.ensures c.args.now c.args.errors)

pub returns-in-AwaitingDelimiter-clause-goes : goal.returns-in-AwaitingDelimiter-clause-goes
returns-in-AwaitingDelimiter-clause-goes c =
    rw c.in-AwaitingDelimiter.is (λ reads_none sends_none. c.after_awaiting.ensures.goes c.args.now c.args.errors)

pub returns-in-InDelimiter-clause-goes : goal.returns-in-InDelimiter-clause-goes
returns-in-InDelimiter-clause-goes c =
    rw c.in-InDelimiter.is (λ reads_none sends_none. c.after_delimiting.ensures.goes c.args.now)

pub returns-in-InIntermission-clause-goes : goal.returns-in-InIntermission-clause-goes
returns-in-InIntermission-clause-goes c = rw c.in-InIntermission.is (λ reads_none sends_none.
    c.after_intermission.ensures.goes)

pub returns-in-SuspendTransmission-clause-goes : goal.returns-in-SuspendTransmission-clause-goes
returns-in-SuspendTransmission-clause-goes c =
    rw c.in-SuspendTransmission.is (λ reads_none sends_none. c.after_suspending.ensures.goes c.args.errors)

pub returns-in-BusOffRecovery-clause-goes : goal.returns-in-BusOffRecovery-clause-goes
returns-in-BusOffRecovery-clause-goes c =
    rw c.in-BusOffRecovery.is (λ reads_none sends_none. c.after_bus_off.ensures c.args.now c.args.errors)

pub returns-in-Integrating-clause-alike : goal.returns-in-Integrating-clause-alike
returns-in-Integrating-clause-alike c alike = rw c.in-Integrating.is (c.after_sync.ensures c.args.now)

pub returns-in-BusIdle-clause-alike : goal.returns-in-BusIdle-clause-alike
returns-in-BusIdle-clause-alike c alike = rw c.in-BusIdle.is (c.after_idle.ensures)

pub returns-in-LastEofBit-clause-alike : goal.returns-in-LastEofBit-clause-alike
returns-in-LastEofBit-clause-alike c alike = rw c.in-LastEofBit.is (c.after_last_bit.ensures c.args.now)

pub returns-in-DominantFlag-clause-alike : goal.returns-in-DominantFlag-clause-alike
returns-in-DominantFlag-clause-alike c alike = rw c.in-DominantFlag.is (c.after_flag.ensures.goes c.args.now)

pub returns-in-PassiveErrorFlag-clause-alike : goal.returns-in-PassiveErrorFlag-clause-alike
returns-in-PassiveErrorFlag-clause-alike c alike = rw c.in-PassiveErrorFlag.is (c.after_passive_flag.ensures c.args.now)

pub returns-in-AwaitingDelimiter-clause-alike : goal.returns-in-AwaitingDelimiter-clause-alike
returns-in-AwaitingDelimiter-clause-alike c alike = rw c.in-AwaitingDelimiter.is (c.after_awaiting.ensures.goes
    c.args.now)

pub returns-in-SuspendTransmission-clause-alike : goal.returns-in-SuspendTransmission-clause-alike
returns-in-SuspendTransmission-clause-alike c alike = rw c.in-SuspendTransmission.is (c.after_suspending.ensures.goes)

pub returns-in-BusOffRecovery-clause-alike : goal.returns-in-BusOffRecovery-clause-alike
returns-in-BusOffRecovery-clause-alike c alike = rw c.in-BusOffRecovery.is (c.after_bus_off.ensures c.args.now)

pub returns-in-InDelimiter-clause-alike : goal.returns-in-InDelimiter-clause-alike
returns-in-InDelimiter-clause-alike c alike = rw c.in-InDelimiter.is
    (c.after_delimiting.ensures.alike (sym (ap (steps_alike c.args.level) c.in-InDelimiter.is) ∙ alike) c.args.now)

pub returns-in-InIntermission-clause-alike : goal.returns-in-InIntermission-clause-alike
returns-in-InIntermission-clause-alike c alike = rw c.in-InIntermission.is
    (c.after_intermission.ensures.alike
    (receiver c.in-InIntermission.role (sym (ap (steps_alike c.args.level) c.in-InIntermission.is) ∙ alike)))
