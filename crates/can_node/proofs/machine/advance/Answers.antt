use Rattle.std.proofs.Common.{◌+◌, arith}
use Rattle.can_node.specs.declared.state.State.TheVariants.{BusIdle, BusOffRecovery, Receiving, Transmitting}
use Rattle.can_node.specs.Machine.{uneventful}
use Rattle.can_node.proofs.SendMoves.{send_echoed}
use Rattle.can_node.proofs.Samples.{uneventful_steps}
use Rattle.can_node.proofs.Advancing.{broken_advances, idle_advances, longer_advances, sending_advances}
use Rattle.can_node.proofs.Advancing.{staying_advances}
use Rattle.can_node.proofs.machine.advance.Goals as goal

pub returns-then-stays_in_region : goal.returns-then-stays_in_region
returns-then-stays_in_region c =
    let here = Receiving c.in-Receiving.start c.in-Receiving.may_begin c.in-Receiving.stage in
    rw c.in-Receiving.is (uneventful_steps here here c.args.counters.now c.args.reader.now c.push-step.new.self
    c.args.spelling.now c.args.now c.args.level
    (λ errors. staying_advances c.in-Receiving.start c.in-Receiving.may_begin c.in-Receiving.stage c.args.reader.now
    c.push-step.new.self c.args.spelling.now c.args.now errors c.args.level c.push-step.result
    c.push-step.ensures (c.stays_in_region.ensures c.if-stays_in_region.true)))

pub returns-then-is_echo : goal.returns-then-is_echo
returns-then-is_echo c =
    let next = Transmitting c.in-Transmitting.start c.saturating_add.result in
    let reader = c.args.reader.now in
    let before = c.is_echo.ensures.before c.if-is_echo.true in
    rw c.in-Transmitting.is (uneventful_steps (Transmitting c.in-Transmitting.start c.in-Transmitting.place) next
    c.args.counters.now reader
    reader c.args.spelling.now c.args.now c.args.level
    (λ errors. sending_advances c.in-Transmitting.start c.in-Transmitting.place reader reader c.args.spelling.now
    c.args.now
    errors c.args.level (uneventful next)
    (send_echoed c.in-Transmitting.start c.in-Transmitting.place c.saturating_add.result c.args.spelling.now errors
    c.args.level
    (λ slot. omega (arith, slot, before)) (c.is_echo.ensures.same c.if-is_echo.true)
    (λ last. omega (arith, last, before)) c.saturating_add.ensures) (λ is. absurd (cc is)) (λ is. absurd (cc is))))

pub returns-in-BusIdle : goal.returns-in-BusIdle
returns-in-BusIdle c =
    rw (c.in-BusIdle.is, c.if-level.true)
    (uneventful_steps BusIdle BusIdle c.args.counters.now c.args.reader.now c.args.reader.now c.args.spelling.now
    c.args.now _
    (λ errors. idle_advances c.args.reader.now c.args.spelling.now c.args.now errors))

pub returns-in-BusOffRecovery : goal.returns-in-BusOffRecovery
returns-in-BusOffRecovery c =
    let runs = c.in-BusOffRecovery.runs in
    let ones = c.in-BusOffRecovery.ones in
    let reader = c.args.reader.now in
    rw (c.in-BusOffRecovery.is, c.if-not-level.true)
    (uneventful_steps (BusOffRecovery runs ones) (BusOffRecovery runs 0) c.args.counters.now reader reader
    c.args.spelling.now
    c.args.now _ (λ errors. broken_advances runs ones reader c.args.spelling.now c.args.now errors))

pub returns-in-BusOffRecovery-2 : goal.returns-in-BusOffRecovery-2
returns-in-BusOffRecovery-2 c =
    let runs = c.in-BusOffRecovery-2.runs in
    let ones = c.in-BusOffRecovery-2.ones in
    let reader = c.args.reader.now in
    rw (c.in-BusOffRecovery-2.is, c.if-not-level.false)
    (uneventful_steps (BusOffRecovery runs ones) (BusOffRecovery runs (ones + 1)) c.args.counters.now reader reader
    c.args.spelling.now c.args.now _
    (λ errors. longer_advances runs ones reader c.args.spelling.now c.args.now errors c.if-ones-lt10.true))
