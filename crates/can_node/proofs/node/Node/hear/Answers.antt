use Rattle.std.proofs.Common.{refl, subst}
use Rattle.can_confinement.specs.Confinement.{state_of}
use Rattle.can_confinement.specs.Counters.{counts_of}
use Rattle.can_node.specs.Machine.{GoesReading}
use Rattle.can_node.specs.declared.state.State.TheVariants.{Receiving}
use Rattle.can_node.proofs.Listens.{all_hear}
use Rattle.can_node.proofs.Samples.{stands_history}
use Rattle.can_node.proofs.node.Node.hear.Goals as goal

pub returns-in-Some-clause-samples : goal.returns-in-Some-clause-samples
returns-in-Some-clause-samples c shared_receiver all =
    let heard = all.is_heard in
    let goes = rw c.in-Some.is at heard in
    let made = c.apply_transition.ensures in
    all_hear shared_receiver c.args.bit c.args.level c.args.heard.now c.in-Some.transition c.apply_transition.result
    c.args.self.now
    c.apply_transition.new.self _ all (λ may. goes (state_of (counts_of c.args.self.now.counters)) may) refl made.reader
    made.made made.spelling made.clock

pub returns-in-Some-clause-history : goal.returns-in-Some-clause-history
returns-in-Some-clause-history c = stands_history _

pub returns-in-None-clause-samples : goal.returns-in-None-clause-samples
returns-in-None-clause-samples c shared_receiver all =
    let here = c.args.heard.now in
    let made = c.apply_transition-in-None.ensures in
    all_hear shared_receiver c.args.bit c.args.level here c.transition_in-transition.result
    c.apply_transition-in-None.result c.args.self.now
    c.apply_transition-in-None.new.self _ all
    (λ may. subst (λ errors. GoesReading (Receiving here.start may here.stage) errors here.step c.args.level
    c.transition_in-transition.result) c.state.ensures.shown (c.transition_in-transition.ensures may)) refl made.reader
    made.made made.spelling
    made.clock

pub returns-in-None-clause-history : goal.returns-in-None-clause-history
returns-in-None-clause-history c = stands_history _
