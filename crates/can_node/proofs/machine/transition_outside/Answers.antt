use Rattle.std.proofs.Common.{◌≡◌, Bool, ℕ, false, subst}
use Rattle.can_confinement.specs.declared.confinement.ErrorState.{ErrorState}
use Rattle.can_node.specs.declared.state.State.{State}
use Rattle.can_node.specs.declared.state.Transition.{Transition}
use Rattle.can_node.specs.Machine.{Goes, is_sending, is_taking}
use Rattle.can_node.proofs.Advancing.{other_advances}
use Rattle.can_node.proofs.PlainSteps.{plain_steps}
use Rattle.can_node.proofs.machine.transition_outside.Goals as goal

-- a state that is the same goes the same way
goes_same : (old same : State) (now : ℕ) (errors : ErrorState) (level : Bool) (transition : Transition) → same ≡ old →
    (is_taking same ≡ false → is_sending same ≡ false → Goes same now errors level transition) → is_taking old ≡ false →
    is_sending old ≡ false → Goes old now errors level transition
goes_same old same now errors level transition is =
    subst (λ s. is_taking s ≡ false → is_sending s ≡ false → Goes s now errors level transition) is

pub returns-then-count_on : goal.returns-then-count_on
returns-then-count_on c spelling no_take no_send =
    plain_steps c.args.state.now c.count_on.new.state c.args.counters.now c.args.reader.now spelling c.args.now
    c.args.level no_send (c.count_on.ensures.counted c.if-count_on.true c.args.counters.now c.args.now)

pub returns-then-is_taking : goal.returns-then-is_taking
returns-then-is_taking c spelling no_take no_send = record {
  transition = c.transition_of-transition.result;
  errors = c.state-errors.result;
  shows = c.state-errors.ensures.counted;
  advances = other_advances c.args.state.now c.args.reader.now c.reader_after_sof.result spelling c.args.now
      c.state-errors.result c.args.level c.transition_of-transition.result no_send
      (goes_same c.args.state.now c.count_on.new.state c.args.now c.state-errors.result c.args.level
      c.transition_of-transition.result (c.count_on.ensures.other c.if-count_on.false)
      c.transition_of-transition.ensures.goes no_take no_send)
      (λ is. c.reader_after_sof.ensures.stands) (λ is. c.reader_after_sof.ensures.reading);
  is_made = c.make.ensures;
}

pub returns : goal.returns
returns c spelling no_take no_send = record {
  transition = c.transition_of-transition.result;
  errors = c.state-errors.result;
  shows = c.state-errors.ensures.counted;
  advances = other_advances c.args.state.now c.args.reader.now c.args.reader.now spelling c.args.now
      c.state-errors.result c.args.level c.transition_of-transition.result no_send
      (goes_same c.args.state.now c.count_on.new.state c.args.now c.state-errors.result c.args.level
      c.transition_of-transition.result (c.count_on.ensures.other c.if-count_on.false)
      c.transition_of-transition.ensures.goes no_take no_send)
      (λ is. absurd (cc (is, c.is_taking.ensures, c.if-is_taking.false)))
      (λ is. absurd (cc (is, c.is_taking.ensures, c.if-is_taking.false)));
  is_made = c.make-2.ensures;
}
