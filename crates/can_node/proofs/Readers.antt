-- A reader behind a text of which nothing is decided reads on.
use Rattle.std.proofs.Common.{◌≡◌, ℕ, Bool, true, false, refl, ◌∙◌, List, ◌∷◌, ◌++◌, []}
use Rattle.can_frame.specs.Answers.{IsUndecided}
use Rattle.can_frame.specs.Reading.{StandsAfter, StandsAt, HasEnded, IsOpen, IsReading}
use Rattle.can_frame.specs.declared.level_run.LevelRun.{LevelRun}
use Rattle.can_frame.specs.declared.reader.Reader.{Reader}
use Rattle.can_frame.specs.declared.reader.Place.{Place}
use Rattle.can_frame.specs.declared.reader.Place.TheVariants as place
use Rattle.can_frame.specs.declared.step.Step.{Step}
use Rattle.can_frame.specs.declared.step.Step.TheVariants as step
use Rattle.can_frame.proofs.ReaderLaws.{fault_is}
use Rattle.can_confinement.specs.declared.confinement.ErrorEvent.{ErrorEvent}
use Rattle.can_confinement.specs.declared.confinement.ErrorState.{ErrorState}
use Rattle.can_confinement.specs.declared.confinement.ErrorState.TheVariants.{Active, Passive, Off}
use Rattle.can_confinement.specs.declared.confinement.Role.{Role}
use Rattle.can_node.specs.declared.outcome.Outcome.{Outcome}
use Rattle.can_node.specs.declared.state.State.{State}
use Rattle.can_node.specs.Pairs.{Pair}
use Rattle.can_node.specs.Phases.{Phase, flag_of}
use Rattle.can_node.specs.Phases.Phase.{Take}
use Rattle.can_node.specs.Takes.{IsReadOn}
use Rattle.can_node.specs.Machine.{Agrees, Lands, is_taking}
use Rattle.can_node.specs.Machine.Agrees.{in_sync, in_idle, in_take, in_send, in_last, in_active, in_overload}
use Rattle.can_node.specs.Machine.Agrees.{in_passive, in_wait, in_delimiter, in_intermission, in_suspend, in_off}
use Rattle.can_node.specs.Machine.Lands.{goes_on, is_over}

no_end : (s : Step) (text : List Bool) → HasEnded s text → IsUndecided text → ⊥
no_end step.More text h u = h.last
no_end step.StuffBit text h u = h.last
no_end (step.Body frame right) text h u = h.last
no_end step.Tail text h u = h.last
no_end (step.Taken frame) text h u = u.no_front frame (h.before ++ h.level ∷ []) h.more h.whole h.answer
no_end (step.Fault kind) text h u =
    u.no_fault (h.before ++ h.level ∷ []) h.more h.whole (fault_is kind h.before h.level h.answer)

open_at : (p : Place) (run : LevelRun) (levels text : List Bool) → StandsAt p run levels text → IsUndecided text →
    IsOpen p
open_at place.Region run levels text h u = tt
open_at (place.AfterBody frame right seen) run levels text h u = tt
open_at (place.Ended s) run levels text h u = no_end s text h u

pub still_reading : (reader : Reader) (text : List Bool) → StandsAfter reader text → IsUndecided text → IsReading reader
still_reading reader text h u = open_at reader.place reader.run reader.levels.items text h u

agrees_read_on : {state : State} {text : List Bool} {at : ℕ} {phase : Phase} {part : List Pair}
    {events : List ErrorEvent} → Agrees state text at phase part events → is_taking state ≡ true → IsReadOn text
agrees_read_on (in_sync broken b below) takes = absurd (cc takes)
agrees_read_on (in_idle n) takes = absurd (cc takes)
agrees_read_on (in_take given levels may_begin pairs events is on reads may sof place) takes = on
agrees_read_on (in_send given frame before seen driven expected is bit place) takes = absurd (cc takes)
agrees_read_on in_last takes = absurd (cc takes)
agrees_read_on (in_active levels size below runs few) takes = absurd (cc takes)
agrees_read_on (in_overload levels size below runs few) takes = absurd (cc takes)
agrees_read_on (in_passive owed levels h) takes = absurd (cc takes)
agrees_read_on (in_wait run n is far due) takes = absurd (cc takes)
agrees_read_on (in_delimiter kind run n some below) takes = absurd (cc takes)
agrees_read_on (in_intermission below) takes = absurd (cc takes)
agrees_read_on (in_suspend below) takes = absurd (cc takes)
agrees_read_on (in_off rest broken below counted b short) takes = absurd (cc takes)

-- where a bit leaves a node that reads, it may read on
pub reads_on : {new : State} {outcome : Outcome} {after : List Bool} {at : ℕ} {before : List ErrorEvent} {phase : Phase}
    {pairs : List Pair} {events : List ErrorEvent} →
    Lands new outcome after at before phase pairs events → is_taking new ≡ true → IsReadOn after
reads_on (goes_on agrees nothing) takes = agrees_read_on agrees takes
reads_on (is_over next course agrees) takes = agrees_read_on (agrees 0) takes

-- a node reads a frame just in the episode of a take
takes : Phase → Bool
takes (Take start given may_begin) = true
takes phase = false

take_phase : {state : State} {text : List Bool} {at : ℕ} {phase : Phase} {part : List Pair} {events : List ErrorEvent} →
    Agrees state text at phase part events → is_taking state ≡ takes phase
unfolding takes
take_phase (in_sync broken b below) = refl
take_phase (in_idle n) = refl
take_phase (in_take given levels may_begin pairs events is on reads may sof place) = refl
take_phase (in_send given frame before seen driven expected is bit place) = refl
take_phase in_last = refl
take_phase (in_active levels size below runs few) = refl
take_phase (in_overload levels size below runs few) = refl
take_phase (in_passive owed levels h) = refl
take_phase (in_wait run n is far due) = refl
take_phase (in_delimiter kind run n some below) = refl
take_phase (in_intermission below) = refl
take_phase (in_suspend below) = refl
take_phase (in_off rest broken below counted b short) = refl

-- so none reads at the start of an error flag
takes_none : (errors : ErrorState) (owed : List ErrorEvent) (role : Role) → takes (flag_of errors owed role) ≡ false
unfolding takes
takes_none Active owed role = refl
takes_none Passive owed role = refl
takes_none Off owed role = refl

pub flag_reads_nothing : (errors : ErrorState) (owed : List ErrorEvent) (role : Role) (flag : State) →
    ((text : List Bool) (later : ℕ) → Agrees flag text later (flag_of errors owed role) [] []) → is_taking flag ≡ false
flag_reads_nothing errors owed role flag begins = take_phase (begins [] 0) ∙ takes_none errors owed role
