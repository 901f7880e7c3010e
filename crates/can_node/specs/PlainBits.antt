-- Uneventful bits of a node: nothing begins, nothing is reported and nothing counted.
use Rattle.std.specs.Prelude.{◌≡◌, ℕ, ◌+◌, ◌<◌, ◌≤◌, ◌||◌, ◌&&◌, Bool, true, false, None, not, nat_le, List, [], ◌∷◌}
use Rattle.std.specs.Prelude.{get_or, length, take, if◌then◌else◌}
use Rattle.can_frame.specs.Reading.{GoesOnNoLonger, GoesOnWithAll, MayReadOn}
use Rattle.can_frame.specs.declared.spelling.Spelling.{Spelling}
use Rattle.can_confinement.specs.Confinement.{state_of}
use Rattle.can_confinement.specs.Counters.{counts_of}
use Rattle.can_confinement.specs.declared.confinement.Role.{Role}
use Rattle.can_confinement.specs.declared.counters.Counters.{Counters}
use Rattle.can_node.specs.declared.node.Node.{Node}
use Rattle.can_node.specs.declared.outcome.Outcome.TheVariants.{Nothing}
use Rattle.can_node.specs.declared.state.State.{State}
use Rattle.can_node.specs.declared.state.State.TheVariants.{InDelimiter, DominantFlag, BusIdle, PassiveErrorFlag}
use Rattle.can_node.specs.declared.state.State.TheVariants.{BusOffRecovery, InIntermission, Transmitting}
use Rattle.can_node.specs.declared.state.State.TheVariants.{SuspendTransmission, AwaitingDelimiter}
use Rattle.can_node.specs.declared.state.Transition.{Transition}
use Rattle.can_node.specs.Histories.{Past, IsHistory}
use Rattle.can_node.specs.Machine.{Goes, is_in_region, is_receiver, is_taking, uneventful}
use Rattle.can_node.specs.Node.{StandsAfter, IsSample, bit_of, counters_in, driven_by, may_begin}
use Rattle.can_frame.specs.Sending.{SendsOn, StandAhead, left_ahead}

-- a dominant sample behind a flag counts nothing: it is not the first behind a receiver's, nor the last of a counted
-- run
abbrev pub overlooks : Role → ℕ → Bool → Bool
overlooks role until first = nat_le 2 until && not (first && is_receiver role)

-- In a flag that drives dominant, with a dominant level; behind a flag with a recessive one, or a dominant one that
-- counts nothing; in the delimiter, the intermission and suspend transmission with a recessive one.
abbrev pub steps_plainly : Bool → State → Bool
steps_plainly level (DominantFlag kind role sent until) = not level
steps_plainly level (AwaitingDelimiter kind role until first) = level || overlooks role until first
steps_plainly level (InDelimiter role ones) = level
steps_plainly level (InIntermission role ones) = level
steps_plainly level (SuspendTransmission ones) = level
steps_plainly level state = false

-- The same with any level in bus off, but the one that ends the last of 128 runs of eleven recessive bits, and in a
-- passive error flag, but the first dominant level of one that owes an error count.
abbrev pub is_plain : Bool → State → Bool
is_plain level (BusOffRecovery runs ones) = nat_le ones 9 || not level || nat_le runs 126
is_plain level (PassiveErrorFlag role owes ones zeros) = level || not owes
is_plain level state = steps_plainly level state

-- a transition with which nothing begins, nothing is reported and nothing counted
pub record IsPlain (transition : Transition) : Type 0 where
  pub event_is : transition.event ≡ None
  pub outcome_is : transition.outcome ≡ Nothing
  pub reads_none : is_taking transition.state ≡ false

-- where a level leaves such a state, with these counts of errors
pub record LeavesPlainly (state : State) (counters : Counters) (now : ℕ) (level : Bool) (next : State) : Type 0 where
  pub goes : Goes state now (state_of (counts_of counters)) level (uneventful next)
  pub reads_none : is_taking next ≡ false

-- The node continues with this level: it is in such a state, receives a frame whose stuffed region continues with the
-- level, or sends a frame and continues with it.
pub data MayGoOn (level : Bool) (node : Node) : Type 0 where
  is_in : is_plain level node.state ≡ true → MayGoOn level node
  reads : is_in_region node.state ≡ true → MayReadOn level node.reader → MayGoOn level node
  sends : (start place : ℕ) → node.state ≡ Transmitting start place → SendsOn level node.spelling place → MayGoOn level
      node

-- One uneventful bit: the node samples this level, may not begin to send, and reports and counts nothing.
pub record GoesOn (old : Node) (level : Bool) (new : Node) : Type 0 where
  pub begins_none : may_begin old ≡ false
  pub samples : IsSample old level Nothing new
  pub history : (past : Past) → StandsAfter new past → IsHistory past
  pub bit_is : bit_of new ≡ bit_of old + 1
  pub counts_none : counters_in new ≡ counters_in old

-- A node stays in bus off with this level, for the last of 128 runs of eleven recessive bits doesn't end with it, or in
-- a passive error flag, for that doesn't end with it and counts nothing; or it goes on with a recessive level from one
-- to the next of what it waits for: the end of the flags of others, a delimiter, the intermission, suspend transmission
-- and an idle bus. A sender goes on to the intermission alone, for behind that it may have to wait longer. This and
-- what follows up to `MayGoOnBy` are conditions: what is promised under them is `GoesOnBy`, by the samples of the
-- node's histories.
abbrev pub stays_out : Bool → State → Bool
stays_out level (BusOffRecovery runs ones) = nat_le ones 9 || not level || nat_le runs 126
stays_out true (PassiveErrorFlag role owes ones zeros) = nat_le ones 4
stays_out false (PassiveErrorFlag role owes ones zeros) = not owes && nat_le zeros 4
stays_out true (AwaitingDelimiter kind role until first) = true
stays_out true (InDelimiter role ones) = true
stays_out true (InIntermission role ones) = nat_le ones 1 || is_receiver role
stays_out true (SuspendTransmission ones) = true
stays_out level state = false

-- the state after it
abbrev pub out_behind : State → Bool → State
out_behind (BusOffRecovery runs ones) true = if nat_le ones 9 then BusOffRecovery runs (ones + 1) else BusOffRecovery
    (runs + 1) 0
out_behind (BusOffRecovery runs ones) false = BusOffRecovery runs 0
out_behind (PassiveErrorFlag role owes ones zeros) true = PassiveErrorFlag role owes (ones + 1) 0
out_behind (PassiveErrorFlag role owes ones zeros) false = PassiveErrorFlag role owes 0 (zeros + 1)
out_behind (AwaitingDelimiter kind role until first) true = InDelimiter role 1
out_behind (InDelimiter role ones) true = if nat_le ones 6 then InDelimiter role (ones + 1) else InIntermission role 0
out_behind (InIntermission role ones) true = if nat_le ones 1 then InIntermission role (ones + 1) else BusIdle
out_behind (SuspendTransmission ones) true = if nat_le ones 6 then SuspendTransmission (ones + 1) else BusIdle
out_behind state level = state

-- the same with these levels, one after another
abbrev pub StaysOut : State → List Bool → Type 0
StaysOut state [] = Unit {0}
StaysOut state (level ∷ levels) = (stays_out level state ≡ true) × StaysOut (out_behind state level) levels

abbrev pub out_behind_all : State → List Bool → State
out_behind_all state [] = state
out_behind_all state (level ∷ levels) = out_behind_all (out_behind state level) levels

-- it stays so with no more than `count` of these levels: the next one ends it, if there is one
abbrev pub StaysNoLonger : State → List Bool → ℕ → Type 0
StaysNoLonger state levels count = count < length levels →
    stays_out (get_or levels count false) (out_behind_all state (take count levels)) ≡ false

-- it stays so with `count` of these levels, and has this state then
pub record StaysBy (state : State) (levels : List Bool) (count : ℕ) (next : State) : Type 0 where
  pub few : count ≤ length levels
  pub stays : StaysOut state (take count levels)
  pub next_is : next ≡ out_behind_all state (take count levels)

-- The node goes on with these levels, one after another: it sends a frame, and they are the next that it drives, none
-- in its ACK slot or its last bit; or it stays in what it waits for, as said above; or it reads a frame by itself, the
-- stuffed region of which goes on with them.
pub data MayGoOnBy (is_sender : Bool) (levels : List Bool) (node : Node) : Type 0 where
  sends_on : (start place : ℕ) → is_sender ≡ true → node.state ≡ Transmitting start place →
      StandAhead node.spelling place levels → place + length levels ≤ 255 → MayGoOnBy is_sender levels node
  waits_on : is_sender ≡ false → StaysOut node.state levels → MayGoOnBy is_sender levels node
  reads_on : is_sender ≡ false → is_in_region node.state ≡ true → GoesOnWithAll node.reader levels →
      MayGoOnBy is_sender levels node

-- it continues with no more than `count` of these levels
pub record EndsOut (node : Node) (levels : List Bool) (count : ℕ) : Type 0 where
  pub waits : is_in_region node.state ≡ false → StaysNoLonger node.state levels count
  pub reads : is_in_region node.state ≡ true → GoesOnNoLonger node.reader levels count

-- how many levels a node that sends a frame drives one after another: before its ACK slot, or behind that but for the
-- last bit of EOF
abbrev pub left_to_send : State → Spelling → ℕ
left_to_send (Transmitting start place) spelling = left_ahead spelling place
left_to_send state spelling = 0

abbrev pub count_ahead : Node → ℕ
count_ahead node = left_to_send node.state node.spelling

-- Bits with these levels, one after another, with each of which it goes on: it drives them where it sends, and drives
-- recessive elsewhere.
abbrev pub GoesOnBy : Bool → Node → List Bool → Node → Type 0
GoesOnBy is_sender old [] new = new ≡ old
GoesOnBy is_sender old (level ∷ levels) new = (mid : Node) × GoesOn old level mid
    × (driven_by old ≡ if is_sender then level else true) × GoesOnBy is_sender mid levels new
