-- What a node does next: the episodes into which its history is split.
use Rattle.std.specs.Prelude.{ℕ, Bool, true, false, Option, Some, None, List, []}
use Rattle.can_frame.specs.Frames.{FrameValue}
use Rattle.can_node.specs.Pairs.{Pair}
use Rattle.can_node.specs.declared.flag.FlagKind.{FlagKind}
use Rattle.can_confinement.specs.declared.confinement.Role.{Role}
use Rattle.can_confinement.specs.declared.confinement.Role.TheVariants.{Sender, Receiver}
use Rattle.can_confinement.specs.declared.confinement.ErrorEvent.{ErrorEvent}
use Rattle.can_confinement.specs.declared.confinement.ErrorState.{ErrorState}
use Rattle.can_confinement.specs.declared.confinement.ErrorState.TheVariants.{Active, Passive, Off}

pub data Phase : Type 0 where
  -- after it was switched on: it waits for eleven recessive levels in a row
  Sync : Phase
  -- the bus is free
  Idle : Phase
  -- it sends a frame; the number of its SOF, and the levels that stood on the bus before it began to drive:
  -- none, or the SOF that another node drove in the intermission
  Send : ℕ → List Bool → FrameValue → Phase
  -- it reads a frame; the number of its SOF, what it sampled of it before, and whether it may still begin to
  -- send at the next bit, in place of reading
  Take : ℕ → List Bool → Bool → Phase
  -- the last bit of EOF of a frame that it took
  LastBit : Phase
  ActiveFlag : Role → Phase
  OverloadFlag : Role → Phase
  -- a passive error flag, and what it owes: the events of its first dominant sample
  PassiveFlag : List ErrorEvent → Role → Phase
  -- the delimiter behind a flag that ended in so many dominant samples in a row
  Delimiter : FlagKind → Role → ℕ → Phase
  Intermission : Role → Phase
  -- an error-passive sender's wait behind the intermission
  Suspend : Phase
  BusOff : Phase

-- the flag of an error that is met in this state, and what it owes if it is a passive one
abbrev pub flag_of : ErrorState → List ErrorEvent → Role → Phase
flag_of Active owed role = ActiveFlag role
flag_of Passive owed role = PassiveFlag owed role
flag_of Off owed role = BusOff

-- whether a node of this role and state waits behind the intermission
abbrev pub suspends : Role → ErrorState → Bool
suspends Receiver state = false
suspends Sender Active = false
suspends Sender Passive = true
suspends Sender Off = false

-- a node that has made these pairs of the episode may begin to send a frame at the next bit
abbrev pub wants_start : Phase → List Pair → Bool
wants_start Idle part = true
wants_start (Take start given may_begin) [] = may_begin
wants_start phase part = false

-- the number of the SOF of the frame that a node sends
abbrev pub sent_from : Phase → Option ℕ
sent_from (Send start given frame) = Some start
sent_from phase = None
