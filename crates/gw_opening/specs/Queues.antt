-- The queue of a talker: the instances of its messages by due bit, and of one due bit in the order of the script.
use Rattle.std.specs.Prelude.{◌≡◌, ℕ, zero, suc, ◌+◌, ◌*◌, ◌==◌, List, [], ◌∷◌, ◌++◌}
use Rattle.std.specs.List.{filter, flat_map}
use Rattle.std.specs.List.Sorted.{IsNonDecreasingBy}
use Rattle.can_station.specs.declared.due_frame.DueFrame.{DueFrame}
use Rattle.gw_config.specs.Messages.{MessageValue}

-- an instance of a message, counted from 0
abbrev pub instance : MessageValue → ℕ → DueFrame
instance m k = record { due = m.at + k * m.every; frame = m.frame }

-- its first n instances
abbrev pub first_instances : MessageValue → ℕ → List DueFrame
first_instances m zero = []
first_instances m (suc n) = first_instances m n ++ instance m n ∷ []

-- all instances of these messages, message by message
abbrev pub instances : List MessageValue → List DueFrame
instances messages = flat_map (λ (m : MessageValue). first_instances m m.count) messages

-- those of these frames which are due at this bit
abbrev pub at_bit : ℕ → List DueFrame → List DueFrame
at_bit bit frames = filter (λ (x : DueFrame). x.due == bit) frames

-- no frame is due before the one in front of it, and those due at a bit are the instances due then, in their order
pub record IsQueueOf (messages : List MessageValue) (queue : List DueFrame) : Type 0 where
  pub by_due : IsNonDecreasingBy (λ (x : DueFrame). x.due) queue
  pub same : (bit : ℕ) → at_bit bit queue ≡ at_bit bit (instances messages)
