-- A past is split into episodes in one way only. What is said of one history of a past holds of each.
use Rattle.std.specs.Prelude.{◌≡◌, ℕ, ◌+◌, ◌<◌, ◌≤◌, Bool, Option, List, ◌++◌, length}
use Rattle.can_confinement.specs.declared.confinement.ErrorEvent.{ErrorEvent}
use Rattle.can_node.specs.declared.outcome.Outcome.{Outcome}
use Rattle.can_node.specs.Pairs.{Pair}
use Rattle.can_node.specs.Phases.{Phase}
use Rattle.can_node.specs.Histories.{Past, IsHistory}
use Rattle.can_node.specs.Node.{IsWanting, IsSending}
use Rattle.can_node.specs.Splits.{HasEpisode}

-- Two histories of one past are the same: what was done in whole episodes, the phase of the episode that goes on, and
-- what that one has made and counted.
abbrev pub OneSplit : Type 0
OneSplit = (past : Past) (a b : IsHistory past) →
    (a.done ≡ b.done) × (a.phase ≡ b.phase) × (a.part ≡ b.part) × (a.counting ≡ b.counting)

-- a past determines whether its node wants to start
abbrev pub OneWanting : Type 0
OneWanting = (past : Past) (x y : Bool) → IsWanting past x → IsWanting past y → x ≡ y

-- a past determines the SOF of the frame that its node sends, if it sends one
abbrev pub OneSending : Type 0
OneSending = (past : Past) (x y : Option ℕ) → IsSending past x → IsSending past y → x ≡ y

-- the bit is that of one of these pairs, which come behind what was done
pub record StandsIn (bit : ℕ) (done : Past) (pairs : List Pair) : Type 0 where
  pub behind : done.first + length done.pairs ≤ bit
  pub within : bit < done.first + length (done.pairs ++ pairs)

-- two whole episodes of a past that have a bit in common are one
abbrev pub OneEpisode : Type 0
OneEpisode = (past done other : Past) (phase kind next last : Phase) (pairs more : List Pair)
    (events counted : List ErrorEvent) (outcome reported : Outcome) (bit : ℕ) →
    HasEpisode past done phase pairs events outcome next → HasEpisode past other kind more counted reported last →
    StandsIn bit done pairs → StandsIn bit other more →
    (done ≡ other) × (phase ≡ kind) × (pairs ≡ more) × (events ≡ counted) × (outcome ≡ reported) × (next ≡ last)
