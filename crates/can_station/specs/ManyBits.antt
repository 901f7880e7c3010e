-- When a node makes many bits at once.
use Rattle.std.specs.Prelude.{◌≡◌, ◌≤◌, ℕ, false}
use Rattle.can_station.specs.Actions.{IsUneventful}
use Rattle.can_station.specs.declared.member.Member.{Member}

-- it is active and on at this bit, and nothing is reported of it any more: then it makes as many as its node does
pub record MayMakeMany (bit : ℕ) (member : Member) : Type 0 where
  pub active : member.is_deferred ≡ false
  pub is_on : member.on ≤ bit
  pub uneventful : IsUneventful member.action
