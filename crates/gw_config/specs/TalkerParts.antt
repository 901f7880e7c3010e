-- What the fields of a `Talker` stand for.
use Rattle.std.specs.Prelude.{◌≡◌, ◌≤◌, string_bytes}
use Rattle.gw_config.specs.Messages.{instances_of}
use Rattle.gw_config.specs.Talkers.{TalkerValue}
use Rattle.gw_config.specs.declared.talker.Talker.TheInside.{Inside}

abbrev pub talker_view : Inside → TalkerValue
talker_view t = record { name = string_bytes t.name; on = t.on; messages = t.messages.items }

-- `instances` is the number of instances of its messages, and at most 1,000,000
pub record IsTalker (t : Inside) : Type 0 where
  pub counted : t.instances ≡ instances_of t.messages.items
  pub few : t.instances ≤ 1000000
