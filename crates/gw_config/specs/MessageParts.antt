-- What the fields of a `Message` stand for.
use Rattle.gw_config.specs.Messages.{MessageValue}
use Rattle.gw_config.specs.declared.message.Message.TheInside.{Inside}

abbrev pub message_view : Inside → MessageValue
message_view m = record { frame = m.frame; at = m.at; every = m.every; count = m.count }

abbrev pub message_parts : MessageValue → Inside
message_parts m = record { frame = m.frame; at = m.at; every = m.every; count = m.count }
