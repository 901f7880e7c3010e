use Rattle.std.proofs.Common.{◌≡◌, ◌-◌, drop}
use Rattle.serde_json.specs.View.{items_view}
use Rattle.bx_core.specs.Lists.{Each}
use Rattle.gw_fields.specs.Fields.{each_after}
use Rattle.gw_config.specs.Messages.{instances_of, message_after, messages_of}
use Rattle.gw_config.specs.SoundScripts.{IsMessageIn}
use Rattle.gw_config.proofs.talker.messages_of.Given as goal

abbrev pub invariant-loop-item : goal.invariant-loop-item
invariant-loop-item l = record {
  read : each_after (message_after l.format l.fn.left) l.messages.items (items_view (drop l.item-index l.items))
      ≡ messages_of l.format l.fn.left (items_view l.items);
  left : l.left ≡ l.fn.left - instances_of l.messages.items;
  range : Each (IsMessageIn l.format.bits) l.messages.items;
}
