-- The messages have few instances.
use Rattle.std.proofs.Common.{◌≡◌, ◌∙◌, ◌≤◌, ap, sym, arith, Ok}
use Rattle.std.proofs.lemmas.List.{drop_all}
use Rattle.serde_json.specs.View.{items_view}
use Rattle.gw_fields.specs.Fields.{each_after, items_count}
use Rattle.gw_fields.proofs.Lists.{count-view}
use Rattle.gw_config.specs.Messages.{message_after, messages_of}
use Rattle.gw_config.proofs.MessageLaws.{messages_few}
use Rattle.gw_config.proofs.talker.messages_of.Goals as goal

pub returns-clause-few : goal.returns-clause-few
returns-clause-few c =
    let items = c.args.items.now in
    let all : messages_of c.args.format.now c.args.left (items_view items) ≡ Ok c.loop-item.messages.items =
    sym c.loop-item.invariant.read
    ∙ ap (λ vs. each_after (message_after c.args.format.now c.args.left) c.loop-item.messages.items (items_view vs))
    (drop_all c.loop-item.item-index items c.loop-item-test.false) in
    messages_few c.args.format.now c.args.left (items_view items) c.loop-item.messages.items c.requires.few_left
    (let few : items_count (items_view items) ≤ 10000 = omega (arith, count-view items, c.requires.few_items) in few)
    all
