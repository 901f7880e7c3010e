use Rattle.std.proofs.Common.{◌≡◌, drop, [], length, All}
use Rattle.serde_json.specs.View.{items_view}
use Rattle.gw_fields.specs.Fields.{each_after}
use Rattle.gw_fields.proofs.reads_element.read_each.Given as goal

abbrev pub invariant-loop-item : goal.invariant-loop-item
invariant-loop-item g l = record {
  read : each_after (g.R.ReadsElement.reading l.reader) l.elements.items (items_view (drop l.item-index l.items))
      ≡ each_after (g.R.ReadsElement.reading l.reader) [] (items_view l.items);
  range : All (g.R.ReadsElement.keeps l.reader) l.elements.items;
  count : length l.elements.items ≡ l.item-index;
}
