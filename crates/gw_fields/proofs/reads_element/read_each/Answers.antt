-- One element more is read behind those in front of it.
use Rattle.std.proofs.Common.{◌≡◌, ◌++◌, ◌∷◌, [], sym, subst, All}
use Rattle.std.proofs.lemmas.List.Elements.{All-push}
use Rattle.serde_json.specs.View.{items_view}
use Rattle.gw_fields.specs.Fields.{each_after}
use Rattle.gw_fields.proofs.FaultLaws.{each_refused}
use Rattle.gw_fields.proofs.Lists.{each_grows, push_keeps, count-snoc}
use Rattle.gw_fields.proofs.reads_element.read_each.Goals as goal

pub loop-item-preserved : goal.loop-item-preserved
loop-item-preserved g c =
    let kept : c.push.new.self.items ≡ c.loop-item.elements.items ++ c.in-Ok.element ∷ [] =
    push_keeps c.push.result _ _ _ c.push.ensures.items c.if-is_err.ensures.value in
    record {
      read = each_grows (g.R.ReadsElement.reading c.args.reader.now) c.loop-item.elements.items c.push.new.self.items
          c.as_slice.result.now c.in-Ok.element
          (each_after (g.R.ReadsElement.reading c.args.reader.now) [] (items_view c.args.items.now)) c.args.items.now
          c.loop-item.item-index c.item-item.result
          c.loop-item-test.true c.item-item.is c.as_slice.ensures.value c.in-Ok.ensures.value kept
          c.loop-item.invariant.read;
      range = subst (All (g.R.ReadsElement.keeps c.args.reader.now)) (sym kept)
          (All-push (g.R.ReadsElement.keeps c.args.reader.now) c.loop-item.elements.items c.in-Ok.element
          c.loop-item.invariant.range c.in-Ok.ensures.range);
      count = count-snoc c.loop-item.elements.items c.push.new.self.items c.in-Ok.element c.loop-item.item-index kept
          c.loop-item.invariant.count;
    }

pub returns-in-Err-clause-value : goal.returns-in-Err-clause-value
returns-in-Err-clause-value g c =
    each_refused (g.R.ReadsElement.reading c.args.reader.now) c.loop-item.elements.items c.as_slice.result.now
    (each_after (g.R.ReadsElement.reading c.args.reader.now) [] (items_view c.args.items.now))
    c.args.items.now c.loop-item.item-index c.item-item.result c.in-Err.fault
    c.loop-item-test.true c.item-item.is c.as_slice.ensures.value c.loop-item.invariant.read c.in-Err.ensures.value
