use Rattle.std.proofs.Common.{◌≡◌, drop, []}
use Rattle.serde_json.specs.View.{items_view}
use Rattle.gw_fields.specs.Fields.{each_after}
use Rattle.gw_config.specs.Rewrites.{entry_of}
use Rattle.arrayvec.specs.ArrayVec.{array_vec_len}
use Rattle.gw_config.proofs.rewrites.each_rewrite.Given as goal

abbrev pub invariant-loop-item : goal.invariant-loop-item
invariant-loop-item l = record {
  read : each_after (λ front. entry_of l.version) l.entries.items (items_view (drop l.item-index l.items))
      ≡ each_after (λ front. entry_of l.version) [] (items_view l.items);
  len : array_vec_len l.entries ≡ l.item-index;
}
