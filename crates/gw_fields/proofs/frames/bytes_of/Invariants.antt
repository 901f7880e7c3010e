use Rattle.std.proofs.Common.{◌≡◌, codes, drop, []}
use Rattle.serde_json.specs.View.{items_view}
use Rattle.gw_fields.specs.Fields.{whole_of, each_after}
use Rattle.arrayvec.specs.ArrayVec.{array_vec_len}
use Rattle.gw_fields.proofs.frames.bytes_of.Given as goal

abbrev pub invariant-loop-item : goal.invariant-loop-item
invariant-loop-item l = record {
  read : each_after (λ front. whole_of (codes "data") 0 255) l.bytes.items (items_view (drop l.item-index l.items))
      ≡ each_after (λ front. whole_of (codes "data") 0 255) [] (items_view l.items);
  len : array_vec_len l.bytes ≡ l.item-index;
}
