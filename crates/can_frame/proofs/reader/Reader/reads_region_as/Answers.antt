use Rattle.std.proofs.Common.{rules, ◌≡◌, ◌∙◌, sym}
use Rattle.std.specs.Cmp.{booleans_Decides}
use Rattle.std.proofs.lemmas.Slice.Eq.{slice_eq-Decides}
use Rattle.can_frame.proofs.Nexts.{stands_as}
use Rattle.can_frame.proofs.reader.Reader.reads_region_as.Goals as goal

pub returns : goal.returns
returns c is =
    let place = c.is_in_region.ensures.region c.if-not-is_in_region.false in
    let other = c.is_in_region-2.ensures.region c.if-not-is_in_region-2.false in
    let items : c.as_slice.result.now ≡ c.as_slice-2.result.now =
    (slice_eq-Decides booleans_Decides c.as_slice.result.now c.as_slice-2.result.now c.eq.result c.eq.ensures).0 is in
    stands_as c.args.self.now c.args.other.now place other (search rules)
    (sym c.as_slice.ensures.value ∙ items ∙ c.as_slice-2.ensures.value)
