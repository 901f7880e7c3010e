use Rattle.std.specs.Cmp.{booleans_Decides, unsigned_Decides}
use Rattle.std.proofs.lemmas.Bool.Decides.{Decides-and, Decides-at}
use Rattle.std.proofs.lemmas.Slice.Eq.{slice_eq-Decides}
use Rattle.std.proofs.Common.{refl}
use Rattle.can_frame.proofs.SameFrames.{same_identifier, same_content, same_frame}
use Rattle.can_frame.proofs.frame.Frame.is_same.Goals as goal

pub returns-clause-same : goal.returns-clause-same
returns-clause-same c is =
    let a = c.args.self.now in
    let b = c.args.other.now in
    let fields = (Decides-at c.eq.result _ c.eq.ensures
    (Decides-and _ _ (unsigned_Decides _ _) (Decides-and _ _ (booleans_Decides _ _)
    (Decides-and _ _ (booleans_Decides _ _)
    (Decides-and _ _ (unsigned_Decides _ _) (slice_eq-Decides unsigned_Decides _ _ _ refl)))))).0 is in
    same_frame a b (same_identifier a.id b.id fields.0 fields.1.0)
    (same_content a.content b.content fields.1.1.0 fields.1.1.1.0 fields.1.1.1.1)
