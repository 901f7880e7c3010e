use Rattle.std.proofs.Common.{subst}
use Rattle.can_frame.specs.Sending.{IsSpelling}
use Rattle.can_frame.proofs.spelled.Spelled.is_of.Goals as goal

pub returns-in-Some : goal.returns-in-Some
returns-in-Some c is =
    let last = c.in-Some.last in
    let spells : IsSpelling last c.args.self.now =
    subst (IsSpelling last) c.self.view_is (c.self.invariant.spells last c.in-Some.is) in
    subst (λ f. IsSpelling f c.args.self.now) (c.is_same.ensures.same is) spells
