use Rattle.std.proofs.Common.{◌≡◌, ◌+◌, length, not, sym, subst, refl, reverse}
use Rattle.can_frame.specs.FieldReading.{fields_length}
use Rattle.can_frame.specs.Stuffing.{newest}
use Rattle.can_frame.proofs.LevelRuns.{equal_newest, opposite_newest}
use Rattle.can_frame.proofs.Nexts.{Bodies, next_sixth, next_stuff_body, next_stuff}
use Rattle.can_frame.proofs.reader.Reader.push_behind_five.Goals as goal

pub returns-then-level : goal.returns-then-level
returns-then-level c text place five h =
    rw c.fail.ensures.answer
    (next_sixth c.args.self.now.levels.items text c.args.level c.fail.new.self h.inside five
    (equal_newest (reverse text) _ _ (c.level.ensures.newest _ h.ends) c.if-level.true) c.fail.ensures.place)

pub returns-then-is_complete : goal.returns-then-is_complete
returns-then-is_complete c text place five h =
    let u = c.args.self.now.levels.items in
    let opposite : c.args.level ≡ not (newest (reverse text)) =
    opposite_newest (reverse text) _ _ (c.level.ensures.newest _ h.ends) c.if-level.false in
    let full : length u ≡ fields_length u + 15 = subst (λ t. length t ≡ fields_length t + 15) c.as_slice.ensures.value
    (c.is_complete.ensures.whole c.if-is_complete.true) in
    let bodies : Bodies c.body.result c.body.new.place u =
    subst (Bodies c.body.result c.body.new.place) c.as_slice-then-is_complete.ensures.value
    (c.body.ensures (subst (λ t. length t ≡ fields_length t + 15) (sym c.as_slice-then-is_complete.ensures.value)
    full)) in
    next_stuff_body u text c.args.level _ c.body.result h.inside five opposite full bodies

pub returns : goal.returns
returns c text place five h =
    let u = c.args.self.now.levels.items in
    let opposite : c.args.level ≡ not (newest (reverse text)) =
    opposite_newest (reverse text) _ _ (c.level.ensures.newest _ h.ends) c.if-level.false in
    let part : length u ≡ fields_length u + 15 → ⊥ =
    λ full. c.is_complete.ensures.part c.if-is_complete.false
    (subst (λ t. length t ≡ fields_length t + 15) (sym c.as_slice.ensures.value) full) in
    next_stuff u text c.args.level _ h.inside five opposite (c.push.ensures.ends _ h.ends) part refl place
