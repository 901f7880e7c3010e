use Rattle.std.proofs.Common.{length, arith, ap, sym, ◌%◌, ◌∙◌, ◌≡◌, eq-eqb, eqb-true}
use Rattle.std.proofs.lemmas.List.{nil_from_length}
use Rattle.can_segment.proofs.PackedLevels.{length-levels_of_words}
use Rattle.can_segment.proofs.levels.Levels.is_empty.Goals as goal

pub returns : goal.returns
returns c =
    let a = c.self.inside in
    let same = ap (λ v. length v.items) c.self.view_is in
    let size : a.len ≡ length c.args.self.now.items =
    omega (arith, same, length-levels_of_words a.words.items (a.len % 64) a.last, c.self.invariant.size) in (
      λ none. nil_from_length c.args.self.now.items (sym size ∙ eqb-true a.len 0 none),
      λ none. eq-eqb a.len 0 (size ∙ ap length none),
    )
