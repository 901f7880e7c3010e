use Rattle.std.proofs.Common.{◌≡◌, ◌==◌, ◌||◌, true, false, sym, ap, ◌∙◌}
use Rattle.std.proofs.lemmas.List.Folds.{list_any-append}
use Rattle.bx_core.specs.States.{numbers}
use Rattle.gw_ending.specs.Headline.{is_among}
use Rattle.gw_ending.proofs.Settles.{any-number}
use Rattle.gw_ending.proofs.settling.has_ended.Goals as goal

pub returns-then-is_completed : goal.returns-then-is_completed
returns-then-is_completed c =
    let here : is_among (numbers c.args.completed.now) c.args.number ≡ true =
    sym (any-number c.args.completed.now c.args.number) ∙ sym c.is_completed.ensures ∙ c.if-is_completed.true in
    sym (list_any-append (λ x. x == c.args.number) (numbers c.args.completed.now) c.args.waiting.now
    ∙ ap (λ b. b || is_among c.args.waiting.now c.args.number) here)

pub returns : goal.returns
returns c =
    let here : is_among (numbers c.args.completed.now) c.args.number ≡ false =
    sym (any-number c.args.completed.now c.args.number) ∙ sym c.is_completed.ensures ∙ c.if-is_completed.false in
    c.is_among.ensures
    ∙ sym (list_any-append (λ x. x == c.args.number) (numbers c.args.completed.now) c.args.waiting.now
    ∙ ap (λ b. b || is_among c.args.waiting.now c.args.number) here)
