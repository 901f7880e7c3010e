use Rattle.std.proofs.Common.{◌∙◌, ap, sym, length, arith, List}
use Rattle.std.proofs.lemmas.List.{length-map}
use Rattle.std.proofs.lemmas.Result.{IfOk-weaker}
use Rattle.bx_core.specs.declared.entry.Entry.{Entry}
use Rattle.bx_core.specs.declared.left.Left.{Left}
use Rattle.bx_core.specs.States.{numbers}
use Rattle.bx_core.specs.Ties.{left_of}
use Rattle.gw_ending.proofs.Tellings.{left-length}
use Rattle.gw_ending.proofs.closing.end_hand.Goals as goal

pub report_of-requires-clause-few : goal.report_of-requires-clause-few
report_of-requires-clause-few g c =
    let to = c.requires.there in
    let few = c.requires.room c.args.target to.0 to.1 in
    let left = c.left_at.ensures to.0 to.1 in
    omega (
      arith,
      left-length c.args.number c.left_at.result.now,
      few,
      ap (λ (xs : List Left). length xs) left,
      length-map (left_of c.args.number c.left_at.result.now) (λ (e : Entry). e.number),
      ap length (c.as_slice.ensures.value ∙ c.in_ok-waiting.ensures),
    )

pub returns-clause-ends : goal.returns-clause-ends
returns-clause-ends g c =
    IfOk-weaker c.report_of.result _ _ (λ r ends to to_is.
    ends (left_of c.args.number to.mail.left.items)
    (sym (c.as_slice.ensures.value ∙ c.in_ok-waiting.ensures
    ∙ ap (λ xs. numbers (left_of c.args.number xs)) (c.left_at.ensures to to_is)))) c.report_of.ensures.ends

pub returns-clause-completed : goal.returns-clause-completed
returns-clause-completed g c =
    IfOk-weaker c.report_of.result _ _ (λ r same to to_is. same ∙ c.in_ok-completed.ensures to to_is)
    c.report_of.ensures.completed
