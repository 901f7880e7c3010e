-- The best of all banks is the chosen one.
use Rattle.std.proofs.Common.{◌≡◌, ◌<◌, length, get_or, Some, sym, ap, ◌∙◌, subst, arith}
use Rattle.std.specs.Prelude.{slice_get}
use Rattle.std.proofs.lemmas.Option.{slice_get-get_or}
use Rattle.bx_rx.specs.Banks.{IsFound}
use Rattle.bx_rx.proofs.Choices.{found-none, found-best, found_number}
use Rattle.bx_rx.proofs.banks.Banks.find.Goals as goal

pub returns-in_err-number : goal.returns-in_err-number
returns-in_err-number c = subst (IsFound c.args.self.now c.args.frame.now) (sym c.from_residual.ensures)
    (found-none _ _ (ap length (sym c.self.view_is) ∙ c.self.invariant) c.in_err-number.ensures)

pub returns : goal.returns
returns c =
    let banks = c.self.inside.banks in
    let n = c.in_ok-number.number in
    let d = c.index-banks-number.result in
    let number = found_number _ _ n c.in_ok-number.place c.in_ok-number.ensures in
    let all = c.self.invariant in
    let within : n < length banks = omega arith in
    found-best _ _ n c.in_ok-number.place c.fifo-fifo.result _ (get_or banks n d)
    (ap length (sym c.self.view_is) ∙ all) c.in_ok-number.ensures
    (subst (λ bs. slice_get bs n ≡ Some (get_or banks n d)) c.self.view_is (slice_get-get_or banks n d within))
    c.fifo-fifo.ensures.value c.count_below.ensures.value
