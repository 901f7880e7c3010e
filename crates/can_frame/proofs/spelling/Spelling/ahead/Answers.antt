use Rattle.std.proofs.Common.{◌≡◌, ◌-◌, length, ap, arith, inl, inr}
use Rattle.can_frame.proofs.Ahead.{stand_ahead}
use Rattle.can_frame.proofs.spelling.Spelling.ahead.Goals.{then-from-levels, else-from-levels}
use Rattle.can_frame.proofs.spelling.Spelling.ahead.Goals as goal

pub returns-clause-ahead : goal.returns-clause-ahead
returns-clause-ahead c =
    let place : c.from-from.result ≡ c.args.place = c.from-from.ensures in
    let size = ap length c.as_slice-levels.ensures.value in
    rw (place, c.as_slice-levels.ensures.value)
    (stand_ahead c.args.self.now c.args.place (c.min.result - c.args.place)
    (λ some. elim c.if-from-levels.branch [
      | then-from-levels w ↦ inl (omega (arith, some, c.min.ensures, w.end-is, w.if-from-levels.true, place, size))
      | else-from-levels w ↦ inr (
        omega (arith, w.if-from-levels.false, place, size),
        omega (arith, some, c.min.ensures, w.end-is, w.saturating_sub-end.ensures, place, size),
      )
    ]))
