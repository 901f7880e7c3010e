use Rattle.std.proofs.Common.{rules, ◌≡◌, ◌<◌, ◌≤◌, nat_lt, false, inl, inr, Some, length, ap, arith}
use Rattle.std.proofs.lemmas.Bool.{cases_lt, lt-ltb}
use Rattle.gw_route.specs.RouteHand.{hand_value}
use Rattle.gw_route.specs.Turn.{first_abort}
use Rattle.gw_route.proofs.route_hand.RouteHand.waits_for_frame.Goals as goal

pub returns-else-abort-eq0-clause-no : goal.returns-else-abort-eq0-clause-no
returns-else-abort-eq0-clause-no c given waits =
    let h = hand_value c.args.self.now in
    let abort = c.in-Some.abort.now in
    let first : first_abort h ≡ Some abort = search rules in
    let empty : length h.in_hand ≡ 0 = ap length waits.none_held in
    let positive : 0 < abort.number = search rules in
    let not : nat_lt h.tickets abort.number ≡ false = given in
    let low : abort.number ≤ h.tickets = elim (cases_lt h.tickets abort.number) [
      | inl less ↦ absurd (let is = lt-ltb h.tickets abort.number less in cc (is, not))
      | inr is ↦ is
    ] in
    waits.none_due abort.turn abort first
    (record { reached = omega arith; positive = positive; below = omega (arith, low, empty) })
