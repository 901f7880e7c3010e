use Rattle.std.proofs.Common.{◌≡◌, drop}
use Rattle.bx_core.specs.States.{of_number}
use Rattle.bx_mail.proofs.boxes.of_number.Given as goal

abbrev pub invariant-loop-waiting : goal.invariant-loop-waiting
invariant-loop-waiting l =
    of_number l.route l.number l.boxes ≡ of_number l.route l.number (drop l.waiting-index l.boxes)
