-- The search of a mailbox: what was passed by is not in it.
use Rattle.std.proofs.Common.{◌≡◌, ◌+◌, drop}
use Rattle.bx_core.specs.States.{place_of, at_mailbox}
use Rattle.bx_mail.proofs.boxes.find.Given as goal

abbrev pub invariant-loop-place : goal.invariant-loop-place
invariant-loop-place l =
    (at_mailbox l.mailbox l.boxes ≡ at_mailbox l.mailbox (drop l.place l.boxes))
    × (place_of l.mailbox l.boxes ≡ l.place + place_of l.mailbox (drop l.place l.boxes))
