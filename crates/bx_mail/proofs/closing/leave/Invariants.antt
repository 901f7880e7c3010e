-- What is told so far, and what of the posts is still to be told.
use Rattle.std.proofs.Common.{◌≡◌, ◌+◌, ◌≤◌, ◌++◌, map, length, drop}
use Rattle.std.specs.Prelude.{option_to_list}
use Rattle.bx_core.specs.PlainMail.{item_of}
use Rattle.bx_mail.specs.Postings.{items_in}
use Rattle.bx_mail.proofs.closing.leave.Given as goal

abbrev pub invariant-loop-posting : goal.invariant-loop-posting
invariant-loop-posting l = (l.left.items ++ items_in (drop l.posting-index l.posts)
    ≡ (map item_of l.boxes ++ items_in (option_to_list l.aside)) ++ items_in l.posts)
    × (length l.left.items ≤ 4 + l.posting-index)
