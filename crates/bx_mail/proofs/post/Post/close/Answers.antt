-- What is left ties together what the sides did.
use Rattle.std.proofs.Common.{map}
use Rattle.bx_mail.specs.Postings.{item_left}
use Rattle.bx_mail.proofs.Leaving.{all_tied, all_beyond}
use Rattle.bx_mail.proofs.post.Post.close.Goals as goal

pub returns-clause-tied : goal.returns-clause-tied
returns-clause-tied g c =
    all_tied c.args.bus c.args.sides.items (map item_left c.close.result.left.items) c.close.ensures.closed

pub returns-clause-beyond : goal.returns-clause-beyond
returns-clause-beyond g c =
    all_beyond c.args.bus c.args.sides.items (map item_left c.close.result.left.items) c.close.ensures.closed
