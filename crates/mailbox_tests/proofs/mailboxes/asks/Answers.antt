use Rattle.std.proofs.Common.{rules}
use Rattle.mailbox_tests.proofs.mailboxes.asks.Goals as goal

pub returns : goal.returns
returns g c = λ past st. let e = c.ask.ensures.stays.1.1.bus past st in search rules
