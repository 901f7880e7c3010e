use Rattle.std.proofs.Common.{IfSome, IfNone}
use Rattle.bx_words.specs.Orders.{IsLeastOf, NoneRequested}
use Rattle.bx_words.proofs.orders.least.Given as goal

abbrev pub invariant-loop-mailbox : goal.invariant-loop-mailbox
invariant-loop-mailbox l = record {
  some : IfSome l.best (IsLeastOf l.mailbox l.word l.keys);
  none : IfNone l.best (NoneRequested l.mailbox l.word);
}
