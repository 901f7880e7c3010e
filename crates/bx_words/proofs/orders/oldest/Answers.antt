use Rattle.std.proofs.Common.{arith, lit<}
use Rattle.bx_words.specs.Orders.{IsOldest}
use Rattle.bx_words.proofs.Cases.{of_mailboxes}
use Rattle.bx_words.proofs.orders.oldest.Goals as goal

pub returns : goal.returns
returns c = λ m o. of_mailboxes (λ m. IsOldest c.args.word m → ⊥)
    (λ (o : IsOldest c.args.word 0). c.if-is_oldest.ensures o.requested (o.oldest 1 (lit< tt) (λ e. omega arith))
    (o.oldest 2 (lit< tt) (λ e. omega arith)))
    (λ (o : IsOldest c.args.word 1). c.if-is_oldest-2.ensures o.requested (o.oldest 0 (lit< tt) (λ e. omega arith))
    (o.oldest 2 (lit< tt) (λ e. omega arith)))
    (λ (o : IsOldest c.args.word 2). c.if-is_oldest-3.ensures o.requested (o.oldest 0 (lit< tt) (λ e. omega arith))
    (o.oldest 1 (lit< tt) (λ e. omega arith))) m o.small o
