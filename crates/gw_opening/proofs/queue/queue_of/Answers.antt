use Rattle.std.proofs.Common.{rules}
use Rattle.std.proofs.lemmas.List.Sorted.{IsNonDecreasingBy-from_sort, answers_always}
use Rattle.can_station.specs.declared.due_frame.DueFrame.{DueFrame}
use Rattle.gw_opening.proofs.Queues.{queue_sorted}
use Rattle.gw_opening.proofs.queue.queue_of.Goals as goal

pub returns : goal.returns
returns c =
    let queue = c.sort_by_key.new.self.items in
    let rising = IsNonDecreasingBy-from_sort (λ (x : DueFrame). x.due) queue
    (c.in_ok-sort_by_key.ensures.sorted (λ (x : DueFrame). x.due)
    (answers_always _ _ _ (λ f a r g h. search rules))) in
    let stable = c.in_ok-sort_by_key.ensures.stable (λ (x : DueFrame). x.due)
    (answers_always _ _ _ (λ f a r g h. search rules)) in
    queue_sorted c.args.messages.now c.in_ok-queue.queue.items queue c.in_ok-queue.ensures rising stable
