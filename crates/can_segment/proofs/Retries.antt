-- Of two attempts of one request the earlier one failed.
use Rattle.std.proofs.Common.{◌≡◌, ℕ, zero, suc, ◌+◌, ◌<◌, ◌≤◌, Bool, true, List, [], ◌∷◌, fold, length, take, refl, ap}
use Rattle.std.proofs.Common.{subst, arith, ◌∙◌}
use Rattle.std.specs.List.{Contains}
use Rattle.can_node.specs.declared.outcome.Outcome.{Outcome}
use Rattle.can_node.specs.declared.outcome.Outcome.TheVariants.{Completed}
use Rattle.can_node.specs.Histories.{Past}
use Rattle.can_node.specs.Splits.{IsAttempt}
use Rattle.can_node.specs.Attempts.{first_bit}
use Rattle.can_node.proofs.Outcomes.{completed_reported, IsEnd, attempt_end, first_no_later}
use Rattle.can_node.proofs.Outcomes.IsEnd.{is_completed, is_lost, is_error, is_off}
use Rattle.can_station.specs.declared.event.Event.{Event}
use Rattle.can_station.specs.declared.plan.SegmentPlan.{SegmentPlan}
use Rattle.can_segment.specs.Attempts.{act_at}
use Rattle.can_segment.specs.Traces.{Bit, act_of, completed_in}
use Rattle.can_station.specs.Outcomes.{completed_by, is_failure}
use Rattle.can_segment.specs.Runs.{Run}
use Rattle.can_segment.specs.Copies.{TalkersTryFailures}
use Rattle.can_segment.proofs.ActsNoted.{reported_at}

-- how many of its frames a node completed, bit by bit
count : ℕ → List Bit → ℕ
count k [] = 0
count k (bit ∷ trace) = completed_in (act_of k bit) + count k trace

count_from : (k : ℕ) (trace : List Bit) (n : ℕ) →
    fold (λ m bit. m + completed_in (act_of k bit)) n trace ≡ n + count k trace
unfolding count
count_from k [] n = omega arith
count_from k (bit ∷ trace) n = omega (arith, count_from k trace (n + completed_in (act_of k bit)))

-- a bit at which a frame was completed is counted behind it and not before
counted : (k : ℕ) (trace : List Bit) (from end to : ℕ) → from ≤ end → end < to → completed_in (act_at k trace end) ≡ 1 →
    count k (take from trace) + 1 ≤ count k (take to trace)
unfolding count
counted k [] from end to a b one = absurd (omega (arith, one))
counted k (w ∷ trace) zero zero zero a b one = absurd (omega (arith, b))
counted k (w ∷ trace) zero zero (suc to) a b one = omega (arith, one)
counted k (w ∷ trace) (suc from) zero to a b one = absurd (omega (arith, a))
counted k (w ∷ trace) zero (suc end) zero a b one = absurd (omega (arith, b))
counted k (w ∷ trace) zero (suc end) (suc to) a b one =
    omega (arith, counted k trace zero end to (omega arith) (omega (arith, b)) one)
counted k (w ∷ trace) (suc from) (suc end) zero a b one = absurd (omega (arith, b))
counted k (w ∷ trace) (suc from) (suc end) (suc to) a b one =
    omega (arith, counted k trace from end to (omega (arith, a)) (omega (arith, b)) one)

pub fails : {outcome : Outcome} → IsEnd outcome → (outcome ≡ Completed → ⊥) → is_failure outcome ≡ true
fails is_completed no_end = absurd (no_end refl)
fails is_lost no_end = refl
fails (is_error kind) no_end = refl
fails is_off no_end = refl

pub talkers_try_failures : {plan : SegmentPlan} {trace : List Bit} {levels : List Bool} {events : List Event} →
    Run plan trace levels events → TalkersTryFailures plan trace
talkers_try_failures {trace = trace} run node talker past start end start' end' frame frame' state state' outcome
    outcome' planned p earlier later before same =
    fails (attempt_end past start end frame state outcome earlier) (λ is.
    let done : IsAttempt past start frame state end Completed =
    subst (IsAttempt past start frame state end) is earlier in
    let first : earlier.done.first + length earlier.done.pairs ≤ end =
    first_no_later past start end frame state outcome earlier is in
    let reported = reported_at node p.on end Completed run p.on_is
    (subst (λ (q : Past). Contains q.outcomes (end, Completed)) p.past_is
    (completed_reported past start end frame state done)) in
    let one : completed_in (act_at node trace end) ≡ 1 =
    ap completed_in reported.act_is ∙ ap completed_by reported.outcome_is in
    let more = counted node trace (first_bit earlier) end (first_bit later) first before one in
    let a = count_from node (take (first_bit earlier) trace) 0 in
    let b = count_from node (take (first_bit later) trace) 0 in
    omega (arith, more, a, b, same))
