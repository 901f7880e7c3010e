-- Of two attempts of one request of a controller the earlier one failed, and did not end the request.
use Rattle.std.proofs.Common.{◌≡◌, inl, inr, ◌⊎◌, ℕ, zero, suc, ◌+◌, ◌<◌, ◌≤◌, Bool, Option, Some, None, List, [], ◌∷◌}
use Rattle.std.proofs.Common.{◌++◌, length, map, take, refl, sym, ap, subst, arith, ◌∙◌}
use Rattle.std.specs.Prelude.{option_and_then}
use Rattle.std.proofs.lemmas.Bool.{cases_lt}
use Rattle.std.proofs.lemmas.Bool.Decides.{eqb_tells}
use Rattle.std.proofs.lemmas.List.{append-nil, length-append, length-map}
use Rattle.std.proofs.lemmas.Option.{slice_get_within}
use Rattle.can_node.specs.declared.outcome.Outcome.TheVariants.{Completed}
use Rattle.can_node.specs.Attempts.{first_bit}
use Rattle.can_node.proofs.Outcomes.{attempt_end}
use Rattle.bx_core.specs.Lists.{Has}
use Rattle.bx_core.specs.TxBus.{BusPast, IsUndone, no_bus_past}
use Rattle.bx_core.proofs.Words.{has-left, has-right}
use Rattle.can_station.specs.declared.event.Event.{Event}
use Rattle.can_station.specs.declared.event.Label.{Label}
use Rattle.can_station.specs.declared.event.EventKind.{EventKind}
use Rattle.can_station.specs.declared.event.EventKind.TheVariants as kinds
use Rattle.can_station.specs.declared.plan.Controller.{Controller}
use Rattle.can_station.specs.declared.plan.SegmentPlan.{SegmentPlan}
use Rattle.can_station.specs.declared.plan.Talker.{Talker}
use Rattle.can_station.specs.declared.transmission.Transmission.{Transmission}
use Rattle.can_segment.specs.Attempts.{act_at, begun_at, sending_at, reaped_at, request_at, RequestsTryFailures}
use Rattle.can_segment.specs.Brought.{StartsUndone, kinds_of, sent_in, reaped_in, all_in, grown}
use Rattle.can_station.specs.Lines.{start_kinds, outcome_kinds, reaped_kinds, lines}
use Rattle.can_segment.specs.Tells.{starts_of, rest_of, lines_from, events_at}
use Rattle.can_segment.specs.Traces.{Act, Bit, act_of, sending_of, sending_now}
use Rattle.can_station.specs.Outcomes.{ends_sending}
use Rattle.can_segment.specs.Runs.{Run, firsts}
use Rattle.can_segment.specs.Runs.Run.{no_bit, one_more}
use Rattle.can_segment.proofs.ActsNoted.{does_at, take_left, take_whole, act_before, act_last, within_act}
use Rattle.can_segment.proofs.Attempts.{act_begins, attempts_are_reported, begun_by, outcome_by, ends_it, act_ends}
use Rattle.can_segment.proofs.Brought.{all-append, grown-nil, grown-append}
use Rattle.can_segment.proofs.LinesOfNodes.{of-append, of-same, of-other}
use Rattle.can_segment.proofs.OneLine.{same_found}
use Rattle.can_segment.proofs.Retries.{fails}

-- what the lines of a bit tell of a node
from_other : (tells : ℕ → List EventKind) (bit first count node : ℕ) → node < first →
    kinds_of node (lines_from tells bit first count) ≡ []
from_other tells bit first zero node h = refl
from_other tells bit first (suc more) node h =
    of-append node (lines bit first (tells first)) (lines_from tells bit (suc first) more)
    ∙ ap (λ ts. ts ++ kinds_of node (lines_from tells bit (suc first) more))
    (of-other node bit first (tells first) (λ e. omega (arith, e, h)))
    ∙ from_other tells bit (suc first) more node (omega (arith, h))

from_own : (tells : ℕ → List EventKind) (bit first count node : ℕ) → first ≤ node → node < first + count →
    kinds_of node (lines_from tells bit first count) ≡ tells node
from_own tells bit first zero node low high = absurd (omega (arith, low, high))
from_own tells bit first (suc more) node low high = elim (eqb_tells first node) [
  | inl same ↦ of-append node (lines bit first (tells first)) (lines_from tells bit (suc first) more)
      ∙ ap (λ ts. ts ++ kinds_of node (lines_from tells bit (suc first) more))
      (ap (λ n. kinds_of node (lines bit n (tells n))) same.1 ∙ of-same node bit (tells node))
      ∙ ap (λ ts. tells node ++ ts) (from_other tells bit (suc first) more node (omega (arith, same.1)))
      ∙ append-nil (tells node)
  | inr other ↦ of-append node (lines bit first (tells first)) (lines_from tells bit (suc first) more)
      ∙ ap (λ ts. ts ++ kinds_of node (lines_from tells bit (suc first) more))
      (of-other node bit first (tells first) other.1)
      ∙ from_own tells bit (suc first) more node (let ne = other.1 in omega (arith, low, ne)) (omega (arith, high))
]

bit_tells : (node : ℕ) (trace : List Bit) (bit : Bit) → node < length bit.acts →
    kinds_of node (events_at trace bit) ≡ starts_of (act_of node bit)
    ++ rest_of (sending_of node trace) (act_of node bit)
bit_tells node trace bit within =
    let starts = λ (k : ℕ). starts_of (act_of k bit) in
    let deferred = λ (k : ℕ). rest_of (sending_of k trace) (act_of k bit) in
    of-append node (lines_from starts (length trace) 0 (length bit.acts))
    (lines_from deferred (length trace) 0 (length bit.acts))
    ∙ ap (λ ts. ts ++ kinds_of node (lines_from deferred (length trace) 0 (length bit.acts)))
    (from_own starts (length trace) 0 (length bit.acts) node (omega arith) (omega (arith, within)))
    ∙ ap (λ ts. starts node ++ ts)
    (from_own deferred (length trace) 0 (length bit.acts) node (omega arith) (omega (arith, within)))

-- what is reported of a node at a bit of a trace, and at all bits before one
bit_kinds : ℕ → List Bit → ℕ → List EventKind
bit_kinds node trace k =
    starts_of (act_at node trace k) ++ rest_of (sending_of node (take k trace)) (act_at node trace k)

kinds_before : ℕ → List Bit → ℕ → List EventKind
kinds_before node trace zero = []
kinds_before node trace (suc k) = kinds_before node trace k ++ bit_kinds node trace k

reported_same : (node : ℕ) (trace : List Bit) (bit : Bit) (k : ℕ) → k ≤ length trace →
    kinds_before node (trace ++ bit ∷ []) k ≡ kinds_before node trace k
unfolding kinds_before bit_kinds
reported_same node trace bit zero h = refl
reported_same node trace bit (suc k) h =
    let acts = act_before node trace bit k (omega (arith, h)) in
    let traces = take_left trace (bit ∷ []) k (omega (arith, h)) in
    ap (λ ts. ts ++ bit_kinds node (trace ++ bit ∷ []) k) (reported_same node trace bit k (omega (arith, h)))
    ∙ ap (λ act. kinds_before node trace k
    ++ (starts_of act ++ rest_of (sending_of node (take k (trace ++ bit ∷ []))) act)) acts
    ∙ ap (λ t. kinds_before node trace k
    ++ (starts_of (act_at node trace k) ++ rest_of (sending_of node t) (act_at node trace k))) traces

reported_run : {plan : SegmentPlan} {trace : List Bit} {levels : List Bool} {events : List Event} (node : ℕ) →
    Run plan trace levels events →
    node < length plan.talkers.items + length plan.controllers.items →
    kinds_of node events ≡ kinds_before node trace (length trace)
unfolding kinds_before bit_kinds
reported_run node no_bit within = refl
reported_run node (one_more {trace = trace} {events = events} bit run is) within =
    let size : length (trace ++ bit ∷ []) ≡ suc (length trace) = omega (arith, length-append trace (bit ∷ [])) in
    let whole = take_left trace (bit ∷ []) (length trace) (omega arith) ∙ take_whole trace in
    of-append node events (events_at trace bit)
    ∙ ap (λ ts. ts ++ kinds_of node (events_at trace bit))
    (reported_run node run within ∙ sym (reported_same node trace bit (length trace) (omega arith)))
    ∙ ap (λ ts. kinds_before node (trace ++ bit ∷ []) (length trace) ++ ts)
    (bit_tells node trace bit (omega (arith, within, is.each))
    ∙ ap (λ t. starts_of (act_of node bit) ++ rest_of (sending_of node t) (act_of node bit)) (sym whole)
    ∙ ap (λ act. starts_of act ++ rest_of (sending_of node (take (length trace) (trace ++ bit ∷ []))) act)
    (sym (act_last node trace bit (length trace) refl)))
    ∙ sym (ap (kinds_before node (trace ++ bit ∷ [])) size)

-- what holds of lines in a row holds of each part
undone_parts : (past : BusPast) (xs ys : List EventKind) → StartsUndone past (xs ++ ys) →
    StartsUndone past xs × StartsUndone (grown past xs) ys
undone_parts past [] ys h = (tt, subst (λ p. StartsUndone p ys) (sym (grown-nil past)) h)
undone_parts past (x ∷ xs) ys h =
    let more = undone_parts (grown past (x ∷ [])) xs ys h.1 in
    ((h.0, more.0), subst (λ p. StartsUndone p ys) (sym (grown-append past (x ∷ []) xs)) more.1)

undone_at : (past : BusPast) (node : ℕ) (trace : List Bit) (n k : ℕ) → k < n →
    StartsUndone past (kinds_before node trace n) →
    StartsUndone (grown past (kinds_before node trace k)) (bit_kinds node trace k)
unfolding kinds_before
undone_at past node trace zero k less h = absurd (omega (arith, less))
undone_at past node trace (suc n) k less h =
    let parts = undone_parts past (kinds_before node trace n) (bit_kinds node trace n) h in
    elim (cases_lt k n) [
      | inl earlier ↦ undone_at past node trace n k earlier parts.0
      | inr last ↦ (let now : k ≡ n = omega (arith, last, less) in
          subst (λ m. StartsUndone (grown past (kinds_before node trace m)) (bit_kinds node trace m)) (sym now) parts.1)
    ]

-- what a bit names is among what all bits before a later one name
among : {X : Type 0} (names : EventKind → List X) (node : ℕ) (trace : List Bit) (k bit : ℕ) (x : X) → bit < k →
    Has (all_in names (bit_kinds node trace bit)) x → Has (all_in names (kinds_before node trace k)) x
unfolding kinds_before
among names node trace zero bit x less has = absurd (omega (arith, less))
among names node trace (suc k) bit x less has =
    subst (λ xs. Has xs x) (sym (all-append names (kinds_before node trace k) (bit_kinds node trace k)))
    (elim (cases_lt bit k) [
      | inl earlier ↦ has-left (all_in names (kinds_before node trace k)) (all_in names (bit_kinds node trace k)) x
          (among names node trace k bit x earlier has)
      | inr last ↦ (let now : bit ≡ k = omega (arith, last, less) in
          has-right (all_in names (kinds_before node trace k)) (all_in names (bit_kinds node trace k)) x
          (subst (λ m. Has (all_in names (bit_kinds node trace m)) x) now has))
    ])

-- the lines of a bit at which a request is begun, is sent, or is reaped
begun_reported : (node : ℕ) (trace : List Bit) (k : ℕ) (act : Act) (sent : Transmission) (label : Label) (past : BusPast) →
    act_at node trace k ≡ Some act → act.begun ≡ Some sent → sent.label ≡ Some label →
    StartsUndone past (bit_kinds node trace k) → IsUndone past (label.route, label.number, sent.frame)
unfolding bit_kinds
begun_reported node trace k act sent label past act_is begun labelled h =
    let line : bit_kinds node trace k ≡ (kinds.Started sent.frame (Some label) ∷ [])
    ++ rest_of (sending_of node (take k trace)) (act_at node trace k) =
    ap (λ a. starts_of a ++ rest_of (sending_of node (take k trace)) (act_at node trace k)) act_is
    ∙ ap (λ b. start_kinds b ++ rest_of (sending_of node (take k trace)) (act_at node trace k)) begun
    ∙ ap (λ l. (kinds.Started sent.frame l ∷ []) ++ rest_of (sending_of node (take k trace)) (act_at node trace k))
    labelled in
    (subst (StartsUndone past) line h).0.0

rest_reported : {X : Type 0} (names : EventKind → List X) (node : ℕ) (trace : List Bit) (k : ℕ) (act : Act) (x : X) →
    act_at node trace k ≡ Some act →
    Has (all_in names (outcome_kinds (sending_now (sending_of node (take k trace)) act.begun) act.outcome
    ++ reaped_kinds act.reaped)) x → Has (all_in names (bit_kinds node trace k)) x
unfolding bit_kinds
rest_reported names node trace k act x act_is has =
    subst (λ xs. Has xs x)
    (sym (all-append names (starts_of (act_at node trace k))
    (rest_of (sending_of node (take k trace)) (act_at node trace k))))
    (has-right (all_in names (starts_of (act_at node trace k))) _ x
    (subst (λ a. Has (all_in names (rest_of (sending_of node (take k trace)) a)) x) (sym act_is) has))

sending_by : (node : ℕ) (trace : List Bit) (k : ℕ) (act : Act) (sent : Transmission) → act_at node trace k ≡ Some act →
    sending_at node trace k ≡ Some sent → sending_now (sending_of node (take k trace)) act.begun ≡ Some sent
sending_by node trace k act sent act_is sends =
    ap (sending_now (sending_of node (take k trace))) (sym (begun_by node trace k act act_is)) ∙ sends

sent_reported : (node : ℕ) (trace : List Bit) (k : ℕ) (act : Act) (sent : Transmission) (label : Label) →
    act_at node trace k ≡ Some act → act.outcome ≡ Completed → sending_at node trace k ≡ Some sent →
    sent.label ≡ Some label →
    Has (all_in sent_in (bit_kinds node trace k)) (label.route, label.number, sent.frame)
sent_reported node trace k act sent label act_is outcome sends labelled =
    let P : List EventKind → Type 0 =
    λ ts. Has (all_in sent_in (ts ++ reaped_kinds act.reaped)) (label.route, label.number, sent.frame) in
    let line : outcome_kinds (sending_now (sending_of node (take k trace)) act.begun) act.outcome ≡ kinds.Completed
    sent.start sent.frame (Some label) ∷ [] =
    ap (λ o. outcome_kinds (sending_now (sending_of node (take k trace)) act.begun) o) outcome
    ∙ ap (λ s. outcome_kinds s Completed) (sending_by node trace k act sent act_is sends)
    ∙ ap (λ l. kinds.Completed sent.start sent.frame l ∷ []) labelled in
    rest_reported sent_in node trace k act (label.route, label.number, sent.frame) act_is (subst P (sym line) (inl refl))

reaped_reported : (node : ℕ) (trace : List Bit) (k : ℕ) (act : Act) (label : Label) → act_at node trace k ≡ Some act →
    act.reaped ≡ Some label → Has (all_in reaped_in (bit_kinds node trace k)) (label.route, label.number)
reaped_reported node trace k act label act_is reaped =
    let outcome = outcome_kinds (sending_now (sending_of node (take k trace)) act.begun) act.outcome in
    rest_reported reaped_in node trace k act (label.route, label.number) act_is
    (subst (λ xs. Has xs (label.route, label.number)) (sym (all-append reaped_in outcome (reaped_kinds act.reaped)))
    (has-right (all_in reaped_in outcome) (all_in reaped_in (reaped_kinds act.reaped)) (label.route, label.number)
    (subst (λ r. Has (all_in reaped_in (reaped_kinds r)) (label.route, label.number)) (sym reaped) (inl refl))))

label_of_begun : (node : ℕ) (trace : List Bit) (k : ℕ) (sent : Transmission) (label : Label) →
    begun_at node trace k ≡ Some sent → request_at node trace k ≡ Some label → sent.label ≡ Some label
label_of_begun node trace k sent label begun labelled = sym (ap (option_and_then (λ (s : Transmission). s.label)) begun)
    ∙ labelled

none_or_some : (found : Option Label) → (found ≡ None) ⊎ ((label : Label) × (found ≡ Some label))
none_or_some None = inl refl
none_or_some (Some label) = inr (label, refl)

reaped_by : (node : ℕ) (trace : List Bit) (k : ℕ) (act : Act) → act_at node trace k ≡ Some act →
    reaped_at node trace k ≡ act.reaped
reaped_by node trace k act is = ap (option_and_then (λ (a : Act). a.reaped)) is

pub requests_try_failures : {plan : SegmentPlan} {trace : List Bit} {levels : List Bool} {events : List Event} →
    Run plan trace levels events → (node : ℕ) → StartsUndone no_bus_past (kinds_of node events) →
    RequestsTryFailures plan trace node
requests_try_failures {plan = plan} {trace = trace} run node undone past label start end start' end' frame frame' state
    state' outcome outcome' p earlier later before one other =
    let first = attempts_are_reported run node past start end frame state outcome p earlier in
    let second = attempts_are_reported run node past start' end' frame' state' outcome' p later in
    let within : node < length plan.talkers.items + length plan.controllers.items =
    omega (
      arith,
      slice_get_within (firsts plan) node p.on p.on_is,
      length-append (map (λ (t : Talker). t.on) plan.talkers.items)
          (map (λ (c : Controller). c.on) plan.controllers.items),
      length-map {B = ℕ} plan.talkers.items (λ (t : Talker). t.on),
      length-map {B = ℕ} plan.controllers.items (λ (c : Controller). c.on),
    ) in
    let again = act_begins node trace (first_bit later) second.sent second.begins in
    let at = within_act node trace (first_bit later) again.0 again.1 in
    let free : IsUndone (grown no_bus_past (kinds_before node trace (first_bit later)))
    (label.route, label.number, second.sent.frame) =
    begun_reported node trace (first_bit later) again.0 second.sent label _ again.1 again.2
    (label_of_begun node trace (first_bit later) second.sent label second.begins other)
    (undone_at no_bus_past node trace (length trace) (first_bit later) at
    (subst (StartsUndone no_bus_past) (reported_run node run within) undone)) in
    let labelled = label_of_begun node trace (first_bit earlier) first.sent label first.begins one in
    let ends = ap ends_sending first.outcome_is ∙ ends_it (attempt_end past start end frame state outcome earlier) in
    let act = act_ends node trace end ends in
    let done = does_at node p.on end act.0 run p.on_is act.1 in (
      fails (attempt_end past start end frame state outcome earlier) (λ is.
          let completed : act.0.outcome ≡ Completed = sym (outcome_by node trace end act.0 act.1) ∙ first.outcome_is
          ∙ is in
          free.unsent (label.route, label.number, first.sent.frame)
          (among sent_in node trace (first_bit later) end (label.route, label.number, first.sent.frame) before
          (sent_reported node trace end act.0 first.sent label act.1 completed first.ends labelled)) refl),
      elim (none_or_some act.0.reaped) [
        | inl none ↦ reaped_by node trace end act.0 act.1 ∙ none
        | inr some ↦ absurd (
            let r = done.reaps some.0 some.1 in
            let same : r.sent ≡ first.sent =
            same_found r.sent first.sent (sym r.sends ∙ sending_by node trace end act.0 first.sent act.1 first.ends)
            in
            let its : some.0 ≡ label =
            same_found some.0 label (sym r.is_its_label ∙ ap (λ (s : Transmission). s.label) same ∙ labelled) in
            free.unreaped (among reaped_in node trace (first_bit later) end (label.route, label.number) before
            (subst (λ (l : Label). Has (all_in reaped_in (bit_kinds node trace end)) (l.route, l.number)) its
            (reaped_reported node trace end act.0 some.0 act.1 some.1))))
      ],
    )
