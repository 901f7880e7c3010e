-- What the events of a bit say of one node.
use Rattle.std.proofs.Common.{◌≡◌, ◌≢◌, ℕ, zero, suc, ◌+◌, ◌<◌, ◌≤◌, ◌==◌, cond, List, [], ◌∷◌, ◌++◌, length}
use Rattle.std.proofs.Common.{refl, ap, arith, ◌∙◌, eq-eqb, ne_eqb, inl, inr}
use Rattle.std.proofs.lemmas.Bool.Decides.{eqb_tells}
use Rattle.std.proofs.lemmas.List.{append-nil}
use Rattle.std.proofs.lemmas.List.Elements.{filter-append}
use Rattle.can_station.specs.declared.event.Event.{Event}
use Rattle.can_station.specs.declared.event.EventKind.{EventKind}
use Rattle.can_station.specs.Lines.{lines}
use Rattle.can_segment.specs.Queues.{events_of}
use Rattle.can_segment.specs.Tells.{starts_of, rest_of, lines_from, events_at}
use Rattle.can_segment.specs.Traces.{Bit, act_of, sending_of}

pub events-append : (node : ℕ) (xs ys : List Event) → events_of node (xs ++ ys) ≡ events_of node xs ++ events_of node ys
events-append node xs ys = filter-append (λ (event : Event). event.node == node) xs ys

same_node : (node bit : ℕ) (ts : List EventKind) → events_of node (lines bit node ts) ≡ lines bit node ts
same_node node bit [] = refl
same_node node bit (t ∷ ts) =
    let event : Event = record { bit = bit; node = node; kind = t } in
    ap (λ b. cond b (event ∷ events_of node (lines bit node ts)) (events_of node (lines bit node ts)))
    (eq-eqb node node refl)
    ∙ ap (λ es. event ∷ es) (same_node node bit ts)

other_node : (node bit n : ℕ) (ts : List EventKind) → n ≢ node → events_of node (lines bit n ts) ≡ []
other_node node bit n [] ne = refl
other_node node bit n (t ∷ ts) ne =
    let event : Event = record { bit = bit; node = n; kind = t } in
    ap (λ b. cond b (event ∷ events_of node (lines bit n ts)) (events_of node (lines bit n ts))) (ne_eqb n node ne)
    ∙ other_node node bit n ts ne

from_other : (tells : ℕ → List EventKind) (bit first count node : ℕ) → node < first →
    events_of node (lines_from tells bit first count) ≡ []
from_other tells bit first zero node h = refl
from_other tells bit first (suc more) node h =
    events-append node (lines bit first (tells first)) (lines_from tells bit (suc first) more)
    ∙ ap (λ es. es ++ events_of node (lines_from tells bit (suc first) more))
    (other_node node bit first (tells first) (λ e. omega (arith, e, h)))
    ∙ from_other tells bit (suc first) more node (omega (arith, h))

from_own : (tells : ℕ → List EventKind) (bit first count node : ℕ) → first ≤ node → node < first + count →
    events_of node (lines_from tells bit first count) ≡ lines bit node (tells node)
from_own tells bit first zero node low high = absurd (omega (arith, low, high))
from_own tells bit first (suc more) node low high = elim (eqb_tells first node) [
  | inl same ↦ events-append node (lines bit first (tells first)) (lines_from tells bit (suc first) more)
      ∙ ap (λ es. es ++ events_of node (lines_from tells bit (suc first) more))
      (ap (λ n. events_of node (lines bit n (tells n))) same.1 ∙ same_node node bit (tells node))
      ∙ ap (λ es. lines bit node (tells node) ++ es)
      (from_other tells bit (suc first) more node (omega (arith, same.1)))
      ∙ append-nil (lines bit node (tells node))
  | inr other ↦ events-append node (lines bit first (tells first)) (lines_from tells bit (suc first) more)
      ∙ ap (λ es. es ++ events_of node (lines_from tells bit (suc first) more))
      (other_node node bit first (tells first) other.1)
      ∙ from_own tells bit (suc first) more node (let ne = other.1 in omega (arith, low, ne)) (omega (arith, high))
]

-- first what starts, then the rest
pub bit_events : (node : ℕ) (trace : List Bit) (bit : Bit) → node < length bit.acts →
    events_of node (events_at trace bit) ≡ lines (length trace) node (starts_of (act_of node bit))
    ++ lines (length trace) node (rest_of (sending_of node trace) (act_of node bit))
bit_events node trace bit within =
    let starts = λ (k : ℕ). starts_of (act_of k bit) in
    let others = λ (k : ℕ). rest_of (sending_of k trace) (act_of k bit) in
    events-append node (lines_from starts (length trace) 0 (length bit.acts))
    (lines_from others (length trace) 0 (length bit.acts))
    ∙ ap (λ es. es ++ events_of node (lines_from others (length trace) 0 (length bit.acts)))
    (from_own starts (length trace) 0 (length bit.acts) node (omega arith) (omega (arith, within)))
    ∙ ap (λ es. lines (length trace) node (starts node) ++ es)
    (from_own others (length trace) 0 (length bit.acts) node (omega arith) (omega (arith, within)))
