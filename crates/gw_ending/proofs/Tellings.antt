-- What is reported of a route, and left of it, grows by a line.
use Rattle.std.proofs.Common.{◌≡◌, ℕ, suc, ◌+◌, ◌<◌, ◌≤◌, ◌==◌, Bool, true, false, cond, List, [], ◌∷◌, ◌++◌, length}
use Rattle.std.proofs.Common.{take, get_or, refl, ap, ◌∙◌, arith}
use Rattle.std.proofs.Math.Seq.{take-suc}
use Rattle.std.proofs.lemmas.List.{map-append}
use Rattle.bx_core.specs.declared.entry.Entry.{Entry}
use Rattle.bx_core.specs.declared.left.Left.{Left}
use Rattle.bx_core.specs.States.{numbers}
use Rattle.bx_core.specs.Stands.{entries_of, entry_on_bus}
use Rattle.bx_core.specs.Ties.{left_of}
use Rattle.bx_core.specs.TxBus.{Item}
use Rattle.can_station.specs.declared.event.Event.{Event}
use Rattle.can_segment.specs.Brought.{all_in, sent_in, kinds_of}
use Rattle.can_segment.proofs.Brought.{all-append}
use Rattle.can_segment.proofs.LinesOfNodes.{of-append}

take_one : {X : Type 0} (xs : List X) (i : ℕ) (d : X) → i < length xs → take (i + 1) xs ≡ take i xs
    ++ get_or xs i d ∷ []
take_one xs i d lt = let e : i + 1 ≡ suc i = omega arith in rw e (take-suc xs i d lt)

entries-append : (route : ℕ) (xs ys : List Item) → entries_of route (xs ++ ys) ≡ entries_of route xs
    ++ entries_of route ys
entries-append route [] ys = refl
entries-append route (x ∷ xs) ys = by_test (x.0 == route) (entries-append route xs ys)
  where
    by_test : (b : Bool) → entries_of route (xs ++ ys) ≡ entries_of route xs ++ entries_of route ys →
        cond b (entry_on_bus x ∷ entries_of route (xs ++ ys)) (entries_of route (xs ++ ys))
        ≡ cond b (entry_on_bus x ∷ entries_of route xs) (entries_of route xs) ++ entries_of route ys
    by_test true e = ap (λ es. entry_on_bus x ∷ es) e
    by_test false e = e

pub sent_grows : (route node : ℕ) (events : List Event) (i : ℕ) (d : Event) → i < length events →
    entries_of route (all_in sent_in (kinds_of node (take (i + 1) events)))
    ≡ entries_of route (all_in sent_in (kinds_of node (take i events)))
    ++ entries_of route (all_in sent_in (kinds_of node (get_or events i d ∷ [])))
sent_grows route node events i d lt =
    let front = take i events in
    let one = get_or events i d ∷ [] in
    ap (λ es. entries_of route (all_in sent_in (kinds_of node es))) (take_one events i d lt)
    ∙ ap (λ ts. entries_of route (all_in sent_in ts)) (of-append node front one)
    ∙ ap (entries_of route) (all-append sent_in (kinds_of node front) (kinds_of node one))
    ∙ entries-append route (all_in sent_in (kinds_of node front)) (all_in sent_in (kinds_of node one))

-- what is left, as an entry
abbrev entry_left : Left → Entry
entry_left x = record { number = x.number; frame = x.frame }

left-append : (route : ℕ) (xs ys : List Left) → left_of route (xs ++ ys) ≡ left_of route xs ++ left_of route ys
left-append route [] ys = refl
left-append route (x ∷ xs) ys = by_test (x.route == route) (left-append route xs ys)
  where
    by_test : (b : Bool) → left_of route (xs ++ ys) ≡ left_of route xs ++ left_of route ys →
        cond b (entry_left x ∷ left_of route (xs ++ ys)) (left_of route (xs ++ ys))
        ≡ cond b (entry_left x ∷ left_of route xs) (left_of route xs) ++ left_of route ys
    by_test true e = ap (λ es. entry_left x ∷ es) e
    by_test false e = e

pub left_grows : (route : ℕ) (left : List Left) (i : ℕ) (d : Left) → i < length left →
    numbers (left_of route (take (i + 1) left)) ≡ numbers (left_of route (take i left))
    ++ numbers (left_of route (get_or left i d ∷ []))
left_grows route left i d lt =
    ap (λ es. numbers (left_of route es)) (take_one left i d lt)
    ∙ ap numbers (left-append route (take i left) (get_or left i d ∷ []))
    ∙ map-append (λ (e : Entry). e.number) (left_of route (take i left)) (left_of route (get_or left i d ∷ []))

-- no more is left of a route than of all
pub left-length : (route : ℕ) (left : List Left) → length (left_of route left) ≤ length left
left-length route [] = omega arith
left-length route (x ∷ xs) = by_test (x.route == route) (left-length route xs)
  where
    by_test : (b : Bool) → length (left_of route xs) ≤ length xs →
        length (cond b (entry_left x ∷ left_of route xs) (left_of route xs)) ≤ length (x ∷ xs)
    by_test true h = omega (arith, h)
    by_test false h = omega (arith, h)
