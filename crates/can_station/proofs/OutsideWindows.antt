-- What all faults of a list do at a bit is what those of its window do.
use Rattle.std.proofs.Common.{◌≡◌, ℕ, zero, suc, ◌+◌, ◌-◌, ◌<◌, ◌≤◌, ◌==◌, ◌&&◌, ◌||◌, nat_le, nat_lt, cond, Bool, true, false, Some, List}
use Rattle.std.proofs.Common.{[], ◌∷◌, Option, inl, inr, filter, map, take, drop, slice_get, option_map, refl, sym, ap, arith, ◌∙◌}
use Rattle.std.proofs.lemmas.Bool.Decides.{leb_tells}
use Rattle.std.proofs.lemmas.Option.{slice_get-map}
use Rattle.can_station.specs.CurrentFaults.{InvertsSame, IsReady, SetsLine, line_range, node_range}
use Rattle.can_station.specs.declared.current_faults.CurrentFaults.{CurrentFaults}
use Rattle.can_station.specs.Faults.{is_inverted, line_level, stands}
use Rattle.can_station.specs.FaultWindows.{AreBehind, IsWindow}
use Rattle.can_station.specs.declared.fault_window.BitRange.{BitRange}
use Rattle.can_station.specs.declared.fault_window.FaultWindow.{FaultWindow}
use Rattle.can_station.specs.declared.plan.LineFault.{LineFault}
use Rattle.can_station.specs.declared.plan.NodeFault.{NodeFault}

-- the elements of a list that pass a test stand in a part of it
none_pass : {X : Type 0} (p : X → Bool) (xs : List X) → ((k : ℕ) (x : X) → slice_get xs k ≡ Some x → p x ≡ false) →
    filter p xs ≡ []
none_pass p [] h = refl
none_pass p (x ∷ xs) h = ap (λ b. cond b (x ∷ filter p xs) (filter p xs)) (h zero x refl)
    ∙ none_pass p xs (λ k y e. h (suc k) y e)

head_filter : {X : Type 0} (p : X → Bool) (xs : List X) (count : ℕ) →
    ((k : ℕ) (x : X) → count ≤ k → slice_get xs k ≡ Some x → p x ≡ false) → filter p (take count xs) ≡ filter p xs
head_filter p [] zero h = refl
head_filter p [] (suc count) h = refl
head_filter p (x ∷ xs) zero h = sym (none_pass p (x ∷ xs) (λ k y e. h k y (omega arith) e))
head_filter p (x ∷ xs) (suc count) h = by (p x)
    (head_filter p xs count (λ k y more e. h (suc k) y (omega (arith, more)) e))
  where
    by : (b : Bool) → filter p (take count xs) ≡ filter p xs →
        cond b (x ∷ filter p (take count xs)) (filter p (take count xs)) ≡ cond b (x ∷ filter p xs) (filter p xs)
    by true e = ap (λ ys. x ∷ ys) e
    by false e = e

window_filter : {X : Type 0} (p : X → Bool) (xs : List X) (first count : ℕ) →
    ((k : ℕ) (x : X) → k < first → slice_get xs k ≡ Some x → p x ≡ false) →
    ((k : ℕ) (x : X) → first + count ≤ k → slice_get xs k ≡ Some x → p x ≡ false) →
    filter p (take count (drop first xs)) ≡ filter p xs
window_filter p xs zero count over behind =
    head_filter p xs count (λ k x more e. behind k x (omega (arith, more)) e)
window_filter p [] (suc first) zero over behind = refl
window_filter p [] (suc first) (suc count) over behind = refl
window_filter p (x ∷ xs) (suc first) count over behind =
    window_filter p xs first count (λ k y less e. over (suc k) y (omega (arith, less)) e)
    (λ k y more e. behind (suc k) y (omega (arith, more)) e)
    ∙ sym (ap (λ b. cond b (x ∷ filter p xs) (filter p xs)) (over zero x (omega arith) refl))

-- what faults do is what those of them do that stand
line_filter : (faults : List LineFault) (at : ℕ) (driven : Bool) →
    line_level (filter (λ fault. stands fault.bit fault.until at) faults) at driven ≡ line_level faults at driven
line_filter [] at driven = refl
line_filter (fault ∷ faults) at driven =
    by (stands fault.bit fault.until at) refl (line_filter faults at fault.level) (line_filter faults at driven)
  where
    those : List LineFault
    those = filter (λ (f : LineFault). stands f.bit f.until at) faults

    by : (b : Bool) → stands fault.bit fault.until at ≡ b →
        line_level those at fault.level ≡ line_level faults at fault.level →
        line_level those at driven ≡ line_level faults at driven →
        line_level (cond b (fault ∷ those) those) at driven ≡ line_level faults at (cond b fault.level driven)
    by true is set kept = ap (λ b. line_level those at (cond b fault.level driven)) is ∙ set
    by false is set kept = kept

and_false : (b : Bool) → (b && false) ≡ false
and_false true = refl
and_false false = refl

inverted_filter : (faults : List NodeFault) (node at : ℕ) →
    is_inverted (filter (λ fault. stands fault.bit fault.until at) faults) node at ≡ is_inverted faults node at
inverted_filter [] node at = refl
inverted_filter (fault ∷ faults) node at = by (stands fault.bit fault.until at) refl (inverted_filter faults node at)
  where
    those : List NodeFault
    those = filter (λ (f : NodeFault). stands f.bit f.until at) faults

    by : (b : Bool) → stands fault.bit fault.until at ≡ b → is_inverted those node at ≡ is_inverted faults node at →
        is_inverted (cond b (fault ∷ those) those) node at
        ≡ ((fault.node == node && b) || is_inverted faults node at)
    by true is more = ap (λ b. (fault.node == node && b) || is_inverted those node at) is
        ∙ ap (λ r. (fault.node == node && true) || r) more
    by false is more = more
        ∙ sym (ap (λ b. b || is_inverted faults node at) (and_false (fault.node == node)))

-- a range that is over, or begins later, does not stand
over_not : (from until bit at : ℕ) → until ≤ bit → bit ≤ at → stands from until at ≡ false
over_not from until bit at over late = elim (leb_tells (suc at) until) [
  | inl is ↦ absurd (omega (arith, is.1, over, late))
  | inr isnt ↦ ap (λ b. nat_le from at && b) isnt.0 ∙ and_false (nat_le from at)
]

later_not : (from until limit at : ℕ) → limit ≤ from → at < limit → stands from until at ≡ false
later_not from until limit at later early = elim (leb_tells from at) [
  | inl is ↦ absurd (omega (arith, is.1, later, early))
  | inr isnt ↦ ap (λ b. b && nat_lt at until) isnt.0
]

-- no fault outside the window stands at these bits
outside : {X : Type 0} (range_of : X → BitRange) (faults : List X) (window : FaultWindow) (bit limit at : ℕ) →
    IsWindow bit window → window.ranges.items ≡ map range_of faults → AreBehind limit window → bit ≤ at → at < limit →
    filter (λ fault. stands (range_of fault).bit (range_of fault).until at)
    (take (window.next - window.first) (drop window.first faults))
    ≡ filter (λ fault. stands (range_of fault).bit (range_of fault).until at) faults
outside {X = X} range_of faults window bit limit at is ranges behind from before =
    window_filter (λ fault. stands (range_of fault).bit (range_of fault).until at) faults window.first
    (window.next - window.first)
    (λ k fault less e. over_not (range_of fault).bit (range_of fault).until bit at
    (is.over k (range_of fault) less (there k fault e)) from)
    (λ k fault more e. later_not (range_of fault).bit (range_of fault).until limit at
    (behind k (range_of fault) (omega (arith, more, is.order)) (there k fault e)) before)
  where
    there : (k : ℕ) (fault : X) → slice_get faults k ≡ Some fault →
        slice_get window.ranges.items k ≡ Some (range_of fault)
    there k fault e = ap (λ (rs : List BitRange). slice_get rs k) ranges ∙ slice_get-map range_of faults k
        ∙ ap (option_map range_of) e

pub sets_window : (faults : List LineFault) (window : FaultWindow) (bit until limit less : ℕ) (level : Option Bool) →
    IsWindow bit window → window.ranges.items ≡ map line_range faults → AreBehind limit window →
    SetsLine (take (window.next - window.first) (drop window.first faults)) bit until level → less ≤ until →
    less ≤ limit → SetsLine faults bit less level
sets_window faults window bit until limit less level is ranges behind sets a b at driven from before =
    sym (line_filter faults at driven)
    ∙ ap (λ fs. line_level fs at driven) (sym (outside line_range faults window bit limit at is ranges behind from
    (omega (arith, before, b))))
    ∙ line_filter (take (window.next - window.first) (drop window.first faults)) at driven
    ∙ sets at driven from (omega (arith, before, a))

pub inverts_window : (faults : List NodeFault) (window : FaultWindow) (bit until limit less : ℕ)
    (here : List NodeFault) → IsWindow bit window → window.ranges.items ≡ map node_range faults →
    AreBehind limit window →
    InvertsSame (take (window.next - window.first) (drop window.first faults)) bit until here → less ≤ until →
    less ≤ limit → InvertsSame faults bit less here
inverts_window faults window bit until limit less here is ranges behind same a b at node from before =
    same at node from (omega (arith, before, a))
    ∙ sym (inverted_filter (take (window.next - window.first) (drop window.first faults)) node at)
    ∙ ap (λ fs. is_inverted fs node at) (outside node_range faults window bit limit at is ranges behind from
    (omega (arith, before, b)))
    ∙ inverted_filter faults node at

-- a window stays one at later bits
pub window_later : (bit next : ℕ) (window : FaultWindow) → bit ≤ next → IsWindow bit window → IsWindow next window
window_later bit next window later h = record {
  earliest = h.earliest;
  order = h.order;
  within = h.within;
  over = λ k range less e. let over = h.over k range less e in omega (arith, over, later);
}

pub ready_later : (bit next : ℕ) (faults : CurrentFaults) → bit ≤ next → IsReady bit faults → IsReady next faults
ready_later bit next faults later h = record {
  room = h.room;
  line = window_later bit next faults.line_window later h.line;
  nodes = window_later bit next faults.node_window later h.nodes;
  line_ranges = h.line_ranges;
  node_ranges = h.node_ranges;
}
