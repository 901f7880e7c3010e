-- When the mail for one thread is ready to start a request.
use Rattle.std.proofs.Common.{◌≡◌, ℕ, zero, suc, ◌+◌, ◌<◌, ◌&&◌, ◌⊎◌, inl, inr, ⊎_elim, Bool, true, false, cond, not}
use Rattle.std.proofs.Common.{Option, Some, None, List, [], ◌∷◌, ◌++◌, length, slice_get, refl, sym, ap, subst, ◌∙◌}
use Rattle.std.proofs.Common.{arith, length-append}
use Rattle.std.specs.Prelude.{option_map, IfSome}
use Rattle.std.specs.List.{find}
use Rattle.std.proofs.lemmas.Bool.{false≢true}
use Rattle.bx_core.specs.declared.waiting.Waiting.{Waiting}
use Rattle.bx_core.specs.declared.status.Status.{Status}
use Rattle.bx_core.specs.declared.status.Status.TheVariants.{Pending, Scheduled, Transmitting}
use Rattle.bx_core.specs.Lists.{Each}
use Rattle.bx_core.specs.Law.{Law, RestUntouched, count_busy, left_by}
use Rattle.bx_core.specs.Priority.{next}
use Rattle.bx_core.specs.States.{State, is_pending, is_scheduled, is_transmitting, in_turn}
use Rattle.bx_core.specs.PlainMail.{item_of, sending, starts_from, is_ready, readied, readied_from, AnswersReady}
use Rattle.bx_core.specs.PlainMail.{Starts, oldest}
use Rattle.bx_core.specs.TxBus.{Item}
use Rattle.bx_core.proofs.Words.{each_of, some_or_none}
use Rattle.bx_core.proofs.Queues.{next_alone, busy-append, touched_first}
use Rattle.bx_core.proofs.Found.{find-has, find-is, next_there, found, at_of, scheduled_alone, goes-schedule}
use Rattle.bx_core.proofs.Found.{stays-schedule}
use Rattle.bx_core.proofs.Sending.{bus_of, item_in, idle_head, bus-none, bus-idle, scheduled_idle}
use Rattle.bx_core.proofs.Least.{next_of, all_pending}

-- the scheduled one of these
abbrev pub turn_of : List Waiting → Option Waiting
turn_of q = find (λ (w : Waiting). is_scheduled w.status) q

pending_unscheduled : (st : Status) → is_pending st ≡ true → is_scheduled st ≡ false
pending_unscheduled Pending e = refl
pending_unscheduled Scheduled e = cc
pending_unscheduled Transmitting e = cc

turn-skip : (xs ys : List Waiting) → count_busy xs ≡ 0 → turn_of (xs ++ ys) ≡ turn_of ys
turn-skip [] ys e = refl
turn-skip (x ∷ xs) ys e =
    let h = idle_head (is_pending x.status) (count_busy xs) e in
    ap (λ b. cond b (Some x) (turn_of (xs ++ ys))) (pending_unscheduled x.status h.0) ∙ turn-skip xs ys h.1

one_less : (b : Bool) (n : ℕ) → b ≡ true → cond b 0 1 + n ≡ n
one_less true n e = omega arith
one_less false n e = cc

-- a request that a try schedules is alone: all the others are pending as it is
next_idle : (s : State) (w : Waiting) → Law s → next s ≡ Some w → is_pending w.status ≡ true → count_busy s.queue ≡ 0
next_idle s w l e pending =
    let n = next_there s.txfp s.queue w e in
    let sp = (found s w l n.0).split in
    let others = (next_alone s.txfp (at_of s w) w s.queue sp.before sp.behind sp.whole sp.place n.1 l.first).0 in
    let whole = ap count_busy sp.whole ∙ busy-append sp.before (w ∷ sp.behind) in
    let head = one_less (is_pending w.status) (count_busy sp.behind) pending in
    omega (arith, others, whole, head)

-- what a try to schedule finds: nothing changes, or one that is pending comes next
tries : (s : State) → Law s → (readied s ≡ s) ⊎ ((w : Waiting) × (next s ≡ Some w) × (is_pending w.status ≡ true))
tries s l = ⊎_elim
    (λ (none : next s ≡ None). inl (ap (readied_from s) none))
    (λ (some : (w : Waiting) × (next s ≡ Some w)). by_status some.0 some.1 (is_pending some.0.status) refl)
    (some_or_none (next s))
  where
    by_status : (w : Waiting) → next s ≡ Some w → (b : Bool) → is_pending w.status ≡ b → (readied s ≡ s)
        ⊎ ((w : Waiting) × (next s ≡ Some w) × (is_pending w.status ≡ true))
    by_status w e true pending = inr (w, e, pending)
    by_status w e false busy =
        let f = found s w l (next_there s.txfp s.queue w e).0 in
        inl (ap (readied_from s) e ∙ ap (left_by s) (stays-schedule s w f.at busy))

-- a try changes nothing where one is scheduled or transmitting
busy_same : (s : State) → Law s → (count_busy s.queue ≡ 0 → ⊥) → readied s ≡ s
busy_same s l busy = ⊎_elim
    (λ (same : readied s ≡ s). same)
    (λ (n : (w : Waiting) × (next s ≡ Some w) × (is_pending w.status ≡ true)). absurd
    (busy (next_idle s n.0 l n.1 n.2)))
    (tries s l)

-- one that is scheduled is there where one is busy and none is on the bus
busy_turn : (q : List Waiting) → (count_busy q ≡ 0 → ⊥) → bus_of q ≡ None → (w : Waiting) × (turn_of q ≡ Some w)
busy_turn [] busy idle = absurd (busy refl)
busy_turn (x ∷ q) busy idle = by_status x.status refl (busy_turn q)
  where
    by_status : (st : Status) → x.status ≡ st →
        ((count_busy q ≡ 0 → ⊥) → bus_of q ≡ None → (w : Waiting) × (turn_of q ≡ Some w)) →
        (w : Waiting) × (turn_of (x ∷ q) ≡ Some w)
    by_status Pending e more_of =
        let none : bus_of q ≡ None = ap (λ s. cond (is_transmitting s) (Some x) (bus_of q)) (sym e) ∙ idle in
        let more =
        more_of (λ zero. busy (one_less (is_pending x.status) (count_busy q) (ap is_pending e) ∙ zero)) none in
        (more.0, ap (λ s. cond (is_scheduled s) (Some x) (turn_of q)) e ∙ more.1)
    by_status Scheduled e more_of = (x, ap (λ s. cond (is_scheduled s) (Some x) (turn_of q)) e)
    by_status Transmitting e more_of =
        let sends : Some x ≡ None = ap (λ s. cond (is_transmitting s) (Some x) (bus_of q)) (sym e) ∙ idle in
        cc

-- none of these was asked to end
abbrev Unasked : List Waiting → Type 0
Unasked q = Each (λ (w : Waiting). w.abort_asked ≡ false) q

-- the request that is scheduled may start
turn_ready : (s : State) (w : Waiting) → in_turn s ≡ Some w → Unasked s.queue → is_ready s ≡ true
turn_ready s w e unasked =
    let is : Waiting → Bool = λ (y : Waiting). is_scheduled y.status in
    let scheduled = find-is is s.queue w e in
    let free = each_of (λ (y : Waiting). y.abort_asked ≡ false) s.queue w unasked (find-has is s.queue w e) in
    ap starts_from e ∙ ap (λ b. b && not w.abort_asked) scheduled ∙ ap not free

ready_idle : (s : State) → Law s → count_busy s.queue ≡ 0 → 0 < length s.queue → Unasked s.queue →
    is_ready (readied s) ≡ true
ready_idle s l idle some unasked =
    let x = next_of s.txfp s.queue idle some in
    let w = x.0 in
    let there = next_there s.txfp s.queue w x.1 in
    let f = found s w l there.0 in
    let sp = f.split in
    let y : Waiting = record w { status = Scheduled } in
    let went = goes-schedule s w f.at (all_pending s.queue w idle there.0) there.1 in
    let whole = ap count_busy sp.whole ∙ busy-append sp.before (w ∷ sp.behind) in
    let before : count_busy sp.before ≡ 0 = omega (arith, idle, whole) in
    let free = each_of (λ (z : Waiting). z.abort_asked ≡ false) s.queue w unasked there.0 in
    ap is_ready (ap (readied_from s) x.1 ∙ ap (left_by s) went) ∙ ap (λ q. starts_from (turn_of q)) (sp.set y)
    ∙ ap starts_from (turn-skip sp.before (y ∷ sp.behind) before) ∙ ap not free

ready_busy : (s : State) → Law s → (count_busy s.queue ≡ 0 → ⊥) → sending s ≡ None → Unasked s.queue →
    is_ready (readied s) ≡ true
ready_busy s l busy idle unasked =
    let w = busy_turn s.queue busy (none_of (bus_of s.queue) idle) in
    ap is_ready (busy_same s l busy) ∙ turn_ready s w.0 w.1 unasked
  where
    none_of : (o : Option Waiting) → option_map item_of o ≡ None → o ≡ None
    none_of None e = refl
    none_of (Some w) e = cc

-- what may start waits, and nothing is on the bus
turned : (s : State) → Law s → is_ready s ≡ true → (0 < length s.queue) × (sending s ≡ None)
turned s l e = ⊎_elim
    (λ (none : in_turn s ≡ None). absurd (false≢true (sym (ap starts_from none) ∙ e)))
    (λ (some : (w : Waiting) × (in_turn s ≡ Some w)).
    let w = some.0 in
    let a = scheduled_alone s w l some.1 in
    let is : Waiting → Bool = λ (y : Waiting). is_scheduled y.status in
    let scheduled = find-is is s.queue w some.1 in (
      omega (arith, ap length a.split.whole, length-append a.split.before (w ∷ a.split.behind)),
      ap item_in a.split.whole
          ∙ ap (option_map item_of) (bus-idle a.split.before a.split.behind w a.before a.behind
          (scheduled_idle w.status scheduled)),
    ))
    (some_or_none (in_turn s))

ready_tells : (s : State) → Law s → is_ready (readied s) ≡ true → (0 < length s.queue) × (sending s ≡ None)
ready_tells s l e = ⊎_elim
    (λ (same : readied s ≡ s). turned s l (ap is_ready (sym same) ∙ e))
    (λ (n : (w : Waiting) × (next s ≡ Some w) × (is_pending w.status ≡ true)).
    let sp = (found s n.0 l (next_there s.txfp s.queue n.0 n.1).0).split in (
      omega (arith, ap length sp.whole, length-append sp.before (n.0 ∷ sp.behind)),
      ap (option_map item_of) (bus-none s.queue (next_idle s n.0 l n.1 n.2)),
    ))
    (tries s l)

pub answers_ready : (s : State) (ready : Bool) → Law s → ready ≡ is_ready (readied s) → AnswersReady s ready
answers_ready s ready l is = record {
  waits = λ e. (ready_tells s l (sym is ∙ e)).0;
  idle = λ e. (ready_tells s l (sym is ∙ e)).1;
  serves = λ some idle unasked. is ∙ by_busy (count_busy s.queue) refl some idle unasked;
}
  where
    by_busy : (n : ℕ) → count_busy s.queue ≡ n → 0 < length s.queue → sending s ≡ None → Unasked s.queue →
        is_ready (readied s) ≡ true
    by_busy zero e some idle unasked = ready_idle s l e some unasked
    by_busy (suc n) e some idle unasked = ready_busy s l (λ none. absurd (omega (arith, none, e))) idle unasked

-- by order of requests, what starts is the oldest
pub starts_oldest : (s t : State) (x : Option Item) → Law s → Starts s x t → s.txfp ≡ true →
    IfSome x (λ y. oldest s ≡ Some y)
starts_oldest s t None l h by_order = tt
starts_oldest s t (Some x) l h by_order =
    let w = h.0 in
    let a = scheduled_alone s w l h.1 in
    let is : Waiting → Bool = λ (y : Waiting). is_scheduled y.status in
    let scheduled = find-is is s.queue w h.1 in
    let none = touched_first a.split.before a.split.behind w (subst RestUntouched a.split.whole (l.first by_order))
    (λ u. not_both w.status u.pending scheduled) in
    ap (λ q. option_map item_of (slice_get q 0)) (a.split.whole ∙ ap (λ before. before ++ w ∷ a.split.behind) none)
    ∙ ap Some (sym h.2)
  where
    not_both : (st : Status) → st ≡ Pending → is_scheduled st ≡ true → ⊥
    not_both st e f = false≢true (ap is_scheduled (sym e) ∙ f)
