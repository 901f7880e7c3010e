-- The calls of the bus side: what they add to its past, and what they leave as it was.
use Rattle.std.proofs.Common.{◌≡◌, ℕ, ◌==◌, ◌&&◌, ◌⊎◌, inl, inr, ⊎_elim, Bool, true, false, cond, not, List, [], ◌∷◌}
use Rattle.std.proofs.Common.{◌++◌, length, set, refl, sym, ap, ◌∙◌, subst, Option, Some, None, Ok, eq-eqb}
use Rattle.std.specs.Prelude.{IfSome, IfNone, option_map}
use Rattle.std.specs.List.{remove}
use Rattle.std.proofs.lemmas.Bool.{and_parts}
use Rattle.std.proofs.lemmas.List.{append-nil, length-set}
use Rattle.bx_core.specs.declared.plain_mail.PlainMail.{PlainMail}
use Rattle.bx_core.specs.declared.waiting.Waiting.{Waiting}
use Rattle.bx_core.specs.declared.status.Status.TheVariants.{Scheduled, Transmitting}
use Rattle.bx_core.specs.Lists.{Each, Has}
use Rattle.bx_core.specs.States.{State, lists_of, is_pending, is_scheduled}
use Rattle.bx_core.specs.Priority.{next}
use Rattle.bx_core.specs.Steps.{with_waiting, without, done_lists, reaped_lists, failed, reaped}
use Rattle.bx_core.specs.Law.{Law, left_by}
use Rattle.bx_core.specs.TxBus.{Item, BusPast, label_of, after_start, after_complete, after_fail}
use Rattle.bx_core.specs.PlainMail.{core_of, short_of, item_of, sending, readied, readied_from, Starts, Completes}
use Rattle.bx_core.specs.PlainMail.{Fails}
use Rattle.bx_core.specs.Stands.{BusStands, RouteStands, BusKeeps, entry_on_bus, asked_of}
use Rattle.bx_core.proofs.Words.{each-append, some_or_none}
use Rattle.bx_core.proofs.Queues.{Split}
use Rattle.bx_core.proofs.Found.{IsAlone, at_of, found, next_there, scheduled_alone, sent_alone, goes-schedule}
use Rattle.bx_core.proofs.Found.{stays-schedule, was_started, was_completed, was_failed, was_reaped, failed_at_place}
use Rattle.bx_core.proofs.Sending.{item_in, item-drop, bus-there, bus-idle, sending-yes, pending_idle, scheduled_idle}
use Rattle.bx_core.proofs.Standing.{each_rest, mark-bus, mark-route}
use Rattle.bx_core.proofs.Leaving.{known_there, idle_without, leave-route, done-bus, reaped-bus}

-- start

pub starts-bus : (s t : State) (x : Option Item) (past : BusPast) → Law s → Starts s x t → BusStands s past →
    BusStands t (after_start past x)
starts-bus s t None past l h b = subst (λ (v : State). BusStands v (after_start past None)) (sym h.1)
    (subst (BusStands s) (ap (λ (xs : List Item). record past { started = xs }) (sym (append-nil past.started))) b)
starts-bus s t (Some x) past l h b =
    let w = h.0 in
    let a = scheduled_alone s w l h.1 in
    let m = was_started s t w a.at h.3 in
    let P : Item → Type 0 = λ (y : Item). Has (lists_of s y.0).requested (entry_on_bus y) in
    let k = mark-bus s (at_of s w) (record w { status = Transmitting }) past b in
    subst (λ (v : State). BusStands v (after_start past (Some x))) m.1 (record {
      started_known =
          each-append P past.started (x ∷ []) b.started_known (subst P (sym h.2) (known_there s w a.split l), tt);
      done_is = k.done_is;
      reaped_is = k.reaped_is;
    })

pub starts-idle : (s t : State) (x : Option Item) → Law s → Starts s x t → IfSome x (λ y. sending s ≡ None)
starts-idle s t None l h = tt
starts-idle s t (Some x) l h =
    let w = h.0 in
    let a = scheduled_alone s w l h.1 in
    let may = and_parts (is_scheduled w.status) (not w.abort_asked) (was_started s t w a.at h.3).0 in
    ap item_in a.split.whole
    ∙ ap (option_map item_of) (bus-idle a.split.before a.split.behind w a.before a.behind
    (scheduled_idle w.status may.0))

pub starts-sends : (s t : State) (x : Option Item) → Law s → Starts s x t → IfSome x (λ y. sending t ≡ Some y)
starts-sends s t None l h = tt
starts-sends s t (Some x) l h =
    let w = h.0 in
    let y : Waiting = record w { status = Transmitting } in
    let a = scheduled_alone s w l h.1 in
    let m = was_started s t w a.at h.3 in
    ap sending (sym m.1) ∙ ap item_in (a.split.set y)
    ∙ ap (option_map item_of) (bus-there a.split.before a.split.behind y a.before refl) ∙ ap Some (sym h.2)

pub starts-none : (s t : State) (x : Option Item) → Starts s x t → IfNone x (sending t ≡ sending s)
starts-none s t None h = ap sending h.1
starts-none s t (Some x) h = tt

-- after a start that found nothing on the bus, what it answered is there: for callers that know the trait's clauses
-- alone
pub start_transmits : (old new result : Option Item) → IfSome result (λ x. old ≡ None) →
    IfSome result (λ x. new ≡ Some x) → IfNone result (new ≡ old) → old ≡ None → new ≡ result
start_transmits old new None idle sends none e = none ∙ e
start_transmits old new (Some x) idle sends none e = sends

pub starts-keeps : (a b : PlainMail) (x : Option Item) → Law (core_of a) → Starts (core_of a) x (core_of b) →
    short_of b ≡ short_of a → BusKeeps a b
starts-keeps a b None l h short = record {
  routes = ap (λ (v : State). length v.routes) h.1;
  priority = ap (λ (v : State). v.txfp) h.1;
  short = short;
  stand = λ r past k. subst (λ (v : State). RouteStands v r past) (sym h.1) k;
}
starts-keeps a b (Some x) l h short =
    let w = h.0 in
    let f = scheduled_alone (core_of a) w l h.1 in
    let m = was_started (core_of a) (core_of b) w f.at h.3 in
    record {
      routes = ap (λ (v : State). length v.routes) (sym m.1);
      priority = ap (λ (v : State). v.txfp) (sym m.1);
      short = short;
      stand = λ r past k. subst (λ (v : State). RouteStands v r past) m.1
          (mark-route (core_of a) w Transmitting r past f.split k);
    }

-- complete

pub completes-bus : (s t : State) (past : BusPast) → Law s → Completes s t → BusStands s past →
    BusStands t (after_complete past (sending s))
completes-bus s t past l h b =
    let w = h.0 in
    let a = sent_alone s w l h.1 in
    let m = was_completed s t w a.at h.2 in
    subst (λ (o : Option Item). BusStands t (after_complete past o)) (sym (sending-yes s w h.1))
    (subst (λ (v : State). BusStands v (after_complete past (Some (item_of w)))) m.1 (done-bus s w past a.split l b))

pub completes-idle : (s t : State) → Law s → Completes s t → sending t ≡ None
completes-idle s t l h =
    let w = h.0 in
    let a = sent_alone s w l h.1 in
    let m = was_completed s t w a.at h.2 in
    ap sending (sym m.1) ∙ idle_without s w w.route (done_lists (lists_of s w.route) w) a

pub completes-keeps : (a b : PlainMail) → Law (core_of a) → Completes (core_of a) (core_of b) →
    short_of b ≡ short_of a → BusKeeps a b
completes-keeps a b l h short =
    let s = core_of a in
    let w = h.0 in
    let f = sent_alone s w l h.1 in
    let m = was_completed s (core_of b) w f.at h.2 in
    let x = done_lists (lists_of s w.route) w in
    record {
      routes = ap (λ (v : State). length v.routes) (sym m.1) ∙ length-set s.routes w.route x;
      priority = ap (λ (v : State). v.txfp) (sym m.1);
      short = short;
      stand = λ r past k. subst (λ (v : State). RouteStands v r past) m.1
          (leave-route s w x r past f.split l refl refl (λ is waits reaped. reaped) k);
    }

-- fail

remove-here : (xs ys : List Waiting) (x : Waiting) → remove (xs ++ x ∷ ys) (length xs) ≡ xs ++ ys
remove-here [] ys x = refl
remove-here (z ∷ zs) ys x = ap (λ (l : List Waiting). z ∷ l) (remove-here zs ys x)

-- after a failure that reaped, as if the request had left at once
failed_reaped : (s u t : State) (w : Waiting) → IsAlone s w → failed s w.mailbox ≡ Ok u → reaped u w.mailbox ≡ Ok t →
    without s (at_of s w) w.route (reaped_lists (lists_of s w.route) w) ≡ t
failed_reaped s u t w a f g =
    let m = was_failed s u w a.at f in
    let x : Waiting = record w { status = Scheduled } in
    let there = failed_at_place s u w a.at f in
    let n = was_reaped u t x there.0 g in
    let rest : remove s.queue (at_of s w) ≡ remove (set s.queue (at_of s w) x) (at_of s w) =
    a.split.rest ∙ sym (ap (λ (q : List Waiting). remove q (at_of s w)) (a.split.set x)
    ∙ ap (remove (a.split.before ++ x ∷ a.split.behind)) a.split.place
    ∙ remove-here a.split.before a.split.behind x) in
    ap (λ (q : List Waiting). record s {
      queue = q;
      routes = set s.routes w.route (reaped_lists (lists_of s w.route) w);
    }) rest
    ∙ ap (λ (v : State). without v (at_of s w) w.route (reaped_lists (lists_of v w.route) x)) m.1
    ∙ ap (λ (k : ℕ). without u k w.route (reaped_lists (lists_of u w.route) x)) (sym there.1) ∙ n.1

pub fails-bus : (s t : State) (x : Option (ℕ × ℕ)) (past : BusPast) → Law s → Fails s x t → BusStands s past →
    BusStands t (after_fail past x)
fails-bus s t None past l h b =
    let w = h.0 in
    let a = sent_alone s w l h.1 in
    let m = was_failed s t w a.at h.3 in
    let k = mark-bus s (at_of s w) (record w { status = Scheduled }) past b in
    subst (λ (v : State). BusStands v (after_fail past None)) m.1
    (subst (BusStands (with_waiting s (at_of s w) (record w { status = Scheduled })))
    (ap (λ (xs : List (ℕ × ℕ)). record past { reaped = xs }) (sym (append-nil past.reaped))) k)
fails-bus s t (Some x) past l h b =
    let w = h.0 in
    let a = sent_alone s w l h.2 in
    subst (λ (y : ℕ × ℕ). BusStands t (after_fail past (Some y))) (sym h.4)
    (subst (λ (v : State). BusStands v (after_fail past (Some (w.route, w.number)))) (failed_reaped s h.1 t w a h.5 h.6)
    (reaped-bus s w past a.split l b))

pub fails-reaped : (s t : State) (x : Option (ℕ × ℕ)) → Fails s x t →
    IfSome x (λ y. option_map label_of (sending s) ≡ Some y)
fails-reaped s t None h = tt
fails-reaped s t (Some x) h = ap (option_map label_of) (sending-yes s h.0 h.2) ∙ ap Some (sym h.4)

pub fails-idle : (s t : State) (x : Option (ℕ × ℕ)) → Law s → Fails s x t → sending t ≡ None
fails-idle s t None l h =
    let w = h.0 in
    let y : Waiting = record w { status = Scheduled } in
    let a = sent_alone s w l h.1 in
    let m = was_failed s t w a.at h.3 in
    ap sending (sym m.1) ∙ ap item_in (a.split.set y)
    ∙ ap (option_map item_of) (bus-idle a.split.before a.split.behind y a.before a.behind refl)
fails-idle s t (Some x) l h =
    let w = h.0 in
    let a = sent_alone s w l h.2 in
    ap sending (sym (failed_reaped s h.1 t w a h.5 h.6))
    ∙ idle_without s w w.route (reaped_lists (lists_of s w.route) w) a

asked_head : (P : ℕ → Type 0) (w : Waiting) (ws : List Waiting) → w.abort_asked ≡ true →
    Each P (asked_of w.route (w ∷ ws)) → P w.number
asked_head P w ws asked a =
    let is : (w.route == w.route) ≡ true = eq-eqb w.route w.route refl in
    let asks : ((w.route == w.route) && w.abort_asked) ≡ true = rw (is, asked) refl in
    let all : Each P (w.number ∷ asked_of w.route ws) =
    subst (λ (b : Bool). Each P (cond b (w.number ∷ asked_of w.route ws) (asked_of w.route ws))) asks a in
    all.0

-- the number of a request whose abort was asked is among those asked to end
asked_behind : (P : ℕ → Type 0) (w : Waiting) (xs ys : List Waiting) → Each P (asked_of w.route (xs ++ w ∷ ys)) →
    Each P (asked_of w.route (w ∷ ys))
asked_behind P w [] ys a = a
asked_behind P w (x ∷ xs) ys a = asked_behind P w xs ys
    (each_rest P ((x.route == w.route) && x.abort_asked) x.number (asked_of w.route (xs ++ w ∷ ys)) a)

asked_there : (P : ℕ → Type 0) (s : State) (w : Waiting) (sp : Split w.mailbox s.queue w) → w.abort_asked ≡ true →
    Each P (asked_of w.route s.queue) → P w.number
asked_there P s w sp asked a =
    asked_head P w sp.behind asked (asked_behind P w sp.before sp.behind
    (subst (λ (q : List Waiting). Each P (asked_of w.route q)) sp.whole a))

pub fails-keeps : (a b : PlainMail) (x : Option (ℕ × ℕ)) → Law (core_of a) → Fails (core_of a) x (core_of b) →
    short_of b ≡ short_of a → BusKeeps a b
fails-keeps a b None l h short =
    let w = h.0 in
    let f = sent_alone (core_of a) w l h.1 in
    let m = was_failed (core_of a) (core_of b) w f.at h.3 in
    record {
      routes = ap (λ (v : State). length v.routes) (sym m.1);
      priority = ap (λ (v : State). v.txfp) (sym m.1);
      short = short;
      stand = λ r past k. subst (λ (v : State). RouteStands v r past) m.1
          (mark-route (core_of a) w Scheduled r past f.split k);
    }
fails-keeps a b (Some x) l h short =
    let s = core_of a in
    let w = h.0 in
    let f = sent_alone s w l h.2 in
    let y = reaped_lists (lists_of s w.route) w in
    let m = failed_reaped s h.1 (core_of b) w f h.5 h.6 in
    record {
      routes = ap (λ (v : State). length v.routes) (sym m) ∙ length-set s.routes w.route y;
      priority = ap (λ (v : State). v.txfp) (sym m);
      short = short;
      stand = λ r past k. subst (λ (v : State). RouteStands v r past) m
          (leave-route s w y r past f.split l refl refl
          (λ is waits reaped. each-append (Has past.asked) (lists_of s w.route).reaped (w.number ∷ []) reaped (
            asked_there (Has past.asked) s w f.split h.3
                (subst (λ (k : ℕ). Each (Has past.asked) (asked_of k s.queue)) is waits),
            tt,
          )) k);
    }

-- ready

-- a try to schedule changes at most the status of the next request
record Readied (s : State) (w : Waiting) : Type 0 where
  pub split : Split w.mailbox s.queue w
  pub pending : is_pending w.status ≡ true
  pub new : with_waiting s (at_of s w) (record w { status = Scheduled }) ≡ readied s

readied_case : (s : State) (w : Waiting) (b : Bool) → is_pending w.status ≡ b → Law s → next s ≡ Some w →
    (s ≡ readied s) ⊎ ((w : Waiting) × Readied s w)
readied_case s w true is l e =
    let n = next_there s.txfp s.queue w e in
    let f = found s w l n.0 in
    inr (
      w,
      record {
        split = f.split;
        pending = is;
        new = ap (left_by s) (sym (goes-schedule s w f.at is n.1)) ∙ ap (readied_from s) (sym e);
      },
    )
readied_case s w false is l e =
    let n = next_there s.txfp s.queue w e in
    let f = found s w l n.0 in
    inl (ap (left_by s) (sym (stays-schedule s w f.at is)) ∙ ap (readied_from s) (sym e))

readied_is : (s : State) → Law s → (s ≡ readied s) ⊎ ((w : Waiting) × Readied s w)
readied_is s l = ⊎_elim
    (λ (none : next s ≡ None). inl (ap (readied_from s) (sym none)))
    (λ (some : (w : Waiting) × (next s ≡ Some w)). readied_case s some.0 (is_pending some.0.status) refl l some.1)
    (some_or_none (next s))

pub readies-bus : (s t : State) (past : BusPast) → Law s → t ≡ readied s → BusStands s past → BusStands t past
readies-bus s t past l is b = subst (λ (v : State). BusStands v past) (sym is) (⊎_elim
    (λ (same : s ≡ readied s). subst (λ (v : State). BusStands v past) same b)
    (λ (r : (w : Waiting) × Readied s w). subst (λ (v : State). BusStands v past) r.1.new
    (mark-bus s (at_of s r.0) (record r.0 { status = Scheduled }) past b))
    (readied_is s l))

pub readies-sends : (s t : State) → Law s → t ≡ readied s → sending t ≡ sending s
readies-sends s t l is = ap sending is ∙ ⊎_elim
    (λ (same : s ≡ readied s). ap sending (sym same))
    (λ (r : (w : Waiting) × Readied s w).
    let sp = r.1.split in
    let y : Waiting = record r.0 { status = Scheduled } in
    ap sending (sym r.1.new) ∙ ap item_in (sp.set y) ∙ item-drop sp.before sp.behind y refl
    ∙ sym (item-drop sp.before sp.behind r.0 (pending_idle r.0.status r.1.pending)) ∙ ap item_in (sym sp.whole))
    (readied_is s l)

pub readies-keeps : (a b : PlainMail) → Law (core_of a) → core_of b ≡ readied (core_of a) → short_of b ≡ short_of a →
    BusKeeps a b
readies-keeps a b l is short = ⊎_elim
    (λ (same : core_of a ≡ readied (core_of a)). record {
      routes = ap (λ (v : State). length v.routes) (is ∙ sym same);
      priority = ap (λ (v : State). v.txfp) (is ∙ sym same);
      short = short;
      stand = λ r past k. subst (λ (v : State). RouteStands v r past) (same ∙ sym is) k;
    })
    (λ (x : (w : Waiting) × Readied (core_of a) w). record {
      routes = ap (λ (v : State). length v.routes) (is ∙ sym x.1.new);
      priority = ap (λ (v : State). v.txfp) (is ∙ sym x.1.new);
      short = short;
      stand = λ r past k. subst (λ (v : State). RouteStands v r past) (x.1.new ∙ sym is)
          (mark-route (core_of a) x.0 Scheduled r past x.1.split k);
    })
    (readied_is (core_of a) l)
