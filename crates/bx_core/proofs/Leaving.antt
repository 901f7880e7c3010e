-- A request leaves the mailboxes: what that adds to the past of the bus side.
use Rattle.std.proofs.Common.{◌≡◌, ◌≢◌, ℕ, arith, ◌<◌, ◌==◌, ⊎_elim, Bool, true, cond, List, [], ◌∷◌, ◌++◌, length}
use Rattle.std.proofs.Common.{refl, sym, ap, ◌∙◌, subst, Some, None, eq-eqb, ne_eqb}
use Rattle.std.specs.Prelude.{option_map}
use Rattle.std.specs.List.{remove}
use Rattle.std.proofs.lemmas.List.{append-nil}
use Rattle.bx_core.specs.declared.entry.Entry.{Entry}
use Rattle.bx_core.specs.declared.waiting.Waiting.{Waiting}
use Rattle.bx_core.specs.Lists.{Each, Has}
use Rattle.bx_core.specs.States.{State, RouteLists, no_lists, lists_of, entry_of}
use Rattle.bx_core.specs.Steps.{without, done_lists, reaped_lists}
use Rattle.bx_core.specs.Law.{Law, IsInPlace}
use Rattle.bx_core.specs.TxBus.{Item, BusPast, after_complete, after_fail}
use Rattle.bx_core.specs.RouteTx.{RoutePast}
use Rattle.bx_core.specs.PlainMail.{item_of, sending}
use Rattle.bx_core.specs.Stands.{BusStands, RouteStands, entry_on_bus, entries_of, numbers_of, asked_of}
use Rattle.bx_core.proofs.Words.{each_here, each_more, set-each}
use Rattle.bx_core.proofs.Queues.{Split, busy-append}
use Rattle.bx_core.proofs.Found.{IsAlone, at_of}
use Rattle.bx_core.proofs.Sending.{item_in, bus-none}
use Rattle.bx_core.proofs.Standing.{stands_by, lists-set, entries_of-push, numbers_of-push, asked_of-drop}

-- the law at a request that waits

pub route_there : (s : State) (w : Waiting) (sp : Split w.mailbox s.queue w) → Law s → w.route < length s.routes
route_there s w sp l = (each_here (IsInPlace (length s.routes)) sp.before sp.behind w
    (subst (Each (IsInPlace (length s.routes))) sp.whole l.in_place)).route

pub known_there : (s : State) (w : Waiting) (sp : Split w.mailbox s.queue w) → Law s →
    Has (lists_of s w.route).requested (entry_of w)
known_there s w sp l =
    let P : Waiting → Type 0 = λ (y : Waiting). Has (lists_of s y.route).requested (entry_of y) in
    each_here P sp.before sp.behind w (subst (Each P) sp.whole l.waiting_known)

-- without the one that is scheduled or transmitting, none is on the bus
pub idle_without : (s : State) (w : Waiting) (r : ℕ) (x : RouteLists) → IsAlone s w →
    sending (without s (at_of s w) r x) ≡ None
idle_without s w r x a =
    let none = busy-append a.split.before a.split.behind in
    let before = a.before in
    let behind = a.behind in
    ap item_in a.split.rest ∙ ap (option_map item_of) (bus-none (a.split.before ++ a.split.behind) (omega arith))

-- a request leaves into a list of what was sent or reaped

pub leave-route : (s : State) (w : Waiting) (x : RouteLists) (r : ℕ) (past : RoutePast)
    (sp : Split w.mailbox s.queue w) →
    Law s →
    (lists_of s w.route).requested ≡ x.requested → (lists_of s w.route).aborted ≡ x.aborted →
    (r ≡ w.route → Each (Has past.asked) (asked_of r s.queue) → Each (Has past.asked) (lists_of s w.route).reaped →
    Each (Has past.asked) x.reaped) →
    RouteStands s r past → RouteStands (without s (at_of s w) w.route x) r past
leave-route s w x r past sp l a b c h =
    let rest : Each (Has past.asked) (asked_of r (remove s.queue (at_of s w))) =
    subst (λ (q : List Waiting). Each (Has past.asked) (asked_of r q)) (sym sp.rest)
    (asked_of-drop (Has past.asked) r sp.before sp.behind w
    (subst (λ (q : List Waiting). Each (Has past.asked) (asked_of r q)) sp.whole h.asked_waits)) in
    ⊎_elim
    (λ (y : (r ≡ w.route) × (lists_of (without s (at_of s w) w.route x) r ≡ x)).
    stands_by (without s (at_of s w) w.route x) r past x y.1 (h.requested_is
    ∙ ap (λ (k : ℕ). (lists_of s k).requested) y.0 ∙ a) (h.aborted_is ∙ ap (λ (k : ℕ). (lists_of s k).aborted) y.0
    ∙ b) rest
    (c y.0 h.asked_waits (subst (λ (k : ℕ). Each (Has past.asked) (lists_of s k).reaped) y.0 h.asked_reaped)))
    (λ (y : (r ≢ w.route) × (lists_of (without s (at_of s w) w.route x) r ≡ lists_of s r)).
    stands_by (without s (at_of s w) w.route x) r past (lists_of s r) y.1 h.requested_is h.aborted_is rest
    h.asked_reaped)
    (lists-set s w.route x r (route_there s w sp l))

-- requested is the same after a request left
pub same_requested : (s : State) (w : Waiting) (x : RouteLists) → w.route < length s.routes →
    (lists_of s w.route).requested ≡ x.requested →
    (r : ℕ) (e : Entry) → Has (lists_of s r).requested e →
    Has (lists_of (without s (at_of s w) w.route x) r).requested e
same_requested s w x h is = set-each (λ (k : ℕ) (l : RouteLists). (e : Entry) → Has (lists_of s k).requested e →
    Has l.requested e) s.routes w.route x no_lists h
    (λ e k. subst (λ (es : List Entry). Has es e) is k) (λ k ne e y. y)

-- what was started is known still
started-on : (s : State) (w : Waiting) (x : RouteLists) (past : BusPast) → w.route < length s.routes →
    (lists_of s w.route).requested ≡ x.requested → BusStands s past →
    Each (λ (i : Item). Has (lists_of (without s (at_of s w) w.route x) i.0).requested (entry_on_bus i)) past.started
started-on s w x past h is b = each_more (λ (i : Item). Has (lists_of s i.0).requested (entry_on_bus i))
    (λ (i : Item). Has (lists_of (without s (at_of s w) w.route x) i.0).requested (entry_on_bus i)) past.started
    (λ i k. same_requested s w x h is i.0 (entry_on_bus i) k) b.started_known

sent_push : (s : State) (w : Waiting) (past : BusPast) (r : ℕ) → entries_of r past.done ≡ (lists_of s r).done →
    (w.route == r) ≡ true →
    entries_of r (past.done ++ item_of w ∷ []) ≡ (lists_of s r).done ++ entry_of w ∷ []
sent_push s w past r h is =
    entries_of-push r past.done (item_of w)
    ∙ ap (λ (b : Bool). entries_of r past.done ++ cond b (entry_of w ∷ []) []) is
    ∙ ap (λ (es : List Entry). es ++ entry_of w ∷ []) h

reaped_push : (s : State) (w : Waiting) (past : BusPast) (r : ℕ) → numbers_of r past.reaped ≡ (lists_of s r).reaped →
    (w.route == r) ≡ true →
    numbers_of r (past.reaped ++ (w.route, w.number) ∷ []) ≡ (lists_of s r).reaped ++ w.number ∷ []
reaped_push s w past r h is =
    numbers_of-push r past.reaped (w.route, w.number)
    ∙ ap (λ (b : Bool). numbers_of r past.reaped ++ cond b (w.number ∷ []) []) is
    ∙ ap (λ (ns : List ℕ). ns ++ w.number ∷ []) h

pub done-bus : (s : State) (w : Waiting) (past : BusPast) → Split w.mailbox s.queue w → Law s → BusStands s past →
    BusStands (without s (at_of s w) w.route (done_lists (lists_of s w.route) w))
    (after_complete past (Some (item_of w)))
done-bus s w past sp l b =
    let h = route_there s w sp l in
    let x = done_lists (lists_of s w.route) w in
    record {
      started_known = started-on s w x past h refl b;
      done_is = set-each (λ (r : ℕ) (y : RouteLists). entries_of r (past.done ++ item_of w ∷ []) ≡ y.done) s.routes
          w.route x no_lists h
          (sent_push s w past w.route (b.done_is w.route) (eq-eqb w.route w.route refl))
          (λ r ne. entries_of-push r past.done (item_of w)
          ∙ ap (λ (c : Bool). entries_of r past.done ++ cond c (entry_of w ∷ []) [])
          (ne_eqb w.route r (λ is. ne (sym is))) ∙ append-nil (entries_of r past.done) ∙ b.done_is r);
      reaped_is = set-each (λ (r : ℕ) (y : RouteLists). numbers_of r past.reaped ≡ y.reaped) s.routes w.route x no_lists
          h (b.reaped_is w.route) (λ r ne. b.reaped_is r);
    }

pub reaped-bus : (s : State) (w : Waiting) (past : BusPast) → Split w.mailbox s.queue w → Law s → BusStands s past →
    BusStands (without s (at_of s w) w.route (reaped_lists (lists_of s w.route) w))
    (after_fail past (Some (w.route, w.number)))
reaped-bus s w past sp l b =
    let h = route_there s w sp l in
    let x = reaped_lists (lists_of s w.route) w in
    record {
      started_known = started-on s w x past h refl b;
      done_is = set-each (λ (r : ℕ) (y : RouteLists). entries_of r past.done ≡ y.done) s.routes w.route x no_lists h
          (b.done_is w.route) (λ r ne. b.done_is r);
      reaped_is = set-each (λ (r : ℕ) (y : RouteLists). numbers_of r (past.reaped ++ (w.route, w.number) ∷ [])
          ≡ y.reaped) s.routes w.route x no_lists h
          (reaped_push s w past w.route (b.reaped_is w.route) (eq-eqb w.route w.route refl))
          (λ r ne. numbers_of-push r past.reaped (w.route, w.number)
          ∙ ap (λ (c : Bool). numbers_of r past.reaped ++ cond c (w.number ∷ []) [])
          (ne_eqb w.route r (λ is. ne (sym is))) ∙ append-nil (numbers_of r past.reaped) ∙ b.reaped_is r);
    }
