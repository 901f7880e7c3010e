-- The steps by which the bus's seat starts a transmission, and by which it ends, keep the rule.
use Rattle.std.proofs.Common.{◌≡◌, ℕ, ◌+◌, ◌-◌, ◌*◌, ◌%◌, ◌<◌, inl, inr, cond, nat_lt, not, ◌&&◌, List, [], ◌∷◌, ◌++◌}
use Rattle.std.proofs.Common.{length, map, get_or, set, refl, sym, ap, ◌∙◌, subst, arith, Option, Some, None, Bool}
use Rattle.std.proofs.Common.{true, false}
use Rattle.std.specs.Prelude.{option_map, option_to_list}
use Rattle.std.specs.List.{find}
use Rattle.std.proofs.lemmas.List.{length-set}
use mathlib.Core.Option.{some}
use lib.ListN.{get_elem?}
use Rattle.atomic_table.specs.Table.{keeps, stepped}
use Rattle.bx_core.specs.declared.status.Status.{Status}
use Rattle.bx_core.specs.declared.status.Status.TheVariants.{Pending, Scheduled, Transmitting}
use Rattle.bx_core.specs.declared.waiting.Waiting.{Waiting}
use Rattle.bx_core.specs.declared.event.Event.TheVariants.{Start, Complete, Fail, Reap}
use Rattle.bx_core.specs.Lists.{Each, Has}
use Rattle.bx_core.specs.States.{State, RouteLists, no_lists, lists_of, on_bus, is_scheduled, is_transmitting}
use Rattle.bx_core.specs.Steps.{Leads, with_waiting, without, done_lists, reaped_lists, may_start, may_reap}
use Rattle.bx_core.specs.Law.{Law, IsInPlace}
use Rattle.bx_core.specs.TxBus.{Item, label_of, after_complete}
use Rattle.bx_core.specs.PlainMail.{item_of, sending, Starts, Completes}
use Rattle.bx_core.specs.Stands.{BusStands, entry_on_bus}
use Rattle.bx_core.proofs.Words.{has-right, each-append, each_more, each-drop, each-replace, each_of, set-each}
use Rattle.bx_core.proofs.Queues.{marked}
use Rattle.bx_core.proofs.Found.{IsFound, at_of, find-has, find-is, is_alone, scheduled_alone, sent_alone, transmits}
use Rattle.bx_core.proofs.Found.{goes-start, goes-complete, goes-fail, goes-reap}
use Rattle.bx_core.proofs.Leads.{leads-start, leads-complete, leads-fail, leads-reap}
use Rattle.bx_core.proofs.Reaches.{law_of, leads-reached, scheduled_busy}
use Rattle.bx_core.proofs.Sending.{bus_of, bus-there, bus-idle, item_in, scheduled_idle}
use Rattle.bx_core.proofs.Standing.{mark-bus}
use Rattle.bx_core.proofs.BusSide.{starts-bus, starts-idle}
use Rattle.bx_core.proofs.Leaving.{known_there, idle_without, same_requested, reaped-bus}
use Rattle.bx_core.proofs.BusSide.{starts-sends, completes-bus, completes-idle}
use Rattle.bx_core.proofs.Undone.{starts_undone}
use Rattle.bx_words.specs.Lanes.{lane_of, mark_of, IsTransmitting, LaneSet}
use Rattle.bx_shared.specs.declared.route_view.RouteView.{RouteView}
use Rattle.bx_shared.specs.declared.bus_view.BusView.{BusView}
use Rattle.bx_shared.specs.Marks.{mark_by, lane_by}
use Rattle.bx_shared.specs.Shown.{Shows, FitsBus, IsKnown, IsKept, IsKeptAs, IsEvent, past_of}
use Rattle.bx_shared.specs.BusSteps.{IsStarted, bus_started, bus_completed, bus_failed, bus_reaped}
use Rattle.bx_shared.proofs.Reading.{same_request}
use Rattle.bx_shared.proofs.Marking.{shows_mark, shows_leave, fits_same}
use Rattle.bx_shared.proofs.Looking.{lane_of_request}
use Rattle.bx_shared.proofs.Finding.{is_there, status_of, asked_by, find-there, turn_there, turn_passes, is_sent}
use Rattle.bx_shared.proofs.Finding.{some_item, no_item, none_sent}
use Rattle.bx_shared.proofs.Moves.{St}
use Rattle.bx_shared.proofs.BusMoves.{with_bus, bus_moves, bus_knows, heads_mark, heads_leave}
use Rattle.bx_shared.proofs.Beginning.{was_in_turn}

-- the status of a request changes, and with it what the bus's seat knows
pub bus_marks : (txfp : Bool) (t : St) (k : IsKept txfp t) (id new lane : ℕ) (b d : BusView) (rs : List RouteView)
    (w : Waiting) (st : Status) → get_elem? t.views id ≡ some (with_bus b rs) → IsFound k.core w →
    Leads k.core (with_waiting k.core (at_of k.core w) (marked w st w.abort_asked)) →
    LaneSet (get_or t.words 0 0) w.mailbox lane new → lane ≡ lane_by (marked w st w.abort_asked) →
    FitsBus (with_waiting k.core (at_of k.core w) (marked w st w.abort_asked)) d →
    IsKeptAs txfp (stepped t 0 new id [] (with_bus d rs) keeps)
    (with_waiting k.core (at_of k.core w) (marked w st w.abort_asked))
bus_marks txfp t k id new lane b d rs w st me f leads ls is mine =
    let s = k.core in
    let x = marked w st w.abort_asked in
    let next = with_waiting s (at_of s w) x in
    bus_moves txfp t k id b d rs (set t.words 0 new) next me (leads-reached s s next next refl leads refl k.reached)
    k.priority k.eight
    (shows_mark t.words s w new lane k.shows (law_of s k.reached) f ls st w.abort_asked is) mine
    (λ o g. fits_same t.words new s next o refl refl refl (λ _ r. r)
    (λ z. subst (Each (IsKnown o)) (sym (f.split.set x))
    (each-replace (IsKnown o) f.split.before f.split.behind w x (λ h own. h own)
    (subst (Each (IsKnown o)) f.split.whole z))) g)

-- a request leaves
pub bus_leaves : (txfp : Bool) (t : St) (k : IsKept txfp t) (id new : ℕ) (b d : BusView) (rs : List RouteView)
    (w : Waiting) (x : RouteLists) → get_elem? t.views id ≡ some (with_bus b rs) → IsFound k.core w →
    w.route < length k.core.routes → Leads k.core (without k.core (at_of k.core w) w.route x) →
    LaneSet (get_or t.words 0 0) w.mailbox 0 new →
    x.requested ≡ (lists_of k.core w.route).requested → x.aborted ≡ (lists_of k.core w.route).aborted →
    ((o : RouteView) → Each (IsKnown o) k.core.queue → w.route ≡ o.route →
    Each (Has o.asked) (lists_of k.core w.route).reaped → Each (Has o.asked) x.reaped) →
    FitsBus (without k.core (at_of k.core w) w.route x) d →
    IsKeptAs txfp (stepped t 0 new id [] (with_bus d rs) keeps) (without k.core (at_of k.core w) w.route x)
bus_leaves txfp t k id new b d rs w x me f there leads ls requested aborted reaps mine =
    let s = k.core in
    let next = without s (at_of s w) w.route x in
    bus_moves txfp t k id b d rs (set t.words 0 new) next me (leads-reached s s next next refl leads refl k.reached)
    k.priority (length-set s.routes w.route x ∙ k.eight)
    (shows_leave t.words s w new 0 k.shows (law_of s k.reached) f ls x refl there requested) mine
    (λ o g. fits_same t.words new s next o refl
    (set-each (λ r (y : RouteLists). y.requested ≡ (lists_of s r).requested) s.routes w.route x no_lists there requested
    (λ r n. refl) o.route)
    (set-each (λ r (y : RouteLists). y.aborted ≡ (lists_of s r).aborted) s.routes w.route x no_lists there aborted
    (λ r n. refl) o.route)
    (λ z. set-each (λ r (y : RouteLists). r ≡ o.route → Each (Has o.asked) (lists_of s r).reaped →
    Each (Has o.asked) y.reaped) s.routes w.route x no_lists there (reaps o z) (λ r n _ h. h) o.route refl)
    (λ z. subst (Each (IsKnown o)) (sym f.split.rest)
    (each-drop (IsKnown o) f.split.before f.split.behind w (subst (Each (IsKnown o)) f.split.whole z))) g)

-- what was requested is still
pub known_on : (s : State) (w : Waiting) (x : RouteLists) (items : List Item) → w.route < length s.routes →
    x.requested ≡ (lists_of s w.route).requested →
    Each (λ y. Has (lists_of s y.0).requested (entry_on_bus y)) items →
    Each (λ y. Has (lists_of (without s (at_of s w) w.route x) y.0).requested (entry_on_bus y)) items
known_on s w x items there same = each_more (λ (y : Item). Has (lists_of s y.0).requested (entry_on_bus y))
    (λ (y : Item). Has (lists_of (without s (at_of s w) w.route x) y.0).requested (entry_on_bus y)) items
    (λ y h. same_requested s w x there (sym same) y.0 (entry_on_bus y) h)

in_place : (s : State) (w : Waiting) → Law s → IsFound s w → (w.route < length s.routes) × (w.mailbox < 3)
in_place s w law f =
    let has : Has s.queue w = subst (λ (q : List Waiting). Has q w) (sym f.split.whole)
    (has-right f.split.before (w ∷ f.split.behind) w (inl refl)) in
    let p = each_of (IsInPlace (length s.routes)) s.queue w law.in_place has in (p.route, p.mailbox)

scheduled_is : (st : Status) → st ≡ Scheduled → is_scheduled st ≡ true
scheduled_is st e = ap is_scheduled e

may_start_is : (w : Waiting) → w.status ≡ Scheduled → w.abort_asked ≡ false → may_start w ≡ true
may_start_is w st asked = ap (λ s. is_scheduled s && not w.abort_asked) st ∙ ap not asked

may_reap_is : (w : Waiting) → is_scheduled w.status ≡ true → w.abort_asked ≡ true → may_reap w ≡ true
may_reap_is w st asked = ap (λ b. b && w.abort_asked) st ∙ asked

-- a scheduled request starts
pub starts : (txfp : Bool) (t : St) (k : IsKept txfp t) (id m new : ℕ) (b : BusView) (rs : List RouteView) →
    get_elem? t.views id ≡ some (with_bus b rs) → m < 3 → mark_of (get_or t.words 0 0) m ≡ 7 → b.reaps ≡ None →
    LaneSet (get_or t.words 0 0) m (lane_of (get_or t.words 0 0) m + 8) new → (d : BusView)
    × IsStarted b d m (get_or t.words 0 0) new × IsEvent txfp k.core (Start m)
    (stepped t 0 new id [] (with_bus d rs) keeps)
starts txfp t k id m new b rs me small mark none ls =
    let s = k.core in
    let word = get_or t.words 0 0 in
    let law = law_of s k.reached in
    let fit = bus_knows txfp t k id b rs me in
    let g = is_there s m (lane_of word m) law (k.shows.lanes m small) (omega arith) in
    let w = g.request in
    let item = item_of w in
    let st : w.status ≡ Scheduled = status_of s m (lane_of word m) g 7 mark in
    let asked : w.abort_asked ≡ false = asked_by s m (lane_of word m) g 7 law mark in
    let may = may_start_is w st asked in
    let f = g.found in
    let x = marked w Transmitting w.abort_asked in
    let next = with_waiting s (at_of s w) x in
    let alone = is_alone s w law f (scheduled_busy w.status (scheduled_is w.status st)) in
    let turn = turn_there s w alone (scheduled_is w.status st) in
    let gone = goes-start s w f.at may in
    let go : Starts s (Some item) next = (w, turn, refl, gone) in
    let on : on_bus next ≡ Some x =
    ap bus_of (alone.split.set x) ∙ bus-there alone.split.before alone.split.behind x alone.before refl in
    let d = bus_started b word new m item in
    let set_to : LaneSet word w.mailbox (lane_of word m + 8) new =
    subst (λ (j : ℕ). LaneSet word j (lane_of word m + 8) new) (sym g.mailbox_is) ls in (
      d,
      record {
        item = item;
        lane = let o = g.owner in let q = mark in omega arith;
        idle = sym fit.sends ∙ starts-idle s next (Some item) law go;
        undone =
            starts_undone s next (Some item) (past_of b) law go fit.stands;
        turn =
            was_in_turn t.words s b w m k.reached k.shows fit g.has turn st g.mailbox_is asked;
        is = refl;
      },
      subst (λ (j : ℕ). IsEvent txfp s (Start j) (stepped t 0 new id [] (with_bus d rs) keeps)) g.mailbox_is (record {
        next = next;
        after_is = gone;
        then = bus_marks txfp t k id new (lane_of word m + 8) b d rs w Transmitting me f
            (leads-start s w.mailbox w (at_of s w) g.small (sym f.at) refl may) set_to
            (let l = g.lane_is in let y = ap (λ z. mark_by z w.abort_asked) st in let z =
            ap (mark_by Scheduled) asked in let v = ap (mark_by Transmitting) asked in omega arith)
            (record {
              stands = starts-bus s next (Some item) (past_of b) law go fit.stands;
              priority = fit.priority;
              reaped_known = fit.reaped_known;
              sends = starts-sends s next (Some item) law go;
              mailbox = λ y e. ap (λ (z : Waiting). z.mailbox) (sym (same_request x y (sym on ∙ e))) ∙ g.mailbox_is;
              reaps = λ y e. no_item y (sym none ∙ e);
              heads = λ h. let z = heads_mark s b w Transmitting w.abort_asked f (fit.heads h) in
                  record { before = z.before; heads = z.heads };
            });
      }),
    )

-- what a request's lane is, by its status

sent_is : (st : Status) → is_transmitting st ≡ true → st ≡ Transmitting
sent_is Pending e = cc
sent_is Scheduled e = cc
sent_is Transmitting e = refl

lane_sent : (ws : List ℕ) (s : State) (w : Waiting) → Shows ws s → Law s → Has s.queue w →
    is_transmitting w.status ≡ true → lane_of (get_or ws 0 0) w.mailbox ≡ mark_by Transmitting w.abort_asked + 32
    * w.route
lane_sent ws s w sh law has sends =
    lane_of_request ws s w sh law has ∙ ap (λ st. mark_by st w.abort_asked + 32 * w.route) (sent_is w.status sends)

sent_mark : (lane r : ℕ) (asked : Bool) → lane ≡ mark_by Transmitting asked + 32 * r →
    lane % 32 ≡ mark_by Transmitting asked
sent_mark lane r true e = omega arith
sent_mark lane r false e = omega arith

sent_lane : (word m : ℕ) (asked : Bool) → mark_of word m ≡ mark_by Transmitting asked → IsTransmitting word m
sent_lane word m true e = inr e
sent_lane word m false e = inl e

less_eight : (lane r : ℕ) (asked : Bool) → lane ≡ mark_by Transmitting asked + 32 * r →
    lane - 8 ≡ mark_by Scheduled asked + 32 * r
less_eight lane r true e = omega arith
less_eight lane r false e = omega arith

asked_sent : (asked : Bool) → nat_lt 15 (mark_by Transmitting asked) ≡ asked
asked_sent true = refl
asked_sent false = refl

pub labels-push : (xs : List Item) (x : Item) → map label_of (xs ++ x ∷ []) ≡ map label_of xs ++ label_of x ∷ []
labels-push [] x = refl
labels-push (y ∷ ys) x = ap (λ l. label_of y ∷ l) (labels-push ys x)

-- what was transmitted is sent
pub completes : (txfp : Bool) (t : St) (k : IsKept txfp t) (id new : ℕ) (b : BusView) (rs : List RouteView)
    (item : Item) → get_elem? t.views id ≡ some (with_bus b rs) → b.sends ≡ Some item → b.reaps ≡ None →
    LaneSet (get_or t.words 0 0) b.mailbox 0 new → IsEvent txfp k.core (Complete b.mailbox)
    (stepped t 0 new id [] (with_bus (bus_completed b) rs) keeps)
completes txfp t k id new b rs item me sends none ls =
    let s = k.core in
    let law = law_of s k.reached in
    let fit = bus_knows txfp t k id b rs me in
    let g = is_sent s item (fit.sends ∙ sends) in
    let w = g.request in
    let a = sent_alone s w law g.on in
    let f : IsFound s w = record { at = a.at; split = a.split } in
    let here = in_place s w law f in
    let m = fit.mailbox w g.on in
    let x = done_lists (lists_of s w.route) w in
    let next = without s (at_of s w) w.route x in
    let gone = goes-complete s w f.at (transmits s w g.on) in
    let go : Completes s next = (w, g.on, gone) in
    let idle = completes-idle s next law go in
    subst (λ (j : ℕ). IsEvent txfp s (Complete j) (stepped t 0 new id [] (with_bus (bus_completed b) rs) keeps)) m
    (record {
      next = next;
      after_is = gone;
      then = bus_leaves txfp t k id new b (bus_completed b) rs w x me f here.0
          (leads-complete s w.mailbox w (at_of s w) here.1 (sym f.at) refl (transmits s w g.on))
          (subst (λ (j : ℕ). LaneSet (get_or t.words 0 0) j 0 new) (sym m) ls) refl refl (λ o z e r. r)
          (record {
            stands = subst (λ (i : Option Item). BusStands next (after_complete (past_of b) i)) fit.sends
                (completes-bus s next (past_of b) law go fit.stands);
            priority = fit.priority;
            reaped_known = known_on s w x b.reaped here.0 refl fit.reaped_known;
            sends = idle;
            mailbox = λ y e. none_sent next y idle e;
            reaps = λ y e. no_item y (sym none ∙ e);
            heads = λ h. let z = heads_leave s b w x f here.0 refl (fit.heads h) in
                record { before = z.before; heads = z.heads };
          });
    })

-- by the word its lane is that of a transmission
pub transmits_in : (txfp : Bool) (t : St) (k : IsKept txfp t) (id : ℕ) (b : BusView) (rs : List RouteView)
    (item : Item) → get_elem? t.views id ≡ some (with_bus b rs) → b.sends ≡ Some item →
    IsTransmitting (get_or t.words 0 0) b.mailbox
transmits_in txfp t k id b rs item me sends =
    let s = k.core in
    let word = get_or t.words 0 0 in
    let law = law_of s k.reached in
    let fit = bus_knows txfp t k id b rs me in
    let g = is_sent s item (fit.sends ∙ sends) in
    let w = g.request in
    let lane = lane_sent t.words s w k.shows law (find-has (λ (y : Waiting). is_transmitting y.status) s.queue w g.on)
    (transmits s w g.on) in
    subst (IsTransmitting word) (fit.mailbox w g.on)
    (sent_lane word w.mailbox w.abort_asked (sent_mark (lane_of word w.mailbox) w.route w.abort_asked lane))

if_some : (c : Bool) (o : Option Item) (x : Item) → cond c o None ≡ Some x → (c ≡ true) × (o ≡ Some x)
if_some true o x e = (refl, e)
if_some false o x e = no_item x e

-- what was transmitted failed
pub fails : (txfp : Bool) (t : St) (k : IsKept txfp t) (id new : ℕ) (b : BusView) (rs : List RouteView) (item : Item) →
    get_elem? t.views id ≡ some (with_bus b rs) → b.sends ≡ Some item →
    (IsTransmitting (get_or t.words 0 0) b.mailbox →
    LaneSet (get_or t.words 0 0) b.mailbox (lane_of (get_or t.words 0 0) b.mailbox - 8) new) →
    IsEvent txfp k.core (Fail b.mailbox) (stepped t 0 new id [] (with_bus (bus_failed b (get_or t.words 0 0)) rs) keeps)
fails txfp t k id new b rs item me sends ls =
    let s = k.core in
    let word = get_or t.words 0 0 in
    let law = law_of s k.reached in
    let fit = bus_knows txfp t k id b rs me in
    let g = is_sent s item (fit.sends ∙ sends) in
    let w = g.request in
    let a = sent_alone s w law g.on in
    let f : IsFound s w = record { at = a.at; split = a.split } in
    let here = in_place s w law f in
    let m = fit.mailbox w g.on in
    let x = marked w Scheduled w.abort_asked in
    let next = with_waiting s (at_of s w) x in
    let gone = goes-fail s w f.at (transmits s w g.on) in
    let lane = lane_sent t.words s w k.shows law (find-has (λ (y : Waiting). is_transmitting y.status) s.queue w g.on)
    (transmits s w g.on) in
    let mark : mark_of word w.mailbox ≡ mark_by Transmitting w.abort_asked =
    sent_mark (lane_of word w.mailbox) w.route w.abort_asked lane in
    let set_to : LaneSet word w.mailbox (lane_of word w.mailbox - 8) new =
    subst (λ (j : ℕ). IsTransmitting word j → LaneSet word j (lane_of word j - 8) new) (sym m) ls
    (sent_lane word w.mailbox w.abort_asked mark) in
    let idle : sending next ≡ None = ap item_in (a.split.set x)
    ∙ ap (option_map item_of) (bus-idle a.split.before a.split.behind x a.before a.behind refl) in
    let asked : nat_lt 15 (mark_of word b.mailbox) ≡ w.abort_asked =
    ap (λ j. nat_lt 15 (mark_of word j)) (sym m) ∙ ap (nat_lt 15) mark ∙ asked_sent w.abort_asked in
    subst (λ (j : ℕ). IsEvent txfp s (Fail j) (stepped t 0 new id [] (with_bus (bus_failed b word) rs) keeps)) m
    (record {
      next = next;
      after_is = gone;
      then = bus_marks txfp t k id new (lane_of word w.mailbox - 8) b (bus_failed b word) rs w Scheduled me f
          (leads-fail s w.mailbox w (at_of s w) here.1 (sym f.at) refl (transmits s w g.on)) set_to
          (less_eight (lane_of word w.mailbox) w.route w.abort_asked lane)
          (record {
            stands = (let z = mark-bus s (at_of s w) x (past_of b) fit.stands in
                record { started_known = z.started_known; done_is = z.done_is; reaped_is = z.reaped_is });
            priority = fit.priority;
            reaped_known = fit.reaped_known;
            sends = idle;
            mailbox = λ y e. none_sent next y idle e;
            reaps = λ y e. let z = if_some (nat_lt 15 (mark_of word b.mailbox)) b.sends y e in record {
              request = x;
              turn = ap (find (λ (v : Waiting). is_scheduled v.status)) (a.split.set x)
                  ∙ find-there (λ (v : Waiting). is_scheduled v.status) a.split.before a.split.behind x turn_passes
                  a.before refl;
              asked = sym asked ∙ z.0;
              mailbox_is = m;
              item_is = g.item_is ∙ some_item item y (sym sends ∙ z.1);
            };
            heads = λ h. let z = heads_mark s b w Scheduled w.abort_asked f (fit.heads h) in
                record { before = z.before; heads = z.heads };
          });
    })

-- what failed with its abort asked leaves
pub reaps : (txfp : Bool) (t : St) (k : IsKept txfp t) (id new : ℕ) (b : BusView) (rs : List RouteView) (item : Item) →
    get_elem? t.views id ≡ some (with_bus b rs) → b.reaps ≡ Some item →
    LaneSet (get_or t.words 0 0) b.mailbox 0 new → IsEvent txfp k.core (Reap b.mailbox)
    (stepped t 0 new id [] (with_bus (bus_reaped b) rs) keeps)
reaps txfp t k id new b rs item me due ls =
    let s = k.core in
    let law = law_of s k.reached in
    let fit = bus_knows txfp t k id b rs me in
    let g = fit.reaps item due in
    let w = g.request in
    let a = scheduled_alone s w law g.turn in
    let f : IsFound s w = record { at = a.at; split = a.split } in
    let here = in_place s w law f in
    let st = find-is (λ (y : Waiting). is_scheduled y.status) s.queue w g.turn in
    let x = reaped_lists (lists_of s w.route) w in
    let next = without s (at_of s w) w.route x in
    let may = may_reap_is w st g.asked in
    let idle : sending s ≡ None = ap item_in a.split.whole
    ∙ ap (option_map item_of) (bus-idle a.split.before a.split.behind w a.before a.behind
    (scheduled_idle w.status st)) in
    let idle_next : sending next ≡ None = idle_without s w w.route x a in
    let label : (w.route, w.number) ≡ label_of item = ap label_of g.item_is in
    let all : map label_of (b.reaped ++ option_to_list b.reaps) ≡ map label_of b.reaped ++ (w.route, w.number) ∷ [] =
    ap (λ o. map label_of (b.reaped ++ option_to_list o)) due ∙ labels-push b.reaped item
    ∙ ap (λ y. map label_of b.reaped ++ y ∷ []) (sym label) in
    let known : Has (lists_of next item.0).requested (entry_on_bus item) =
    subst (λ (y : Item). Has (lists_of next y.0).requested (entry_on_bus y)) g.item_is
    (same_requested s w x here.0 refl w.route (entry_on_bus (item_of w)) (known_there s w f.split law)) in
    subst (λ (j : ℕ). IsEvent txfp s (Reap j) (stepped t 0 new id [] (with_bus (bus_reaped b) rs) keeps)) g.mailbox_is
    (record {
      next = next;
      after_is = goes-reap s w f.at may;
      then = bus_leaves txfp t k id new b (bus_reaped b) rs w x me f here.0
          (leads-reap s w.mailbox w (at_of s w) here.1 (sym f.at) refl may)
          (subst (λ (j : ℕ). LaneSet (get_or t.words 0 0) j 0 new) (sym g.mailbox_is) ls) refl refl
          (λ o z e r. each-append (Has o.asked) (lists_of s w.route).reaped (w.number ∷ []) r (
            (each_of (IsKnown o) s.queue w z (find-has (λ (y : Waiting). is_scheduled y.status) s.queue w g.turn) e).1
                g.asked,
            tt,
          ))
          (record {
            stands =
                subst (λ (l : List (ℕ × ℕ)). BusStands next (record { started = b.started; done = b.done; reaped = l }))
                (sym all) (reaped-bus s w (past_of b) f.split law fit.stands);
            priority = fit.priority;
            reaped_known = subst (λ (l : List Item). Each (λ y. Has (lists_of next y.0).requested (entry_on_bus y))
                (b.reaped ++ l)) (sym (ap option_to_list due))
                (each-append (λ y. Has (lists_of next y.0).requested (entry_on_bus y)) b.reaped (item ∷ [])
                (known_on s w x b.reaped here.0 refl fit.reaped_known) (known, tt));
            sends = idle_next ∙ sym idle ∙ fit.sends;
            mailbox = λ y e. none_sent next y idle_next e;
            reaps = λ y e. no_item y e;
            heads = λ h. let z = heads_leave s b w x f here.0 refl (fit.heads h) in
                record { before = z.before; heads = z.heads };
          });
    })
