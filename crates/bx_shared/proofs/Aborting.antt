-- The steps by which a route's seat aborts a request keep the rule.
use Rattle.std.proofs.Common.{◌≡◌, ℕ, ◌+◌, ◌/◌, ◌<◌, ◌≤◌, ◌⊎◌, nat_lt, inr, ⊎_elim, ◌==◌, List, [], ◌∷◌, ◌++◌, length}
use Rattle.std.proofs.Common.{get_or, set, refl, sym, ap, ◌∙◌, subst, arith, eq-eqb, Some, Ok, Bool, true, false}
use Rattle.std.proofs.Common.{true≢false}
use Rattle.std.specs.Prelude.{option_map}
use Rattle.std.specs.List.{find}
use Rattle.std.proofs.lemmas.List.{length-set, get_or-set_same, get_or-set_other}
use mathlib.Core.Option.{some}
use lib.ListN.{get_elem?}
use prog.Atomic.{either}
use Rattle.atomic_table.specs.Table.{step, keeps, stepped, Allows}
use Rattle.bx_core.specs.declared.status.Status.{Status}
use Rattle.bx_core.specs.declared.status.Status.TheVariants.{Pending, Scheduled, Transmitting}
use Rattle.bx_core.specs.declared.waiting.Waiting.{Waiting}
use Rattle.bx_core.specs.declared.event.Event.TheVariants.{Abort}
use Rattle.bx_core.specs.Lists.{Each, Has}
use Rattle.bx_core.specs.States.{State, RouteLists, no_lists, lists_of, at_mailbox, on_bus, is_scheduled}
use Rattle.bx_core.specs.States.{is_transmitting}
use Rattle.bx_core.specs.Steps.{with_waiting, without, aborted, aborted_lists}
use Rattle.bx_core.specs.Law.{Law}
use Rattle.bx_core.specs.PlainMail.{item_of}
use Rattle.bx_core.proofs.Words.{each_more, each-drop, each-replace, each_of, has-left, has-last, set-each}
use Rattle.bx_core.proofs.Queues.{marked}
use Rattle.bx_core.proofs.Found.{IsFound, at_of, is_alone}
use Rattle.bx_core.proofs.Leads.{leads-abort, leads-ask}
use Rattle.bx_core.proofs.Reaches.{law_of, leads-reached, scheduled_busy, transmitting_busy}
use Rattle.bx_core.proofs.Sending.{bus-there, bus_of}
use Rattle.bx_core.proofs.Standing.{mark-bus, bus_on}
use Rattle.bx_core.proofs.Leaving.{same_requested}
use Rattle.bx_words.specs.Lanes.{lane_of, mark_of, LaneSet}
use Rattle.bx_shared.specs.declared.said.Said.TheVariants.{Mailbox}
use Rattle.bx_shared.specs.declared.route_view.RouteView.{RouteView}
use Rattle.bx_shared.specs.declared.bus_view.BusView.{BusView}
use Rattle.bx_shared.specs.Marks.{mark_by}
use Rattle.bx_shared.specs.Shown.{IsKnown, FitsBus, IsKept, IsEvent, past_of}
use Rattle.bx_shared.specs.Steps.{seat_of, aborted_at, asked_at, Aborts, Asks}
use Rattle.bx_shared.proofs.Reading.{status_in, same_request}
use Rattle.bx_shared.proofs.Marking.{shows_mark, shows_leave, fits_same}
use Rattle.bx_shared.proofs.Finding.{is_there, status_of, asked_by, find-drop, find-mark, turn_there}
use Rattle.bx_shared.proofs.Moves.{St, alone, moves, knows, tries}
use Rattle.bx_shared.proofs.BusMoves.{heads_mark, heads_leave}
use Rattle.bx_shared.proofs.Transmitting.{known_on}

goes-end : (s : State) (r : ℕ) (w : Waiting) → at_mailbox w.mailbox s.queue ≡ Some w → w.route ≡ r →
    w.abort_asked ≡ false → is_transmitting w.status ≡ false →
    aborted s r w.mailbox ≡ Ok (without s (at_of s w) w.route (aborted_lists (lists_of s w.route) w))
unfolding aborted
goes-end s r w at own asked idle = rw (at, eq-eqb w.route r own, asked, idle) refl

goes-ask : (s : State) (r : ℕ) (w : Waiting) → at_mailbox w.mailbox s.queue ≡ Some w → w.route ≡ r →
    w.abort_asked ≡ false → is_transmitting w.status ≡ true →
    aborted s r w.mailbox ≡ Ok (with_waiting s (at_of s w) (record w { abort_asked = true }))
unfolding aborted
goes-ask s r w at own asked sends = rw (at, eq-eqb w.route r own, asked, sends) refl

by_truth : {P : Type 0} (b : Bool) → (b ≡ true → P) → (b ≡ false → P) → P
by_truth true f g = f refl
by_truth false f g = g refl

-- the bus's seat, where a request that is not transmitting leaves
bus_abort : (s : State) (w : Waiting) (b : BusView) → Law s → IsFound s w → w.route < length s.routes →
    w.abort_asked ≡ false → is_transmitting w.status ≡ false → FitsBus s b →
    FitsBus (without s (at_of s w) w.route (aborted_lists (lists_of s w.route) w)) b
bus_abort s w b law f there asked idle k =
    let x = aborted_lists (lists_of s w.route) w in
    let next = without s (at_of s w) w.route x in
    let sent : Waiting → Bool = λ y. is_transmitting y.status in
    let due : Waiting → Bool = λ y. is_scheduled y.status in
    let same : on_bus next ≡ on_bus s = ap (find sent) f.split.rest
    ∙ sym (find-drop sent f.split.before f.split.behind w idle) ∙ ap (find sent) (sym f.split.whole) in
    record {
      stands = bus_on s next (past_of b) (same_requested s w x there refl)
          (set-each (λ r (y : RouteLists). (lists_of s r).done ≡ y.done) s.routes w.route x no_lists there refl
          (λ r n. refl))
          (set-each (λ r (y : RouteLists). (lists_of s r).reaped ≡ y.reaped) s.routes w.route x no_lists there refl
          (λ r n. refl)) k.stands;
      priority = k.priority;
      reaped_known = known_on s w x b.reaped there refl k.reaped_known;
      sends = ap (option_map item_of) same ∙ k.sends;
      mailbox = λ y e. k.mailbox y (sym same ∙ e);
      reaps = λ y e. let g = k.reaps y e in record {
        request = g.request;
        turn = by_truth (is_scheduled w.status)
            (λ st. let a = is_alone s w law f (scheduled_busy w.status st) in let is : g.request ≡ w =
            same_request g.request w (sym g.turn ∙ turn_there s w a st) in
            absurd (true≢false (sym g.asked ∙ ap (λ (v : Waiting). v.abort_asked) is ∙ asked)))
            (λ not. ap (find due) f.split.rest ∙ sym (find-drop due f.split.before f.split.behind w not)
            ∙ ap (find due) (sym f.split.whole) ∙ g.turn);
        asked = g.asked;
        mailbox_is = g.mailbox_is;
        item_is = g.item_is;
      };
      heads = λ h. heads_leave s b w x f there refl (k.heads h);
    }

-- the bus's seat, where the abort of what transmits is asked
bus_ask : (s : State) (w : Waiting) (b : BusView) → Law s → IsFound s w → is_transmitting w.status ≡ true →
    FitsBus s b → FitsBus (with_waiting s (at_of s w) (marked w w.status true)) b
bus_ask s w b law f sends k =
    let x = marked w w.status true in
    let next = with_waiting s (at_of s w) x in
    let a = is_alone s w law f (transmitting_busy w.status sends) in
    let due : Waiting → Bool = λ y. is_scheduled y.status in
    let idle : is_scheduled w.status ≡ false = sent_unscheduled w.status sends in
    let on : on_bus next ≡ Some x =
    ap bus_of (a.split.set x) ∙ bus-there a.split.before a.split.behind x a.before sends in
    let was : on_bus s ≡ Some w = ap bus_of a.split.whole ∙ bus-there a.split.before a.split.behind w a.before sends in
    let z = mark-bus s (at_of s w) x (past_of b) k.stands in
    record {
      stands = record { started_known = z.started_known; done_is = z.done_is; reaped_is = z.reaped_is };
      priority = k.priority;
      reaped_known = k.reaped_known;
      sends = ap (option_map item_of) on ∙ ap (option_map item_of) (sym was) ∙ k.sends;
      mailbox = λ y e. ap (λ (v : Waiting). v.mailbox) (sym (same_request x y (sym on ∙ e))) ∙ k.mailbox w was;
      reaps = λ y e. let g = k.reaps y e in record {
        request = g.request;
        turn = ap (find due) (f.split.set x) ∙ find-mark due f.split.before f.split.behind w x idle idle
            ∙ ap (find due) (sym f.split.whole) ∙ g.turn;
        asked = g.asked;
        mailbox_is = g.mailbox_is;
        item_is = g.item_is;
      };
      heads = λ h. heads_mark s b w w.status true f (k.heads h);
    }
  where
    sent_unscheduled : (st : Status) → is_transmitting st ≡ true → is_scheduled st ≡ false
    sent_unscheduled Pending e = refl
    sent_unscheduled Scheduled e = cc
    sent_unscheduled Transmitting e = refl

unsent : (st : Status) (n : ℕ) → (n ≡ 3) ⊎ (n ≡ 7) → st ≡ status_in n → is_transmitting st ≡ false
unsent st n h is = ⊎_elim (λ (e : n ≡ 3). ap is_transmitting (is ∙ ap status_in e))
    (λ (e : n ≡ 7). ap is_transmitting (is ∙ ap status_in e)) h

unasked : (n : ℕ) → (n ≡ 3) ⊎ (n ≡ 7) → nat_lt 15 n ≡ false
unasked n h = ⊎_elim (λ (e : n ≡ 3). ap (nat_lt 15) e) (λ (e : n ≡ 7). ap (nat_lt 15) e) h

at_least_three : (n : ℕ) → (n ≡ 3) ⊎ (n ≡ 7) → 3 ≤ n
at_least_three n h = ⊎_elim (λ (e : n ≡ 3). omega arith) (λ (e : n ≡ 7). omega arith) h

-- a pending or scheduled request is taken out
pub aborts : (txfp : Bool) (t : St) (k : IsKept txfp t) (id m new : ℕ) (p : RouteView) →
    get_elem? t.views id ≡ some (alone p) → m < 3 → p.route < 8 → p.claims ≡ false →
    (mark_of (get_or t.words 0 0) m ≡ 3) ⊎ (mark_of (get_or t.words 0 0) m ≡ 7) →
    lane_of (get_or t.words 0 0) m / 32 ≡ p.route → LaneSet (get_or t.words 0 0) m 0 new →
    IsEvent txfp k.core (Abort p.route m) (stepped t 0 new id [] (alone (aborted_at p m)) keeps)
aborts txfp t k id m new p me small few idle mark owner ls =
    let s = k.core in
    let ws = t.words in
    let word = get_or ws 0 0 in
    let law = law_of s k.reached in
    let f = knows txfp t k id p me in
    let g = is_there s m (lane_of word m) law (k.shows.lanes m small) (at_least_three (mark_of word m) mark) in
    let w = g.request in
    let own : w.route ≡ p.route = sym g.owner ∙ owner in
    let asked : w.abort_asked ≡ false =
    asked_by s m (lane_of word m) g (mark_of word m) law refl ∙ unasked (mark_of word m) mark in
    let rests : is_transmitting w.status ≡ false =
    unsent w.status (mark_of word m) mark (status_of s m (lane_of word m) g (mark_of word m) refl) in
    let x = aborted_lists (lists_of s w.route) w in
    let next = without s (at_of s w) w.route x in
    let at = g.found.at in
    let sp = g.found.split in
    let within : p.route < length s.routes = let e = k.eight in omega arith in
    let lists : lists_of next w.route ≡ x = get_or-set_same s.routes w.route x no_lists g.there in
    let mine : (lists_of next p.route) ≡ x = ap (lists_of next) (sym own) ∙ lists in
    let number : get_or p.last m 0 ≡ w.number =
    ap (λ j. get_or p.last j 0) (sym g.mailbox_is) ∙ (each_of (IsKnown p) s.queue w f.waiting g.has own).0 in
    let other_lists : (r : ℕ) → ¬ (r ≡ p.route) → lists_of next r ≡ lists_of s r =
    λ r n. get_or-set_other s.routes w.route r x no_lists (λ e. n (e ∙ own)) in
    let drops : (o : RouteView) → Each (IsKnown o) s.queue → Each (IsKnown o) next.queue =
    λ o z. subst (Each (IsKnown o)) (sym sp.rest)
    (each-drop (IsKnown o) sp.before sp.behind w (subst (Each (IsKnown o)) sp.whole z)) in
    subst (λ (j : ℕ). IsEvent txfp s (Abort p.route j) (stepped t 0 new id [] (alone (aborted_at p m)) keeps))
    g.mailbox_is (record {
      next = next;
      after_is = goes-end s p.route w at own asked rests;
      then = moves txfp t k id p (aborted_at p m) (set ws 0 new) next me refl
          (leads-reached s s next next refl (leads-abort s p.route w.mailbox w (at_of s w) within g.small
          (sym at) refl own asked rests) refl k.reached) k.priority (length-set s.routes w.route x ∙ k.eight)
          (shows_leave ws s w new 0 k.shows law g.found (subst (λ (j : ℕ). LaneSet word j 0 new) (sym g.mailbox_is) ls)
          x refl g.there refl)
          (record {
            requested =
                ap (λ (l : RouteLists). l.requested) mine ∙ ap (λ (r : ℕ). (lists_of s r).requested) own ∙ f.requested;
            aborted = ap (λ (l : RouteLists). l.aborted) mine
                ∙ ap (λ (l : List ℕ). l ++ w.number ∷ []) (ap (λ (r : ℕ). (lists_of s r).aborted) own ∙ f.aborted)
                ∙ ap (λ n. p.aborted ++ n ∷ []) (sym number);
            reaped = subst (λ (l : RouteLists). Each (Has p.asked) l.reaped) (sym mine)
                (subst (λ (r : ℕ). Each (Has p.asked) (lists_of s r).reaped) (sym own) f.reaped);
            claim = λ y. absurd (true≢false (sym y ∙ idle));
            only = f.only;
            three = f.three;
            waiting = drops p f.waiting;
            ended = f.ended;
          })
          (λ o other h. fits_same ws new s next o refl
          (ap (λ (l : RouteLists). l.requested) (other_lists o.route other))
          (ap (λ (l : RouteLists). l.aborted) (other_lists o.route other))
          (λ _ r. subst (λ (l : RouteLists). Each (Has o.asked) l.reaped) (sym (other_lists o.route other)) r)
          (drops o) h)
          (bus_abort s w k.bus law g.found g.there asked rests) (inr few);
    })

-- the abort of what transmits is asked
pub asks : (txfp : Bool) (t : St) (k : IsKept txfp t) (id m new : ℕ) (p : RouteView) →
    get_elem? t.views id ≡ some (alone p) → m < 3 → p.route < 8 → p.claims ≡ false →
    mark_of (get_or t.words 0 0) m ≡ 15 → lane_of (get_or t.words 0 0) m / 32 ≡ p.route →
    LaneSet (get_or t.words 0 0) m (lane_of (get_or t.words 0 0) m + 16) new →
    IsEvent txfp k.core (Abort p.route m) (stepped t 0 new id [] (alone (asked_at p m)) keeps)
asks txfp t k id m new p me small few idle mark owner ls =
    let s = k.core in
    let ws = t.words in
    let word = get_or ws 0 0 in
    let law = law_of s k.reached in
    let f = knows txfp t k id p me in
    let q = asked_at p m in
    let g = is_there s m (lane_of word m) law (k.shows.lanes m small) (omega arith) in
    let w = g.request in
    let own : w.route ≡ p.route = sym g.owner ∙ owner in
    let asked : w.abort_asked ≡ false = asked_by s m (lane_of word m) g 15 law mark in
    let st : w.status ≡ Transmitting = status_of s m (lane_of word m) g 15 mark in
    let sends : is_transmitting w.status ≡ true = ap is_transmitting st in
    let x = marked w w.status true in
    let next = with_waiting s (at_of s w) x in
    let at = g.found.at in
    let sp = g.found.split in
    let within : p.route < length s.routes = let e = k.eight in omega arith in
    let known = each_of (IsKnown p) s.queue w f.waiting g.has own in
    let number : get_or p.last m 0 ≡ w.number = ap (λ j. get_or p.last j 0) (sym g.mailbox_is) ∙ known.0 in
    let more : (n : ℕ) → Has p.asked n → Has q.asked n = λ n h. has-left p.asked (get_or p.last m 0 ∷ []) n h in
    subst (λ (j : ℕ). IsEvent txfp s (Abort p.route j) (stepped t 0 new id [] (alone q) keeps)) g.mailbox_is (record {
      next = next;
      after_is = goes-ask s p.route w at own asked sends;
      then = moves txfp t k id p q (set ws 0 new) next me refl
          (leads-reached s s next next refl (leads-ask s p.route w.mailbox w (at_of s w) within g.small
          (sym at) refl own asked sends) refl k.reached) k.priority k.eight
          (shows_mark ws s w new (lane_of word m + 16) k.shows law g.found
          (subst (λ (j : ℕ). LaneSet word j (lane_of word m + 16) new) (sym g.mailbox_is) ls) w.status true
          (let l = g.lane_is in let y = ap (λ z. mark_by z w.abort_asked) st in let v =
          ap (mark_by Transmitting) asked in let z = ap (λ z. mark_by z true) st in omega arith))
          (record {
            requested = f.requested;
            aborted = f.aborted;
            reaped = each_more (Has p.asked) (Has q.asked) (lists_of s p.route).reaped more f.reaped;
            claim = λ y. absurd (true≢false (sym y ∙ idle));
            only = f.only;
            three = f.three;
            waiting = subst (Each (IsKnown q)) (sym (sp.set x))
                (each-replace (IsKnown q) sp.before sp.behind w x (λ h own. let z = h own in
                (z.0, (λ _. subst (Has q.asked) number (has-last p.asked (get_or p.last m 0))), z.2))
                (subst (Each (IsKnown q)) sp.whole
                (each_more (IsKnown p) (IsKnown q) s.queue (λ y h own. let z = h own in
                (z.0, (λ e. more y.number (z.1 e)), z.2)) f.waiting)));
            ended = f.ended;
          })
          (λ o other h. fits_same ws new s next o refl refl refl (λ _ r. r)
          (λ z. subst (Each (IsKnown o)) (sym (sp.set x))
          (each-replace (IsKnown o) sp.before sp.behind w x (λ _ is. absurd (other (sym is ∙ own)))
          (subst (Each (IsKnown o)) sp.whole z))) h)
          (bus_ask s w k.bus law g.found sends) (inr few);
    })

pub aborts-keep : (txfp : Bool) (slots id m old new : ℕ) (p : RouteView) → m < 3 → p.route < 8 → p.claims ≡ false →
    (mark_of old m ≡ 3) ⊎ (mark_of old m ≡ 7) → lane_of old m / 32 ≡ p.route → LaneSet old m 0 new →
    Allows (IsKept txfp) slots id (seat_of p) 0 (λ n. either (n == old) new n)
    (Aborts (step slots 0 old new (some (Mailbox m))) (seat_of p))
aborts-keep txfp slots id m old new p small few idle mark owner ls t k long me fits =
    tries txfp t k slots id old new (some (Mailbox m)) p (aborted_at p m) me (λ e.
    (aborts txfp t k id m new p me small few idle
    (subst (λ (z : ℕ). (mark_of z m ≡ 3) ⊎ (mark_of z m ≡ 7)) (sym e) mark) (ap (λ z. lane_of z m / 32) e ∙ owner)
    (subst (λ (z : ℕ). LaneSet z m 0 new) (sym e) ls)).then.kept)

pub asks-keep : (txfp : Bool) (slots id m old new : ℕ) (p : RouteView) → m < 3 → p.route < 8 → p.claims ≡ false →
    mark_of old m ≡ 15 → lane_of old m / 32 ≡ p.route → LaneSet old m (lane_of old m + 16) new →
    Allows (IsKept txfp) slots id (seat_of p) 0 (λ n. either (n == old) new n)
    (Asks (step slots 0 old new (some (Mailbox m))) (seat_of p))
asks-keep txfp slots id m old new p small few idle mark owner ls t k long me fits =
    tries txfp t k slots id old new (some (Mailbox m)) p (asked_at p m) me (λ e.
    (asks txfp t k id m new p me small few idle (ap (λ z. mark_of z m) e ∙ mark) (ap (λ z. lane_of z m / 32) e ∙ owner)
    (subst (λ (z : ℕ). LaneSet z m (lane_of z m + 16) new) (sym e) ls)).then.kept)
