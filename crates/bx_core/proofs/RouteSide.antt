-- The calls of a route: what they add to its past, and what they leave as it was.
use Rattle.std.proofs.Common.{◌≡◌, ◌≢◌, ℕ, ◌<◌, ◌==◌, ◌&&◌, ◌⊎◌, ⊎_elim, Bool, true, false, cond, not, List, [], ◌∷◌}
use Rattle.std.proofs.Common.{◌++◌, length, set, refl, sym, ap, ◌∙◌, subst, Option, Some, Ok, ne_eqb}
use Rattle.std.specs.List.{remove}
use Rattle.std.proofs.lemmas.Bool.{false≢true}
use Rattle.std.proofs.lemmas.List.{append-nil, length-set, get_or-set_same, get_or-set_other}
use Rattle.bx_core.specs.declared.entry.Entry.{Entry}
use Rattle.bx_core.specs.declared.answer.AbortAnswer.{AbortAnswer}
use Rattle.bx_core.specs.declared.answer.AbortAnswer.TheVariants.{Ended, Asked, Gone}
use Rattle.bx_core.specs.declared.plain_mail.PlainMail.{PlainMail}
use Rattle.bx_core.specs.declared.waiting.Waiting.{Waiting}
use Rattle.bx_core.specs.declared.refused.Refused.TheVariants.{NotOwner, WrongState}
use Rattle.bx_core.specs.Lists.{Each, Has}
use Rattle.bx_core.specs.States.{State, RouteLists, no_lists, lists_of, at_mailbox, place_of, is_transmitting}
use Rattle.bx_core.specs.Steps.{with_waiting, without, aborted_lists, aborted, aborted_at}
use Rattle.bx_core.specs.Law.{Law}
use Rattle.bx_core.specs.TxBus.{BusPast}
use Rattle.bx_core.specs.RouteTx.{RoutePast, after_abort}
use Rattle.bx_core.specs.PlainMail.{core_of, short_of, sending, Aborts}
use Rattle.bx_core.specs.Stands.{BusStands, RouteStands, RouteKeeps, asked_of}
use Rattle.bx_core.proofs.Words.{passed, each_more, has-left, has-last, set-each}
use Rattle.bx_core.proofs.Queues.{Split, split_at}
use Rattle.bx_core.proofs.Reaches.{either_ok}
use Rattle.bx_core.proofs.Found.{found, at_of}
use Rattle.bx_core.proofs.Sending.{item_in, item-drop, item-asked}
use Rattle.bx_core.proofs.Standing.{each_rest, each_step, other_past, stands_by, bus_on, asked_of-drop, mark-bus}

-- abort

-- what an abort found, and what it left
pub was_aborted : (s t : State) (r : ℕ) (w : Waiting) → at_mailbox w.mailbox s.queue ≡ Some w →
    aborted s r w.mailbox ≡ Ok t → (w.abort_asked ≡ false)
    × (((is_transmitting w.status ≡ true)
    × (with_waiting s (place_of w.mailbox s.queue) (record w { abort_asked = true }) ≡ t))
    ⊎ ((is_transmitting w.status ≡ false)
    × (without s (place_of w.mailbox s.queue) w.route (aborted_lists (lists_of s w.route) w) ≡ t)))
unfolding aborted
was_aborted s t r w at e =
    let h : aborted_at s r w.mailbox (place_of w.mailbox s.queue) (Some w) ≡ Ok t =
    subst (λ (o : Option Waiting). aborted_at s r w.mailbox (place_of w.mailbox s.queue) o ≡ Ok t) at e in
    let p = passed (not (w.route == r)) NotOwner _ t h in
    let o = passed w.abort_asked WrongState _ t p.1 in (
      o.0,
      either_ok (is_transmitting w.status) (with_waiting s (place_of w.mailbox s.queue)
          (record w { abort_asked = true }))
          (without s (place_of w.mailbox s.queue) w.route (aborted_lists (lists_of s w.route) w)) t o.1,
    )

-- a request that waited and wasn't transmitting was aborted
record Left (s t : State) (w : Waiting) : Type 0 where
  pub split : Split w.mailbox s.queue w
  pub idle : is_transmitting w.status ≡ false
  pub new : without s (place_of w.mailbox s.queue) w.route (aborted_lists (lists_of s w.route) w) ≡ t

-- a transmitting request was asked to end
record Marked (s t : State) (w : Waiting) : Type 0 where
  pub split : Split w.mailbox s.queue w
  pub unasked : w.abort_asked ≡ false
  pub new : with_waiting s (at_of s w) (record w { abort_asked = true }) ≡ t

was_left : (s t : State) (r : ℕ) (w : Waiting) → Law s → Has s.queue w → is_transmitting w.status ≡ false →
    aborted s r w.mailbox ≡ Ok t → Left s t w
was_left s t r w l h idle e =
    let at = (found s w l h).at in
    ⊎_elim
    (λ (y : (is_transmitting w.status ≡ true)
    × (with_waiting s (place_of w.mailbox s.queue) (record w { abort_asked = true }) ≡ t)). absurd
    (false≢true (sym idle ∙ y.0)))
    (λ (y : (is_transmitting w.status ≡ false)
    × (without s (place_of w.mailbox s.queue) w.route (aborted_lists (lists_of s w.route) w) ≡ t)).
    record { split = split_at w.mailbox s.queue w at; idle = idle; new = y.1 })
    (was_aborted s t r w at e).1

was_marked : (s t : State) (r : ℕ) (w : Waiting) → Law s → Has s.queue w → is_transmitting w.status ≡ true →
    aborted s r w.mailbox ≡ Ok t → Marked s t w
was_marked s t r w l h sends e =
    let f = found s w l h in
    let a = was_aborted s t r w f.at e in
    ⊎_elim
    (λ (y : (is_transmitting w.status ≡ true)
    × (with_waiting s (place_of w.mailbox s.queue) (record w { abort_asked = true }) ≡ t)).
    record { split = f.split; unasked = a.0; new = y.1 })
    (λ (y : (is_transmitting w.status ≡ false)
    × (without s (place_of w.mailbox s.queue) w.route (aborted_lists (lists_of s w.route) w) ≡ t)). absurd
    (false≢true (sym y.0 ∙ sends)))
    a.1

-- the asked of fewer requests
fewer_asked : (P : ℕ → Type 0) (s t : State) (w : Waiting) (k : ℕ) → Left s t w → Each P (asked_of k s.queue) →
    Each P (asked_of k (remove s.queue (place_of w.mailbox s.queue)))
fewer_asked P s t w k h a = subst (λ (q : List Waiting). Each P (asked_of k q)) (sym h.split.rest)
    (asked_of-drop P k h.split.before h.split.behind w
    (subst (λ (q : List Waiting). Each P (asked_of k q)) h.split.whole a))

left-own : (s t : State) (w : Waiting) (past : RoutePast) → w.route < length s.routes → Left s t w →
    RouteStands s w.route past → RouteStands t w.route (after_abort past w.number Ended false)
left-own s t w past there h k =
    let x = aborted_lists (lists_of s w.route) w in
    let v = without s (place_of w.mailbox s.queue) w.route x in
    let new : RoutePast = record past { aborted = past.aborted ++ w.number ∷ [] } in
    subst (λ (u : State). RouteStands u w.route (after_abort past w.number Ended false)) h.new
    (other_past v w.route new (after_abort past w.number Ended false) refl refl (sym (append-nil past.asked))
    (stands_by v w.route new x (get_or-set_same s.routes w.route x no_lists there) k.requested_is
    (ap (λ (ns : List ℕ). ns ++ w.number ∷ []) k.aborted_is)
    (fewer_asked (Has past.asked) s t w w.route h k.asked_waits) k.asked_reaped))

left-other : (s t : State) (w : Waiting) (k : ℕ) (past : RoutePast) → k ≢ w.route → Left s t w → RouteStands s k past →
    RouteStands t k past
left-other s t w k past ne h a =
    let x = aborted_lists (lists_of s w.route) w in
    subst (λ (u : State). RouteStands u k past) h.new
    (stands_by (without s (place_of w.mailbox s.queue) w.route x) k past (lists_of s k)
    (get_or-set_other s.routes w.route k x no_lists ne) a.requested_is a.aborted_is
    (fewer_asked (Has past.asked) s t w k h a.asked_waits) a.asked_reaped)

left-bus : (s t : State) (w : Waiting) (past : BusPast) → w.route < length s.routes → Left s t w → BusStands s past →
    BusStands t past
left-bus s t w past there h b =
    let x = aborted_lists (lists_of s w.route) w in
    subst (λ (u : State). BusStands u past) h.new
    (bus_on s (without s (place_of w.mailbox s.queue) w.route x) past
    (set-each (λ (k : ℕ) (l : RouteLists). (y : Entry) → Has (lists_of s k).requested y → Has l.requested y) s.routes
    w.route x no_lists there (λ y e. e) (λ k ne y e. e))
    (set-each (λ (k : ℕ) (l : RouteLists). (lists_of s k).done ≡ l.done) s.routes w.route x no_lists there refl
    (λ k ne. refl))
    (set-each (λ (k : ℕ) (l : RouteLists). (lists_of s k).reaped ≡ l.reaped) s.routes w.route x no_lists there refl
    (λ k ne. refl)) b)

left-sends : (s t : State) (w : Waiting) → Left s t w → sending t ≡ sending s
left-sends s t w h =
    ap sending (sym h.new) ∙ ap item_in h.split.rest ∙ sym (item-drop h.split.before h.split.behind w h.idle)
    ∙ ap item_in (sym h.split.whole)

-- one more is asked to end

asked_head : (P : ℕ → Type 0) (b : Bool) (n : ℕ) (ns : List ℕ) → P n → Each P ns → Each P (cond b (n ∷ ns) ns)
asked_head P true n ns p a = (p, a)
asked_head P false n ns p a = a

-- the asked of one more
asked_of-ask : (P : ℕ → Type 0) (r : ℕ) (xs ys : List Waiting) (w : Waiting) → P w.number →
    Each P (asked_of r (xs ++ w ∷ ys)) → Each P (asked_of r (xs ++ record w { abort_asked = true } ∷ ys))
asked_of-ask P r [] ys w p a = asked_head P ((w.route == r) && true) w.number (asked_of r ys) p
    (each_rest P ((w.route == r) && w.abort_asked) w.number (asked_of r ys) a)
asked_of-ask P r (x ∷ xs) ys w p a = each_step P ((x.route == r) && x.abort_asked) x.number (asked_of r (xs ++ w ∷ ys))
    (asked_of r (xs ++ record w { abort_asked = true } ∷ ys)) (asked_of-ask P r xs ys w p) a

marked-own : (s t : State) (w : Waiting) (past : RoutePast) → Marked s t w → RouteStands s w.route past →
    RouteStands t w.route (after_abort past w.number Asked true)
marked-own s t w past h k =
    let x : Waiting = record w { abort_asked = true } in
    let v = with_waiting s (at_of s w) x in
    let new : RoutePast = record past { asked = past.asked ++ w.number ∷ [] } in
    let sp = h.split in
    let more : (n : ℕ) → Has past.asked n → Has new.asked n = λ n e. has-left past.asked (w.number ∷ []) n e in
    let waits : Each (Has past.asked) (asked_of w.route (sp.before ++ w ∷ sp.behind)) =
    subst (λ (q : List Waiting). Each (Has past.asked) (asked_of w.route q)) sp.whole k.asked_waits in
    let all : Each (Has new.asked) (asked_of w.route (set s.queue (at_of s w) x)) =
    subst (λ (q : List Waiting). Each (Has new.asked) (asked_of w.route q)) (sym (sp.set x))
    (asked_of-ask (Has new.asked) w.route sp.before sp.behind w (has-last past.asked w.number)
    (each_more (Has past.asked) (Has new.asked) (asked_of w.route (sp.before ++ w ∷ sp.behind)) more waits)) in
    subst (λ (u : State). RouteStands u w.route (after_abort past w.number Asked true)) h.new
    (other_past v w.route new (after_abort past w.number Asked true) refl (sym (append-nil past.aborted)) refl
    (record {
      requested_is = k.requested_is;
      aborted_is = k.aborted_is;
      asked_waits = all;
      asked_reaped = each_more (Has past.asked) (Has new.asked) (lists_of s w.route).reaped more k.asked_reaped;
    }))

marked_other : (w : Waiting) (k : ℕ) (xs ys : List Waiting) → k ≢ w.route →
    asked_of k (xs ++ record w { abort_asked = true } ∷ ys) ≡ asked_of k (xs ++ w ∷ ys)
marked_other w k [] ys ne = rw (ne_eqb w.route k (λ is. ne (sym is))) refl
marked_other w k (x ∷ xs) ys ne =
    ap (λ (ns : List ℕ). cond ((x.route == k) && x.abort_asked) (x.number ∷ ns) ns) (marked_other w k xs ys ne)

marked-other : (s t : State) (w : Waiting) (k : ℕ) (past : RoutePast) → k ≢ w.route → Marked s t w →
    RouteStands s k past → RouteStands t k past
marked-other s t w k past ne h a =
    let x : Waiting = record w { abort_asked = true } in
    let sp = h.split in
    let same : asked_of k (set s.queue (at_of s w) x) ≡ asked_of k s.queue =
    ap (asked_of k) (sp.set x) ∙ marked_other w k sp.before sp.behind ne ∙ ap (asked_of k) (sym sp.whole) in
    subst (λ (u : State). RouteStands u k past) h.new (record {
      requested_is = a.requested_is;
      aborted_is = a.aborted_is;
      asked_waits = subst (Each (Has past.asked)) (sym same) a.asked_waits;
      asked_reaped = a.asked_reaped;
    })

marked-bus : (s t : State) (w : Waiting) (past : BusPast) → Marked s t w → BusStands s past → BusStands t past
marked-bus s t w past h b =
    subst (λ (u : State). BusStands u past) h.new (mark-bus s (at_of s w) (record w { abort_asked = true }) past b)

marked-sends : (s t : State) (w : Waiting) → Marked s t w → sending t ≡ sending s
marked-sends s t w h =
    let sp = h.split in
    ap sending (sym h.new) ∙ ap item_in (sp.set (record w { abort_asked = true })) ∙ item-asked sp.before sp.behind w
    ∙ ap item_in (sym sp.whole)

-- nothing changed
unasked-own : (s : State) (r n : ℕ) (answer : AbortAnswer) (past : RoutePast) →
    (after_abort past n answer false).aborted ≡ past.aborted ++ [] →
    (after_abort past n answer false).asked ≡ past.asked ++ [] →
    RouteStands s r past → RouteStands s r (after_abort past n answer false)
unasked-own s r n answer past a b h = other_past s r past (after_abort past n answer false) refl
    (sym (a ∙ append-nil past.aborted)) (sym (b ∙ append-nil past.asked)) h

pub aborts-own : (s t : State) (r n : ℕ) (answer : AbortAnswer) (past : RoutePast) → Law s → r < length s.routes →
    Aborts s r n answer t → RouteStands s r past → (asks : Bool) × RouteStands t r (after_abort past n answer asks)
aborts-own s t r n Ended past l there h k =
    let w = h.0 in
    let own = h.2.route_is in
    let left = was_left s t r w l h.1 h.3 h.4 in
    let new = left-own s t w past (subst (λ (i : ℕ). i < length s.routes) (sym own) there) left
    (subst (λ (i : ℕ). RouteStands s i past) (sym own) k) in (
      false,
      subst (λ (i : ℕ). RouteStands t r (after_abort past i Ended false)) h.2.number_is
          (subst (λ (i : ℕ). RouteStands t i (after_abort past w.number Ended false)) own new),
    )
aborts-own s t r n Asked past l there h k =
    let w = h.0 in
    let own = h.2.route_is in
    ⊎_elim
    (λ (y : (w.abort_asked ≡ true) × (t ≡ s)). (
      false,
      subst (λ (v : State). RouteStands v r (after_abort past n Asked false)) (sym y.1)
          (unasked-own s r n Asked past refl refl k),
    ))
    (λ (y : (is_transmitting w.status ≡ true) × (aborted s r w.mailbox ≡ Ok t)).
    let new = marked-own s t w past (was_marked s t r w l h.1 y.0 y.1)
    (subst (λ (i : ℕ). RouteStands s i past) (sym own) k) in (
      true,
      subst (λ (i : ℕ). RouteStands t r (after_abort past i Asked true)) h.2.number_is
          (subst (λ (i : ℕ). RouteStands t i (after_abort past w.number Asked true)) own new),
    ))
    h.3
aborts-own s t r n Gone past l there h k = (
  false,
  subst (λ (v : State). RouteStands v r (after_abort past n Gone false)) (sym h.1)
      (unasked-own s r n Gone past refl refl k),
)
aborts-own s t r n answer past l there h k = absurd h

same-keeps : (a b : PlainMail) (r : ℕ) → core_of b ≡ core_of a → short_of b ≡ short_of a → RouteKeeps r a b
same-keeps a b r core short = record {
  routes = ap (λ (v : State). length v.routes) core;
  priority = ap (λ (v : State). v.txfp) core;
  short = λ e. short ∙ e;
  sends = ap sending core;
  bus = λ past k. subst (λ (v : State). BusStands v past) (sym core) k;
  others = λ k ne past h. subst (λ (v : State). RouteStands v k past) (sym core) h;
}

pub aborts-keeps : (a b : PlainMail) (r n : ℕ) (answer : AbortAnswer) → Law (core_of a) →
    r < length (core_of a).routes → Aborts (core_of a) r n answer (core_of b) → short_of b ≡ short_of a →
    RouteKeeps r a b
aborts-keeps a b r n Ended l there h short =
    let s = core_of a in
    let t = core_of b in
    let w = h.0 in
    let own = h.2.route_is in
    let at : w.route < length s.routes = subst (λ (i : ℕ). i < length s.routes) (sym own) there in
    let left = was_left s t r w l h.1 h.3 h.4 in
    record {
      routes = ap (λ (v : State). length v.routes) (sym left.new)
          ∙ length-set s.routes w.route (aborted_lists (lists_of s w.route) w);
      priority = ap (λ (v : State). v.txfp) (sym left.new);
      short = λ e. short ∙ e;
      sends = left-sends s t w left;
      bus = λ past k. left-bus s t w past at left k;
      others = λ i ne past k. left-other s t w i past (λ is. ne (is ∙ own)) left k;
    }
aborts-keeps a b r n Asked l there h short =
    let s = core_of a in
    let t = core_of b in
    let w = h.0 in
    let own = h.2.route_is in
    ⊎_elim
    (λ (y : (w.abort_asked ≡ true) × (t ≡ s)). same-keeps a b r y.1 short)
    (λ (y : (is_transmitting w.status ≡ true) × (aborted s r w.mailbox ≡ Ok t)).
    let m = was_marked s t r w l h.1 y.0 y.1 in
    record {
      routes = ap (λ (v : State). length v.routes) (sym m.new);
      priority = ap (λ (v : State). v.txfp) (sym m.new);
      short = λ e. short ∙ e;
      sends = marked-sends s t w m;
      bus = λ past k. marked-bus s t w past m k;
      others = λ i ne past k. marked-other s t w i past (λ is. ne (is ∙ own)) m k;
    })
    h.3
aborts-keeps a b r n Gone l there h short = same-keeps a b r h.1 short
aborts-keeps a b r n answer l there h short = absurd h

-- the route is there still
pub there-keeps : (a b : PlainMail) (r : ℕ) → RouteKeeps r a b → r < length (core_of a).routes →
    r < length (core_of b).routes
there-keeps a b r k there = subst (λ (n : ℕ). r < n) (sym k.routes) there
