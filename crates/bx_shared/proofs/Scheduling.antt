-- The steps by which the bus's seat looks, reads payload words and schedules keep the rule.
use Rattle.std.proofs.Common.{◌≡◌, ℕ, suc, ◌+◌, ◌*◌, ◌%◌, ◌<◌, ◌≤◌, ◌⊎◌, inl, inr, ⊎_elim, nat_lt, nat_le, ◌==◌, ◌&&◌}
use Rattle.std.proofs.Common.{◌||◌, List, [], ◌∷◌, ◌++◌, length, get_or, set, refl, sym, ap, ◌∙◌, subst, arith, eq-eqb}
use Rattle.std.proofs.Common.{lt-ltb, le-leb, length-set, Option, Some, None, Bool, true, false}
use Rattle.std.specs.Prelude.{option_map}
use Rattle.std.specs.List.{find, list_all, slice_index_or}
use Rattle.std.proofs.lemmas.List.{get_or-set_same, get_or-set_other, get_or_past}
use mathlib.Core.Option.{some}
use mathlib.Core.Logic.{dite}
use native.Mathlib.Decide.{ℕ_discrete, dec_le}
use lib.ListN.{get_elem?}
use Rattle.can_frame.specs.Keys.{key_of}
use Rattle.atomic_table.specs.Table.{keeps, stepped}
use Rattle.bx_core.specs.declared.status.Status.{Status}
use Rattle.bx_core.specs.declared.status.Status.TheVariants.{Pending, Scheduled}
use Rattle.bx_core.specs.declared.waiting.Waiting.{Waiting}
use Rattle.bx_core.specs.declared.event.Event.TheVariants.{Schedule}
use Rattle.bx_core.specs.Lists.{Each, Has}
use Rattle.bx_core.specs.States.{State, at_mailbox, on_bus, is_pending, is_transmitting}
use Rattle.bx_core.specs.Priority.{comes_before, goes_before, goes_first, is_next_by, is_next}
use Rattle.bx_core.specs.Steps.{with_waiting}
use Rattle.bx_core.specs.Law.{Law}
use Rattle.bx_core.specs.PlainMail.{item_of}
use Rattle.bx_core.specs.TxBus.{Item}
use Rattle.bx_core.proofs.Words.{each_here, each_of}
use Rattle.bx_core.proofs.Queues.{marked}
use Rattle.bx_core.proofs.Numbers.{has-at_mailbox}
use Rattle.bx_core.proofs.Found.{IsFound, at_of, goes-schedule, find-has}
use Rattle.bx_core.proofs.Leads.{leads-schedule}
use Rattle.bx_core.proofs.Reaches.{law_of}
use Rattle.bx_core.proofs.Sending.{pending_idle}
use Rattle.bx_core.proofs.Standing.{mark-bus}
use Rattle.bx_words.specs.Lanes.{lane_of, mark_of, LaneSet, IsRequested, IsOlder}
use Rattle.bx_words.specs.Orders.{IsOldest}
use Rattle.bx_words.specs.Payloads.{IsHead, IsHeadOf, bytes_word}
use Rattle.bx_shared.specs.declared.route_view.RouteView.{RouteView}
use Rattle.bx_shared.specs.declared.bus_view.BusView.{BusView}
use Rattle.bx_shared.specs.Marks.{mark_by, rest_by, count_requests}
use Rattle.bx_shared.specs.Shown.{AreOrdered, IsPaid, Shows, count_in, AreHeads, FitsBus, IsKept, IsKeptAs, IsEvent}
use Rattle.bx_shared.specs.Shown.{past_of}
use Rattle.bx_shared.specs.BusSteps.{IsLeastRead, GoesNext, IsHeadSent, AreBytesSent, bus_looked, bus_tried, head_read}
use Rattle.bx_shared.proofs.Reading.{within, status_in, status_back, same_request}
use Rattle.bx_shared.proofs.Orders.{AreApart, apart_first, older_once}
use Rattle.bx_shared.proofs.Showing.{apart_queue, small_mailboxes}
use Rattle.bx_shared.proofs.Looking.{lane_of_request, each_all}
use Rattle.bx_shared.proofs.Finding.{is_there, status_of, asked_by, find-mark, is_sent, no_item}
use Rattle.bx_shared.proofs.Moves.{St}
use Rattle.bx_shared.proofs.BusMoves.{with_bus, bus_knows, bus_stays, bus_as, count_is, heads_looked, heads_mark}
use Rattle.bx_shared.proofs.Transmitting.{bus_marks}

-- a look, and an exchange that finds another word, change no state of the core

pub bus_looks : (txfp : Bool) (t : St) (k : IsKept txfp t) (id : ℕ) (b : BusView) (rs : List RouteView) →
    get_elem? t.views id ≡ some (with_bus b rs) →
    IsKeptAs txfp (stepped t 0 (get_or t.words 0 0) id [] (with_bus (bus_looked b (get_or t.words 0 0)) rs) keeps)
    k.core
bus_looks txfp t k id b rs me = bus_stays txfp t k id 0 b (bus_looked b (get_or t.words 0 0)) rs me
    (λ f. bus_as k.core b (bus_looked b (get_or t.words 0 0)) refl refl refl refl refl refl
    (λ h. let z = heads_looked k.core b (get_or t.words 0 0) (count_is k.core (get_or t.words 0 0) h k.shows.rest) in
    record { before = z.before; heads = z.heads }) f)

pub bus_misses : (txfp : Bool) (t : St) (k : IsKept txfp t) (id new : ℕ) (b : BusView) (rs : List RouteView) →
    get_elem? t.views id ≡ some (with_bus b rs) →
    IsKeptAs txfp (stepped t 0 (get_or t.words 0 0) id [] (with_bus (bus_tried b (get_or t.words 0 0) new) rs) keeps)
    k.core
bus_misses txfp t k id new b rs me = bus_stays txfp t k id 0 b (bus_tried b (get_or t.words 0 0) new) rs me
    (λ f. bus_as k.core b (bus_tried b (get_or t.words 0 0) new) refl refl refl refl refl refl
    (λ h. let z = f.heads h in record { before = z.before; heads = z.heads }) f)

-- a payload word of a mailbox is read

same_head : (a b : ℕ) → Some a ≡ Some b → a ≡ b
same_head a b e = cc

-- what stands where something was put
put_there : (xs : List (Option ℕ)) (m x y : ℕ) → get_or (set xs m (Some x)) m None ≡ Some y → x ≡ y
put_there xs m x y e = dite (dec_le (suc m) (length xs))
    (λ l. same_head x y (sym (get_or-set_same xs m (Some x) None l) ∙ e))
    (λ n. let none : get_or (set xs m (Some x)) m None ≡ None = get_or_past (set xs m (Some x)) m None
    (let l = length-set xs m (Some x) in omega arith) in let h : None ≡ Some y = sym none ∙ e in cc)

head_sent : (s : State) (ws : List ℕ) (b : BusView) (m : ℕ) → Shows ws s → FitsBus s b →
    IsHeadSent b m (get_or ws (1 + 2 * m) 0)
head_sent s ws b m sh f item sends at =
    let g = is_sent s item (f.sends ∙ sends) in
    let w = g.request in
    let p = each_of (IsPaid ws) s.queue w sh.payload
    (find-has (λ (y : Waiting). is_transmitting y.status) s.queue w g.on) in
    let here : w.mailbox ≡ m = f.mailbox w g.on ∙ at in
    subst (λ (i : Item). IsHeadOf i.2 i.1 (get_or ws (1 + 2 * m) 0)) g.item_is
    (subst (λ (j : ℕ). IsHeadOf w.frame w.number (get_or ws (1 + 2 * j) 0)) here p.head_is)

bytes_sent : (s : State) (ws : List ℕ) (b : BusView) (m : ℕ) → Shows ws s → FitsBus s b →
    AreBytesSent b m (get_or ws (2 + 2 * m) 0)
bytes_sent s ws b m sh f item sends at =
    let g = is_sent s item (f.sends ∙ sends) in
    let w = g.request in
    let p = each_of (IsPaid ws) s.queue w sh.payload
    (find-has (λ (y : Waiting). is_transmitting y.status) s.queue w g.on) in
    let here : w.mailbox ≡ m = f.mailbox w g.on ∙ at in
    subst (λ (i : Item). get_or ws (2 + 2 * m) 0 ≡ bytes_word i.2) g.item_is
    (subst (λ (j : ℕ). get_or ws (2 + 2 * j) 0 ≡ bytes_word w.frame) here p.bytes_are)

pub reads_head : (txfp : Bool) (t : St) (k : IsKept txfp t) (id m : ℕ) (b : BusView) (rs : List RouteView) →
    get_elem? t.views id ≡ some (with_bus b rs) → m < 3 →
    IsKeptAs txfp (stepped t (1 + 2 * m) (get_or t.words (1 + 2 * m) 0) id []
    (with_bus (head_read b m (get_or t.words (1 + 2 * m) 0)) rs) keeps) k.core
    × IsHead (get_or t.words (1 + 2 * m) 0) × IsHeadSent b m (get_or t.words (1 + 2 * m) 0)
reads_head txfp t k id m b rs me small =
    let s = k.core in
    let ws = t.words in
    let head = get_or ws (1 + 2 * m) 0 in
    let P : BusView → Waiting → Type 0 =
    λ c w. (x : ℕ) → slice_index_or c.heads w.mailbox None ≡ Some x → IsHeadOf w.frame w.number x in (
      bus_stays txfp t k id (1 + 2 * m) b (head_read b m head) rs me
          (λ f. bus_as s b (head_read b m head) refl refl refl refl refl refl (λ h. let z = f.heads h in record {
            before = z.before;
            heads = λ is. each_all (P (head_read b m head)) s.queue s.queue (λ w has x e. dite (ℕ_discrete w.mailbox m)
                (λ here. subst (IsHeadOf w.frame w.number) (ap (λ j. get_or ws (1 + 2 * j) 0) here
                ∙ put_there b.heads m head x (ap (λ j. get_or (set b.heads m (Some head)) j None) (sym here) ∙ e))
                (each_of (IsPaid ws) s.queue w k.shows.payload has).head_is)
                (λ n. each_of (P b) s.queue w (z.heads is) has x
                (sym (get_or-set_other b.heads m w.mailbox (Some head) None n) ∙ e))) (λ w has. has);
          }) f),
      k.shows.heads m small,
      head_sent s ws b m k.shows (bus_knows txfp t k id b rs me),
    )

pub reads_bytes : (txfp : Bool) (t : St) (k : IsKept txfp t) (id m : ℕ) (b : BusView) (rs : List RouteView) →
    get_elem? t.views id ≡ some (with_bus b rs) →
    IsKeptAs txfp (stepped t (2 + 2 * m) (get_or t.words (2 + 2 * m) 0) id [] (with_bus b rs) keeps) k.core
    × AreBytesSent b m (get_or t.words (2 + 2 * m) 0)
reads_bytes txfp t k id m b rs me = (
  bus_stays txfp t k id (2 + 2 * m) b b rs me (λ f. f),
  bytes_sent k.core t.words b m k.shows (bus_knows txfp t k id b rs me),
)

-- the oldest request by the order bits stands first
pub first_by_order : (word : ℕ) (xs ys : List Waiting) (w : Waiting) → AreApart (xs ++ w ∷ ys) →
    AreOrdered word (xs ++ w ∷ ys) → Each (λ x. (x.mailbox < 3) × IsRequested word x.mailbox) (xs ++ w ∷ ys) →
    IsOldest word w.mailbox →
    length xs ≡ 0
first_by_order word [] ys w a o r is = refl
first_by_order word (x ∷ xs) ys w a o r is =
    let apart : ¬ (w.mailbox ≡ x.mailbox) =
    each_here (λ (y : Waiting). ¬ (y.mailbox ≡ x.mailbox)) xs ys w (apart_first x (xs ++ w ∷ ys) a) in
    absurd (older_once word x.mailbox w.mailbox (λ e. apart (sym e))
    (each_here (λ (y : Waiting). IsOlder word x.mailbox y.mailbox) xs ys w o.0)
    (is.oldest x.mailbox r.0.0 (λ e. apart (sym e)) r.0.1))

-- each request's lane holds a request
pub requested_lane : (lane n r : ℕ) → 3 ≤ n → n < 32 → lane ≡ n + 32 * r → (lane % 32 ≡ n) × (3 ≤ lane % 32)
requested_lane lane n r a b is = (omega arith, omega arith)

lanes_hold : (ws : List ℕ) (s : State) (w : Waiting) → Shows ws s → Law s → Has s.queue w →
    (mark_of (get_or ws 0 0) w.mailbox ≡ mark_by w.status w.abort_asked) × IsRequested (get_or ws 0 0) w.mailbox
lanes_hold ws s w sh law has = let b = within w in
    requested_lane (lane_of (get_or ws 0 0) w.mailbox) (mark_by w.status w.abort_asked) w.route b.0 b.1
    (lane_of_request ws s w sh law has)

all_of : (f : Waiting → Bool) (q : List Waiting) → Each (λ x. f x ≡ true) q → list_all f q ≡ true
all_of f [] a = refl
all_of f (x ∷ xs) a = ap (λ b. b && list_all f xs) a.0 ∙ all_of f xs a.1

either_true : (a b : Bool) → (a ≡ true) ⊎ (b ≡ true) → (a || b) ≡ true
either_true true b h = refl
either_true false b h = ⊎_elim (λ (e : false ≡ true). cc) (λ e. e) h

before_is : (kw mw kx mx : ℕ) → (kw < kx) ⊎ ((kw ≡ kx) × (mw ≤ mx)) → comes_before kw mw kx mx ≡ true
before_is kw mw kx mx h = either_true (nat_lt kw kx) ((kw == kx) && nat_le mw mx)
    (⊎_elim (λ (l : kw < kx). inl (lt-ltb kw kx l))
    (λ (t : (kw ≡ kx) × (mw ≤ mx)). inr (ap (λ b. b && nat_le mw mx) (eq-eqb kw kx t.0) ∙ le-leb mw mx t.1)) h)

pending_is : (st : Status) → st ≡ Pending → is_pending st ≡ true
pending_is st e = ap is_pending e

-- of the requests that wait the one with the least key goes first
first_by_key : (ws : List ℕ) (s : State) (w : Waiting) (b : BusView) → Shows ws s → Law s → s.txfp ≡ false →
    AreHeads s b → Has s.queue w → IsLeastRead b (get_or ws 0 0) w.mailbox → goes_first w s.queue ≡ true
first_by_key ws s w b sh law by heads has least =
    let word = get_or ws 0 0 in
    let count : b.seen ≡ word = least.seen in
    let known = heads.heads (ap (λ x. count_in x) count ∙ count_is s word by sh.rest) in
    let P : Waiting → Type 0 =
    λ x. (head : ℕ) → slice_index_or b.heads x.mailbox None ≡ Some head → IsHeadOf x.frame x.number head in
    let key : (x : Waiting) → Has s.queue x → (x.mailbox < 3) → get_or least.keys x.mailbox 0 ≡ key_of x.frame =
    λ x h small. let r = least.read x.mailbox small (lanes_hold ws s x sh law h).1 in
    r.key_is x.frame x.number (each_of P s.queue x known h r.head r.read) in
    let small = small_mailboxes s law in
    all_of (λ x. is_pending x.status && goes_before w x) s.queue
    (each_all (λ x. (is_pending x.status && goes_before w x) ≡ true) s.queue s.queue (λ x h.
    let there = each_of (λ (y : Waiting). y.mailbox < 3) s.queue x small h in
    let here = each_of (λ (y : Waiting). y.mailbox < 3) s.queue w small has in
    let l = lanes_hold ws s x sh law h in
    let st : x.status ≡ Pending =
    sym (status_back x.status x.abort_asked) ∙ ap status_in (sym l.0 ∙ least.pending x.mailbox there l.1) in
    ap (λ c. c && goes_before w x) (pending_is x.status st)
    ∙ before_is (key_of w.frame) w.mailbox (key_of x.frame) x.mailbox (dite (ℕ_discrete x.mailbox w.mailbox)
    (λ e. let one : (y : Waiting) → Has s.queue y → at_mailbox y.mailbox s.queue ≡ Some y =
    λ y has. has-at_mailbox s.queue y has (let m = law.apart y.mailbox in omega arith) in
    let same : x ≡ w = same_request x w (sym (one x h) ∙ ap (λ j. at_mailbox j s.queue) e ∙ one w has) in
    inr (ap (λ (y : Waiting). key_of y.frame) (sym same), let m : w.mailbox ≡ x.mailbox = sym e in omega arith))
    (λ n. let kw = key w has here in let kx = key x h there in ⊎_elim
    (λ (l : get_or least.keys w.mailbox 0 < get_or least.keys x.mailbox 0). inl (omega arith))
    (λ (t : (get_or least.keys w.mailbox 0 ≡ get_or least.keys x.mailbox 0) × (w.mailbox < x.mailbox)). let y = t.0 in
    let z = t.1 in inr (omega arith, omega arith))
    (least.least.least x.mailbox there n l.1)))) (λ x h. h))

-- the next request by the word may be scheduled
is_the_next : (ws : List ℕ) (s : State) (w : Waiting) (b : BusView) → Shows ws s → Law s → FitsBus s b → Has s.queue w →
    IsFound s w → GoesNext b (get_or ws 0 0) w.mailbox → is_next s (at_of s w) w ≡ true
is_the_next ws s w b sh law fit has f goes =
    elim s.txfp as (λ c. s.txfp ≡ c → is_next_by c (at_of s w) w s.queue ≡ true) [
      | true ↦ λ e. eq-eqb (at_of s w) 0 (f.split.place
          ∙ first_by_order (get_or ws 0 0) f.split.before f.split.behind w
          (subst AreApart f.split.whole (apart_queue s law)) (subst (AreOrdered (get_or ws 0 0)) f.split.whole sh.order)
          (subst (Each (λ x. (x.mailbox < 3) × IsRequested (get_or ws 0 0) x.mailbox)) f.split.whole
          (each_all (λ x. (x.mailbox < 3) × IsRequested (get_or ws 0 0) x.mailbox) s.queue s.queue
          (λ x h. (
            each_of (λ (y : Waiting). y.mailbox < 3) s.queue x (small_mailboxes s law) h,
            (lanes_hold ws s x sh law h).1,
          )) (λ x h. h)))
          (goes.by_order (let r = sh.rest ∙ ap (λ c. rest_by c (count_requests s.routes)) e in omega arith)))
      | false ↦ λ e. first_by_key ws s w b sh law e (fit.heads e) has
          (goes.by_identifier (let r = sh.rest ∙ ap (λ c. rest_by c (count_requests s.routes)) e in omega arith))
    ] refl

pub schedules : (txfp : Bool) (t : St) (k : IsKept txfp t) (id m new : ℕ) (b : BusView) (rs : List RouteView) →
    get_elem? t.views id ≡ some (with_bus b rs) → m < 3 → b.reaps ≡ None → GoesNext b (get_or t.words 0 0) m →
    LaneSet (get_or t.words 0 0) m (lane_of (get_or t.words 0 0) m + 4) new →
    IsEvent txfp k.core (Schedule m) (stepped t 0 new id [] (with_bus (bus_tried b (get_or t.words 0 0) new) rs) keeps)
schedules txfp t k id m new b rs me small none goes ls =
    let s = k.core in
    let word = get_or t.words 0 0 in
    let law = law_of s k.reached in
    let fit = bus_knows txfp t k id b rs me in
    let mark = goes.pending in
    let g = is_there s m (lane_of word m) law (k.shows.lanes m small) (omega arith) in
    let w = g.request in
    let f = g.found in
    let st : w.status ≡ Pending = status_of s m (lane_of word m) g 3 mark in
    let asked : w.abort_asked ≡ false = asked_by s m (lane_of word m) g 3 law mark in
    let pending = pending_is w.status st in
    let go : is_next s (at_of s w) w ≡ true =
    is_the_next t.words s w b k.shows law fit g.has f (subst (GoesNext b word) (sym g.mailbox_is) goes) in
    let x = marked w Scheduled w.abort_asked in
    let next = with_waiting s (at_of s w) x in
    let is : Waiting → Bool = λ y. is_transmitting y.status in
    let same : on_bus next ≡ on_bus s = ap (find is) (f.split.set x)
    ∙ find-mark is f.split.before f.split.behind w x (pending_idle w.status pending) refl
    ∙ ap (find is) (sym f.split.whole) in
    let stands = mark-bus s (at_of s w) x (past_of b) fit.stands in
    subst (λ (j : ℕ). IsEvent txfp s (Schedule j) (stepped t 0 new id [] (with_bus (bus_tried b word new) rs) keeps))
    g.mailbox_is (record {
      next = next;
      after_is = goes-schedule s w f.at pending go;
      then = bus_marks txfp t k id new (lane_of word m + 4) b (bus_tried b word new) rs w Scheduled me f
          (leads-schedule s w.mailbox w (at_of s w) g.small (sym f.at) refl go pending)
          (subst (λ (j : ℕ). LaneSet word j (lane_of word m + 4) new) (sym g.mailbox_is) ls)
          (let l = g.lane_is in let y = ap (λ z. mark_by z w.abort_asked) st in let v = ap (mark_by Scheduled) asked in
          omega arith)
          (record {
            stands =
                record { started_known = stands.started_known; done_is = stands.done_is; reaped_is = stands.reaped_is };
            priority = fit.priority;
            reaped_known = fit.reaped_known;
            sends = ap (option_map item_of) same ∙ fit.sends;
            mailbox = λ y e. fit.mailbox y (sym same ∙ e);
            reaps = λ y e. no_item y (sym none ∙ e);
            heads = λ h. let z = heads_mark s b w Scheduled w.abort_asked f (fit.heads h) in
                record { before = z.before; heads = z.heads };
          });
    })
