-- The request that a lane of the control word tells of, and what a search of the queue finds.
use Rattle.std.proofs.Common.{◌≡◌, ℕ, ◌+◌, ◌*◌, ◌/◌, ◌%◌, ◌<◌, ◌≤◌, ⊎_elim, cond, nat_lt, List, [], ◌∷◌, ◌++◌, length}
use Rattle.std.proofs.Common.{refl, sym, ap, ◌∙◌, arith, Some, None, Bool, true, false}
use Rattle.std.specs.Prelude.{option_map}
use Rattle.std.specs.List.{find}
use Rattle.bx_core.specs.declared.status.Status.{Status}
use Rattle.bx_core.specs.declared.status.Status.TheVariants.{Pending, Scheduled, Transmitting}
use Rattle.bx_core.specs.declared.waiting.Waiting.{Waiting}
use Rattle.bx_core.specs.Lists.{Has}
use Rattle.bx_core.specs.States.{State, claim_of, is_pending, is_scheduled, on_bus, in_turn}
use Rattle.bx_core.specs.Law.{Law, IsInPlace, IsAskedBusy, count_busy}
use Rattle.bx_core.specs.TxBus.{Item}
use Rattle.bx_core.specs.PlainMail.{item_of}
use Rattle.bx_core.proofs.Words.{each_of, some_or_none}
use Rattle.bx_core.proofs.Found.{IsFound, IsAlone, found}
use Rattle.bx_core.proofs.Sending.{idle_head}
use Rattle.bx_shared.specs.Marks.{mark_by, lane_by, claim_lane, waiting_lane}
use Rattle.bx_shared.proofs.Reading.{reads, within, status_in, status_back, asked_back, at_has, IsEmptyLane}
use Rattle.bx_shared.proofs.Reading.{IsFillingLane, IsRequestLane}

-- a lane whose mark is that of a request tells of this one
pub record IsThere (s : State) (m lane : ℕ) : Type 0 where
  pub request : Waiting
  pub mailbox_is : request.mailbox ≡ m
  pub has : Has s.queue request
  pub found : IsFound s request
  pub mark : lane % 32 ≡ mark_by request.status request.abort_asked
  pub owner : lane / 32 ≡ request.route
  pub lane_is : lane ≡ lane_by request
  pub there : request.route < length s.routes
  pub small : request.mailbox < 3

pub low_five : (lane n r : ℕ) → n < 32 → lane ≡ n + 32 * r → (lane % 32 ≡ n) × (lane / 32 ≡ r)
low_five lane n r b is = (omega arith, omega arith)

pub is_there : (s : State) (m lane : ℕ) → Law s → lane ≡ claim_lane (claim_of s m) + waiting_lane s.queue m →
    3 ≤ lane % 32 → IsThere s m lane
is_there s m lane law is low = ⊎_elim (λ (e : IsEmptyLane s m). let l = e.lane in absurd (omega arith)) (λ k. ⊎_elim
    (λ (f : IsFillingLane s m). let l = f.lane in absurd (omega arith))
    (λ (q : IsRequestLane s m).
    let w = q.one.request in
    let b = within w in
    let at = at_has m s.queue w q.one.at in
    let l : lane ≡ lane_by w = is ∙ q.lane in
    let n = low_five lane (mark_by w.status w.abort_asked) w.route b.1 l in
    let place = each_of (IsInPlace (length s.routes)) s.queue w law.in_place at.0 in
    record {
      request = w;
      mailbox_is = at.1;
      has = at.0;
      found = found s w law at.0;
      mark = n.0;
      owner = n.1;
      lane_is =
          l;
      there = place.route;
      small = place.mailbox;
    }) k) (reads s m law)

-- the status of the request, and whether its abort was asked, by the mark
pub status_of : (s : State) (m lane : ℕ) (t : IsThere s m lane) (n : ℕ) → lane % 32 ≡ n → t.request.status ≡ status_in n
status_of s m lane t n is = sym (status_back t.request.status t.request.abort_asked) ∙ ap status_in (sym t.mark ∙ is)

pub asked_by : (s : State) (m lane : ℕ) (t : IsThere s m lane) (n : ℕ) → Law s → lane % 32 ≡ n →
    t.request.abort_asked ≡ nat_lt 15 n
asked_by s m lane t n law is =
    sym (asked_back t.request.status t.request.abort_asked (each_of IsAskedBusy s.queue t.request law.asked t.has))
    ∙ ap (nat_lt 15) (sym t.mark ∙ is)

-- requests that a search passes by

pub find-drop : (is : Waiting → Bool) (xs ys : List Waiting) (w : Waiting) → is w ≡ false →
    find is (xs ++ w ∷ ys) ≡ find is (xs ++ ys)
find-drop is [] ys w e = ap (λ b. cond b (Some w) (find is ys)) e
find-drop is (x ∷ xs) ys w e = ap (λ o. cond (is x) (Some x) o) (find-drop is xs ys w e)

-- one of them changes, and is passed by as before
pub find-mark : (is : Waiting → Bool) (xs ys : List Waiting) (w x : Waiting) → is w ≡ false → is x ≡ false →
    find is (xs ++ x ∷ ys) ≡ find is (xs ++ w ∷ ys)
find-mark is xs ys w x e f = find-drop is xs ys x f ∙ sym (find-drop is xs ys w e)

-- a search that passes all pending ones by
abbrev pub PassesPending : (Waiting → Bool) → Type 0
PassesPending is = (w : Waiting) → is_pending w.status ≡ true → is w ≡ false

pub find-skip : (is : Waiting → Bool) (xs ys : List Waiting) → PassesPending is → count_busy xs ≡ 0 →
    find is (xs ++ ys) ≡ find is ys
find-skip is [] ys p e = refl
find-skip is (x ∷ xs) ys p e = let h = idle_head (is_pending x.status) (count_busy xs) e in
    ap (λ b. cond b (Some x) (find is (xs ++ ys))) (p x h.0) ∙ find-skip is xs ys p h.1

pub find-there : (is : Waiting → Bool) (xs ys : List Waiting) (w : Waiting) → PassesPending is → count_busy xs ≡ 0 →
    is w ≡ true → find is (xs ++ w ∷ ys) ≡ Some w
find-there is xs ys w p e so = find-skip is xs (w ∷ ys) p e ∙ ap (λ b. cond b (Some w) (find is ys)) so

pending_unscheduled : (st : Status) → is_pending st ≡ true → is_scheduled st ≡ false
pending_unscheduled Pending e = refl
pending_unscheduled Scheduled e = cc
pending_unscheduled Transmitting e = cc

pub turn_passes : PassesPending (λ (w : Waiting). is_scheduled w.status)
turn_passes w e = pending_unscheduled w.status e

-- what is scheduled is what comes in turn
pub turn_there : (s : State) (w : Waiting) → IsAlone s w → is_scheduled w.status ≡ true → in_turn s ≡ Some w
turn_there s w a e = ap (find (λ (x : Waiting). is_scheduled x.status)) a.split.whole
    ∙ find-there (λ (x : Waiting). is_scheduled x.status) a.split.before a.split.behind w turn_passes a.before e

-- what the bus side tells of its transmission is what is on the bus
pub record IsSent (s : State) (item : Item) : Type 0 where
  pub request : Waiting
  pub on : on_bus s ≡ Some request
  pub item_is : item_of request ≡ item

pub some_item : (a b : Item) → Some a ≡ Some b → a ≡ b
some_item a b e = cc

pub no_item : {P : Type 0} (x : Item) → None ≡ Some x → P
no_item x e = cc

pub is_sent : (s : State) (item : Item) → option_map item_of (on_bus s) ≡ Some item → IsSent s item
is_sent s item e = ⊎_elim
    (λ (none : on_bus s ≡ None). no_item item (sym (ap (option_map item_of) none) ∙ e))
    (λ (t : (w : Waiting) × (on_bus s ≡ Some w)). record {
      request = t.0;
      on = t.1;
      item_is = some_item (item_of t.0) item (sym (ap (option_map item_of) t.1) ∙ e);
    })
    (some_or_none (on_bus s))

-- nothing is on the bus
pub none_sent : {P : Type 0} (s : State) (w : Waiting) → option_map item_of (on_bus s) ≡ None → on_bus s ≡ Some w → P
none_sent s w none on = no_item (item_of w) (sym none ∙ ap (option_map item_of) on)
