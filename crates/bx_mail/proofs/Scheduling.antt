-- The bus side schedules what it has: what an event of the mailbox core does.
use Rattle.std.proofs.Common.{◌≡◌, suc, ◌<◌, Bool, true, false, cond, List, [], ◌∷◌, length, set, refl, sym, ap, ◌∙◌}
use Rattle.std.proofs.Common.{subst, Some, None, Ok, eq-eqb}
use Rattle.std.specs.Prelude.{option_map}
use Rattle.std.specs.List.{remove, find}
use Rattle.bx_core.specs.declared.plain_mail.PlainMail.{PlainMail}
use Rattle.bx_core.specs.declared.waiting.Waiting.{Waiting}
use Rattle.bx_core.specs.declared.status.Status.{Status}
use Rattle.bx_core.specs.declared.status.Status.TheVariants.{Pending, Scheduled}
use Rattle.bx_core.specs.declared.event.Event.TheVariants.{Schedule}
use Rattle.bx_core.specs.Lists.{Each}
use Rattle.bx_core.specs.States.{State, at_mailbox, place_of, is_pending, is_transmitting}
use Rattle.bx_core.specs.Priority.{next, next_by, is_next_by}
use Rattle.bx_core.specs.Steps.{with_waiting, scheduled}
use Rattle.bx_core.specs.Law.{Law, IsInPlace, IsUntouched, RestUntouched, left_by}
use Rattle.bx_core.specs.TxBus.{BusPast}
use Rattle.bx_core.specs.PlainMail.{item_of, sending, readied, readied_from}
use Rattle.bx_core.specs.Stands.{BusStands, BusKeeps as CoreKeeps}
use Rattle.bx_core.proofs.Found.{at_of, goes-schedule, stays-schedule}
use Rattle.bx_core.proofs.Reaches.{keeps-after}
use Rattle.bx_core.proofs.BusSide.{readies-bus, readies-keeps}
use Rattle.bx_core.proofs.Sending.{pending_idle}
use Rattle.bx_mail.specs.Boxes.{on_bus_now, scheduled_first}
use Rattle.bx_mail.specs.Sides.{BusSide, Runs}

-- a core as that of a mail for one thread, of which the events' laws are told
abbrev pub mail : State → PlainMail
mail s = record { core = s; short = false }

-- the oldest request stands first

pub at_first : (s : State) (w : Waiting) (ws : List Waiting) → s.queue ≡ w ∷ ws → at_mailbox w.mailbox s.queue ≡ Some w
at_first s w ws e =
    ap (at_mailbox w.mailbox) e ∙ ap (λ b. cond b (Some w) (at_mailbox w.mailbox ws)) (eq-eqb w.mailbox w.mailbox refl)

pub place_first : (s : State) (w : Waiting) (ws : List Waiting) → s.queue ≡ w ∷ ws → at_of s w ≡ 0
place_first s w ws e =
    ap (place_of w.mailbox) e ∙ ap (λ b. cond b 0 (suc (place_of w.mailbox ws))) (eq-eqb w.mailbox w.mailbox refl)

pub set_first : (s : State) (w x : Waiting) (ws : List Waiting) → s.queue ≡ w ∷ ws → set s.queue (at_of s w) x ≡ x ∷ ws
set_first s w x ws e = ap (λ i. set s.queue i x) (place_first s w ws e) ∙ ap (λ q. set q 0 x) e

pub remove_first : (s : State) (w : Waiting) (ws : List Waiting) → s.queue ≡ w ∷ ws → remove s.queue (at_of s w) ≡ ws
remove_first s w ws e = ap (λ i. remove s.queue i) (place_first s w ws e) ∙ ap (λ q. remove q 0) e

pub box_first : (s : State) (w : Waiting) (ws : List Waiting) → Law s → s.queue ≡ w ∷ ws → w.mailbox < 3
box_first s w ws l e = (subst (Each (IsInPlace (length s.routes))) e l.in_place).0.mailbox

pub rest_first : (s : State) (w : Waiting) (ws : List Waiting) → Law s → s.txfp ≡ true → s.queue ≡ w ∷ ws →
    Each IsUntouched ws
rest_first s w ws l o e = subst RestUntouched e (l.first o)

-- among requests that were not touched none is scheduled or transmitting
pub none_found : (is : Status → Bool) → is Pending ≡ false → (ws : List Waiting) → Each IsUntouched ws →
    find (λ (w : Waiting). is w.status) ws ≡ None
none_found is clear [] h = refl
none_found is clear (w ∷ ws) h = ap (λ b. cond b (Some w) (find (λ (y : Waiting). is y.status) ws))
    (ap is h.0.pending ∙ clear) ∙ none_found is clear ws h.1

-- what is on the bus is the oldest
head_sends : (w : Waiting) (ws : List Waiting) → Each IsUntouched ws →
    option_map item_of (find (λ (y : Waiting). is_transmitting y.status) (w ∷ ws)) ≡ on_bus_now (w ∷ ws)
head_sends w ws h = by_test (is_transmitting w.status)
  where
    by_test : (b : Bool) → option_map item_of (cond b (Some w) (find (λ (y : Waiting). is_transmitting y.status) ws))
        ≡ cond b (Some (item_of w)) None
    by_test true = refl
    by_test false = ap (option_map item_of) (none_found is_transmitting refl ws h)

pub sends_now : (s : State) (q : List Waiting) → Law s → s.txfp ≡ true → s.queue ≡ q → sending s ≡ on_bus_now q
sends_now s [] l o e = ap (λ ws. option_map item_of (find (λ (y : Waiting). is_transmitting y.status) ws)) e
sends_now s (w ∷ ws) l o e = ap (λ ws. option_map item_of (find (λ (y : Waiting). is_transmitting y.status) ws)) e
    ∙ head_sends w ws (rest_first s w ws l o e)

pub runs-sends : (v : BusSide) (past : BusPast) (h : Runs v past) → sending h.core ≡ on_bus_now v.boxes
runs-sends v past h = sends_now h.core v.boxes h.law h.order h.boxes

-- the bus side after an event of its core
pub runs_on : (v : BusSide) (past after_it : BusPast) (q : List Waiting) (h : Runs v past) (t : State) → Law t →
    t.claims ≡ h.core.claims → t.queue ≡ q → CoreKeeps (mail h.core) (mail t) → BusStands t after_it →
    Runs (record v { boxes = q }) after_it
runs_on v past after_it q h t l claims queue k bus = record {
  core = t;
  law = l;
  order = k.priority ∙ h.order;
  free = claims ∙ h.free;
  routes = k.routes ∙ h.routes;
  boxes = queue;
  bus = bus;
  asks = h.asks;
  stands = λ r. k.stand r (h.asks r) (h.stands r);
  asked = h.asked;
  aborted = h.aborted;
  requested = h.requested;
  orderly = h.orderly;
  aside = h.aside;
}

-- an event of the core by which the boxes become these
pub record Becomes (s : State) (q : List Waiting) (t : State) : Type 0 where
  pub law : Law t
  pub claims : t.claims ≡ s.claims
  pub queue : t.queue ≡ q

-- schedule

abbrev Readies : State → List Waiting → Type 0
Readies s q = (t : State) × (t ≡ readied s) × Becomes s q t

readies-core : (s : State) (q : List Waiting) → Law s → s.txfp ≡ true → s.queue ≡ q → Readies s (scheduled_first q)
readies-core s [] l o e = (
  s,
  sym (ap (readied_from s) (ap (λ b. next_by b s.queue) o ∙ ap (λ (ws : List Waiting). next_by true ws) e)),
  record { law = l; claims = refl; queue = e },
)
readies-core s (w ∷ ws) l o e =
    let at = at_first s w ws e in
    let first : next s ≡ Some w = ap (λ b. next_by b s.queue) o ∙ ap (λ (q : List Waiting). next_by true q) e in
    let is : readied s ≡ left_by s (scheduled s w.mailbox) = ap (readied_from s) first in
    by_test at is (is_pending w.status) refl
  where
    by_test : at_mailbox w.mailbox s.queue ≡ Some w → readied s ≡ left_by s (scheduled s w.mailbox) → (b : Bool) →
        is_pending w.status ≡ b → Readies s (cond b (record w { status = Scheduled }) w ∷ ws)
    by_test at is true pending =
        let t : State = with_waiting s (at_of s w) (record w { status = Scheduled }) in
        let turn : is_next_by s.txfp (at_of s w) w s.queue ≡ true =
        ap (λ b. is_next_by b (at_of s w) w s.queue) o ∙ eq-eqb (at_of s w) 0 (place_first s w ws e) in
        let goes : scheduled s w.mailbox ≡ Ok t = goes-schedule s w at pending turn in (
          t,
          sym (is ∙ ap (left_by s) goes),
          record {
            law = (keeps-after s t (Schedule w.mailbox) (box_first s w ws l e) goes l).0;
            claims = refl;
            queue = set_first s w (record w { status = Scheduled }) ws e;
          },
        )
    by_test at is false pending =
        (s, sym (is ∙ ap (left_by s) (stays-schedule s w at pending)), record { law = l; claims = refl; queue = e })

pub schedules-run : (v : BusSide) (past : BusPast) → Runs v past →
    Runs (record v { boxes = scheduled_first v.boxes }) past
schedules-run v past h =
    let c = readies-core h.core v.boxes h.law h.order h.boxes in
    runs_on v past past (scheduled_first v.boxes) h c.0 c.2.law c.2.claims c.2.queue
    (readies-keeps (mail h.core) (mail c.0) h.law c.1 refl) (readies-bus h.core c.0 past h.law c.1 h.bus)

pub schedules-sends : (q : List Waiting) → on_bus_now (scheduled_first q) ≡ on_bus_now q
schedules-sends [] = refl
schedules-sends (w ∷ ws) = by_test (is_pending w.status) refl
  where
    by_test : (b : Bool) → is_pending w.status ≡ b → on_bus_now (cond b (record w { status = Scheduled }) w ∷ ws)
        ≡ on_bus_now (w ∷ ws)
    by_test true pending = sym (ap (λ c. cond c (Some (item_of w)) None) (pending_idle w.status pending))
    by_test false pending = refl
