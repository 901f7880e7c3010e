-- What words and views show of the mailbox core is one state; and what each step makes of it: one event, which is not
-- refused, or nothing.
use Rattle.std.specs.Prelude.{◌≡◌, ◌⊎◌, ℕ, ◌+◌, ◌-◌, ◌*◌, ◌/◌, ◌<◌, Some, None, List, []}
use Rattle.std.specs.Prelude.{◌∷◌, ◌++◌, Bool, true, false, length, slice_index, slice_set}
use mathlib.Core.Option.{some}
use lib.ListN.{get_elem?}
use Rattle.atomic_table.specs.Table.{State as Table}
use Rattle.bx_core.specs.declared.entry.Entry.{Entry}
use Rattle.bx_core.specs.declared.event.Event.TheVariants.{Claim, Request, Withdraw, Schedule}
use Rattle.bx_core.specs.declared.event.Event.TheVariants.{Start, Complete, Fail, Abort, Reap}
use Rattle.bx_core.specs.States.{State}
use Rattle.bx_core.specs.TxBus.{Item}
use Rattle.bx_core.specs.Law.{Law}
use Rattle.bx_core.specs.Steps.{last_number}
use Rattle.bx_words.specs.Lanes.{lane_of, mark_of, filling, IsTransmitting, LaneSet, LaneRequested}
use Rattle.bx_words.specs.Payloads.{IsHead, ArePacked}
use Rattle.bx_shared.specs.declared.said.Said.{Said}
use Rattle.bx_shared.specs.declared.route_view.RouteView.{RouteView}
use Rattle.bx_shared.specs.declared.bus_view.BusView.{BusView}
use Rattle.bx_shared.specs.declared.view.View.{View}
use Rattle.bx_shared.specs.Shown.{Shows, Fits, FitsBus, IsKept, IsKeptAs, IsEvent}
use Rattle.bx_shared.specs.Steps.{view, looked, missed, claimed, head_stored, bytes_stored}
use Rattle.bx_shared.specs.Steps.{requested, withdrawn, aborted_at, asked_at, both_of, spent}
use Rattle.bx_shared.specs.BusSteps.{GoesNext, IsStarted, bus_looked, bus_tried}
use Rattle.bx_shared.specs.BusSteps.{head_read, bus_completed, bus_failed, bus_reaped}

abbrev pub control_of : Table Said View → ℕ
control_of t = slice_index t.words 0

-- one word becomes another, and the seat of a route then knows this
abbrev pub stepped_to : Table Said View → (place new : ℕ) → (seat : ℕ) → RouteView → Table Said View
stepped_to t place new seat p = record {
  words = slice_set t.words place new;
  homes = t.homes;
  views = slice_set t.views seat (view [] (p ∷ []));
}

-- the steps of a route's seat, each with what it asks for, from words that show this state
pub record RouteSteps (txfp : Bool) (t : Table Said View) (core : State) (seat : ℕ) (p : RouteView) : Type 0 where
  pub look : IsKeptAs txfp (stepped_to t 0 (control_of t) seat (looked p (control_of t))) core
  -- an exchange that finds another word than the one that it was to find
  pub miss : IsKeptAs txfp (stepped_to t 0 (control_of t) seat (missed p (control_of t))) core
  pub claim : (mailbox new : ℕ) → mailbox < 3 → p.route < 8 → p.claims ≡ false → lane_of (control_of t) mailbox ≡ 0 →
      LaneSet (control_of t) mailbox (filling p.route) new →
      IsEvent txfp core (Claim p.route mailbox) (stepped_to t 0 new seat (claimed p mailbox))
  pub fill_head : (word : ℕ) → p.claims ≡ true → IsHead word →
      IsKeptAs txfp (stepped_to t (1 + 2 * p.mailbox) word seat (head_stored p word)) core
  pub fill_bytes : (word : ℕ) → p.claims ≡ true → p.stored ≡ 1 →
      IsKeptAs txfp (stepped_to t (2 + 2 * p.mailbox) word seat (bytes_stored p word)) core
  pub request : (new : ℕ) (e : Entry) → p.claims ≡ true → p.stored ≡ 2 → ArePacked e.frame e.number p.head p.bytes →
      last_number p.requested < e.number →
      LaneRequested (control_of t) p.mailbox (filling p.route + 2) new →
      IsEvent txfp core (Request p.route p.mailbox e.number e.frame) (stepped_to t 0 new seat (requested p e))
  pub withdraw : (new : ℕ) → p.claims ≡ true → LaneSet (control_of t) p.mailbox 0 new →
      IsEvent txfp core (Withdraw p.route p.mailbox) (stepped_to t 0 new seat (withdrawn p))
  pub abort : (mailbox new : ℕ) → mailbox < 3 → p.route < 8 → p.claims ≡ false → (mark_of (control_of t) mailbox ≡ 3)
      ⊎ (mark_of (control_of t) mailbox ≡ 7) →
      lane_of (control_of t) mailbox / 32 ≡ p.route → LaneSet (control_of t) mailbox 0 new →
      IsEvent txfp core (Abort p.route mailbox) (stepped_to t 0 new seat (aborted_at p mailbox))
  pub ask : (mailbox new : ℕ) → mailbox < 3 → p.route < 8 → p.claims ≡ false → mark_of (control_of t) mailbox ≡ 15 →
      lane_of (control_of t) mailbox / 32 ≡ p.route →
      LaneSet (control_of t) mailbox (lane_of (control_of t) mailbox + 16) new →
      IsEvent txfp core (Abort p.route mailbox) (stepped_to t 0 new seat (asked_at p mailbox))

-- one word becomes another, and the bus's seat then knows this
abbrev pub bus_stepped_to : Table Said View → (place new : ℕ) → (seat : ℕ) → BusView → List RouteView → Table Said View
bus_stepped_to t place new seat b routes = record {
  words = slice_set t.words place new;
  homes = t.homes;
  views = slice_set t.views seat (view (b ∷ []) routes);
}

abbrev pub word_of : Table Said View → ℕ → ℕ
word_of t place = slice_index t.words place

-- the steps of the bus's seat
pub record BusSteps (txfp : Bool) (t : Table Said View) (core : State) (seat : ℕ) (b : BusView)
    (routes : List RouteView) : Type 0 where
  pub look : IsKeptAs txfp (bus_stepped_to t 0 (control_of t) seat (bus_looked b (control_of t)) routes) core
  pub miss : (new : ℕ) → IsKeptAs txfp (bus_stepped_to t 0 (control_of t) seat (bus_tried b (control_of t) new)
      routes) core
  pub read_head : (mailbox : ℕ) → mailbox < 3 →
      IsKeptAs txfp (bus_stepped_to t (1 + 2 * mailbox) (word_of t (1 + 2 * mailbox)) seat
      (head_read b mailbox (word_of t (1 + 2 * mailbox))) routes) core
  pub read_bytes : (mailbox : ℕ) → IsKeptAs txfp
      (bus_stepped_to t (2 + 2 * mailbox) (word_of t (2 + 2 * mailbox)) seat b routes) core
  pub schedule : (mailbox new : ℕ) → mailbox < 3 → b.reaps ≡ None → GoesNext b (control_of t) mailbox →
      LaneSet (control_of t) mailbox (lane_of (control_of t) mailbox + 4) new →
      IsEvent txfp core (Schedule mailbox) (bus_stepped_to t 0 new seat (bus_tried b (control_of t) new) routes)
  pub start : (mailbox new : ℕ) → mailbox < 3 → b.reaps ≡ None → mark_of (control_of t) mailbox ≡ 7 →
      LaneSet (control_of t) mailbox (lane_of (control_of t) mailbox + 8) new →
      (d : BusView) × IsStarted b d mailbox (control_of t) new
      × IsEvent txfp core (Start mailbox) (bus_stepped_to t 0 new seat d routes)
  pub complete : (new : ℕ) (item : Item) → b.sends ≡ Some item → b.reaps ≡ None →
      LaneSet (control_of t) b.mailbox 0 new →
      IsEvent txfp core (Complete b.mailbox) (bus_stepped_to t 0 new seat (bus_completed b) routes)
  pub fail : (new : ℕ) (item : Item) → b.sends ≡ Some item →
      (IsTransmitting (control_of t) b.mailbox →
      LaneSet (control_of t) b.mailbox (lane_of (control_of t) b.mailbox - 8) new) →
      IsEvent txfp core (Fail b.mailbox) (bus_stepped_to t 0 new seat (bus_failed b (control_of t)) routes)
  pub reap : (new : ℕ) (item : Item) → b.reaps ≡ Some item → LaneSet (control_of t) b.mailbox 0 new →
      IsEvent txfp core (Reap b.mailbox) (bus_stepped_to t 0 new seat (bus_reaped b) routes)

-- so it is whenever the rule holds, and to divide a seat, or to put two together, changes nothing
pub record EachStepIsAnEvent : Type 0 where
  pub route : (txfp : Bool) (t : Table Said View) (k : IsKept txfp t) (seat : ℕ) (p : RouteView) →
      get_elem? t.views seat ≡ some (view [] (p ∷ [])) → RouteSteps txfp t k.core seat p
  pub bus : (txfp : Bool) (t : Table Said View) (k : IsKept txfp t) (seat : ℕ) (b : BusView)
      (routes : List RouteView) → get_elem? t.views seat ≡ some (view (b ∷ []) routes) →
      BusSteps txfp t k.core seat b routes
  pub split : (txfp : Bool) (t : Table Said View) (k : IsKept txfp t) (seat : ℕ) (buses : List BusView)
      (p : RouteView) (ps : List RouteView) → get_elem? t.views seat ≡ some (view buses (p ∷ ps)) →
      IsKeptAs txfp (record {
        words = t.words;
        homes = t.homes;
        views = slice_set t.views seat (view buses ps)
            ++ view [] (p ∷ []) ∷ [];
      }) k.core
  pub join : (txfp : Bool) (t : Table Said View) (k : IsKept txfp t) (seat other : ℕ) (v w : View) →
      get_elem? t.views seat ≡ some v → ¬ (other ≡ seat) →
      get_elem? (slice_set t.views seat (both_of v w)) other ≡ some w →
      IsKeptAs txfp (record {
        words = t.words;
        homes = t.homes;
        views =
            slice_set (slice_set t.views seat (both_of v w)) other spent;
      }) k.core

-- the views of the nine places, the bus's and each route's, are so of this state
pub record FitsAll (words : List ℕ) (s : State) (part : ℕ → RouteView) (bus : BusView) : Type 0 where
  pub route : (r : ℕ) → r < 8 → ((part r).route ≡ r) × Fits words s (part r)
  pub bus_fits : FitsBus s bus

-- Of the states of a core with eight routes that keep the core law, the seven words and the nine views show one and no
-- other.
abbrev pub ShowsOneState : Type 0
ShowsOneState = (words : List ℕ) (part : ℕ → RouteView) (bus : BusView) (s t : State) → Law s → Law t →
    length s.routes ≡ 8 → length t.routes ≡ 8 →
    Shows words s → Shows words t → FitsAll words s part bus → FitsAll words t part bus → s ≡ t
