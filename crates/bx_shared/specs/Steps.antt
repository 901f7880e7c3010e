-- What each atomic step tells the seat that makes it, and what a seat then knows.
use Rattle.std.specs.Prelude.{◌≡◌, ℕ, ◌+◌, ◌^◌, ◌<◌, ◌≤◌, None, List, [], ◌∷◌}
use Rattle.std.specs.Prelude.{◌++◌, Bool, true, false, length, slice_index, slice_set}
use mathlib.Core.Option.{Option as Maybe, none, some}
use Rattle.atomic_table.specs.Table.{Me, Step}
use Rattle.can_frame.specs.Frames.{standard, data_bytes}
use Rattle.bx_core.specs.declared.entry.Entry.{Entry}
use Rattle.bx_core.specs.Steps.{last_number, greatest_number}
use Rattle.bx_words.specs.Lanes.{lane_of, mark_of, filling, IsRequested, HasCount}
use Rattle.bx_shared.specs.declared.said.Said.{Said}
use Rattle.bx_shared.specs.declared.said.Said.TheVariants.{Mailbox, Request}
use Rattle.bx_shared.specs.declared.route_view.RouteView.{RouteView}
use Rattle.bx_shared.specs.declared.bus_view.BusView.{BusView}
use Rattle.bx_shared.specs.declared.view.View.{View}
use Rattle.bx_shared.specs.Marks.{IsMark}
use Rattle.bx_shared.specs.Ended.{ended_of, up_to}

-- these places, in mailboxes that are not sealed
abbrev pub view : List BusView → List RouteView → View
view buses routes = record { buses = buses; routes = routes; sealed = None }

-- the seat of a route
abbrev pub seat_of : RouteView → Me Said View
seat_of p = (view [] (p ∷ []), [])

-- what a route's seat knows as it begins
abbrev pub opening : ℕ → RouteView
opening route = record {
  route = route;
  requested = [];
  aborted = [];
  asked = [];
  ended = [];
  claims = false;
  mailbox = 0;
  stored = 0;
  head = 0;
  bytes = 0;
  last = 0 ∷ 0 ∷ 0 ∷ [];
  looks = 0;
  before = 0;
  seen = 0;
  found = 0;
}

-- what the bus's seat knows as it begins
abbrev pub opening_bus : Bool → BusView
opening_bus txfp = record {
  txfp = txfp;
  started = [];
  done = [];
  reaped = [];
  sends = None;
  reaps = None;
  mailbox = 0;
  looks = 0;
  exchanges = 0;
  seen = 0;
  found = 0;
  written = 0;
  heads = None ∷ None ∷ None ∷ [];
}

-- the seat that has all places at first
abbrev pub first_view : Bool → View
first_view txfp = view (opening_bus txfp ∷ [])
    (opening 0 ∷ opening 1 ∷ opening 2 ∷ opening 3 ∷ opening 4 ∷ opening 5 ∷ opening 6 ∷ opening 7 ∷ [])

-- the words as they begin: all mailboxes are empty, and where the priority is by identifier bit 27 says that requests
-- are counted
abbrev pub first_word : Bool → ℕ
first_word true = 0
first_word false = 2 ^ 27

abbrev pub first_words : Bool → List ℕ
first_words txfp = first_word txfp ∷ 0 ∷ 0 ∷ 0 ∷ 0 ∷ 0 ∷ 0 ∷ []

-- the place of a route's seat
abbrev pub first_of : List RouteView → RouteView
first_of [] = opening 0
first_of (p ∷ ps) = p

abbrev pub part_of : Me Said View → RouteView
part_of me = first_of me.0.routes

-- the bus's seat, with the places of routes that no other seat has
abbrev pub bus_seat : BusView → List RouteView → Me Said View
bus_seat b routes = (view (b ∷ []) routes, [])

abbrev pub bus_first : List BusView → BusView
bus_first [] = opening_bus true
bus_first (b ∷ bs) = b

abbrev pub bus_of : Me Said View → BusView
bus_of me = bus_first me.0.buses

-- the mailbox, and the request, that a step is about
abbrev pub mailbox_said : Maybe Said → ℕ
mailbox_said none = 0
mailbox_said (some (Mailbox mailbox)) = mailbox
mailbox_said (some (Request entry)) = 0

abbrev pub no_entry : Entry
no_entry = record { number = 0; frame = record { id = standard 0; content = data_bytes [] } }

abbrev pub entry_said : Maybe Said → Entry
entry_said none = no_entry
entry_said (some (Mailbox mailbox)) = no_entry
entry_said (some (Request entry)) = entry

-- What a look at this word leaves known: it is one look more, and the numbers that are in no mailbox are those that it
-- shows so.
abbrev pub looked : RouteView → ℕ → RouteView
looked p word = record p {
  looks = p.looks + 1;
  before = p.seen;
  seen = word;
  ended = ended_of p.last p.route word (up_to (last_number p.requested));
}

-- an exchange that found this word, and not the one that it was to find
abbrev pub missed : RouteView → ℕ → RouteView
missed p word = record p { found = word }

-- it fills this mailbox
abbrev pub claimed : RouteView → ℕ → RouteView
claimed p mailbox = record p { claims = true; mailbox = mailbox; stored = 0 }

abbrev pub head_stored : RouteView → ℕ → RouteView
head_stored p word = record p { stored = 1; head = word }

abbrev pub bytes_stored : RouteView → ℕ → RouteView
bytes_stored p word = record p { stored = 2; bytes = word }

-- what it filled the mailbox with is requested
abbrev pub requested : RouteView → Entry → RouteView
requested p entry = record p {
  requested = p.requested ++ entry ∷ [];
  claims = false;
  last = slice_set p.last p.mailbox entry.number;
}

-- its claim is given back
abbrev pub withdrawn : RouteView → RouteView
withdrawn p = record p { claims = false }

-- the number that it put into this mailbox is aborted, or is asked to end
abbrev pub aborted_at : RouteView → ℕ → RouteView
aborted_at p mailbox = record p { aborted = p.aborted ++ slice_index p.last mailbox ∷ [] }

abbrev pub asked_at : RouteView → ℕ → RouteView
asked_at p mailbox = record p { asked = p.asked ++ slice_index p.last mailbox ∷ [] }

-- What a word tells a route's seat: the lanes that fill under its route are those of its claim, a requested lane has
-- one of the five marks, there is room for one request more in the count, and at most as many requests were aborted as
-- there are numbers.
pub record IsOwn (p : RouteView) (word : ℕ) : Type 0 where
  pub own : p.claims ≡ true → lane_of word p.mailbox ≡ filling p.route
  pub only : (mailbox : ℕ) → mailbox < 3 → lane_of word mailbox ≡ filling p.route → (p.claims ≡ true)
      × (p.mailbox ≡ mailbox)
  pub marks : (mailbox : ℕ) → mailbox < 3 → IsRequested word mailbox → IsMark (mark_of word mailbox)
  pub count : HasCount word
  pub few : length p.aborted ≤ greatest_number

-- what a step tells: of its words, of the seat before, of the word that it found, and of the seat after
abbrev pub Tells : Type 1
Tells = Step Said → Me Said View → ℕ → Me Said View → Type 0

abbrev pub Looks : Tells
Looks st me found next = (next ≡ seat_of (looked (part_of me) found)) × IsOwn (part_of me) found

-- an exchange: where it found the word that it was to find this is known, else only the word found is new
abbrev pub Tries : RouteView → Tells
Tries won st me found next = (found ≡ st.first → next ≡ seat_of won)
    × (¬ (found ≡ st.first) → (next ≡ seat_of (missed (part_of me) found)) × IsOwn (part_of me) found)

abbrev pub Claims : Tells
Claims st me found next = Tries (claimed (part_of me) (mailbox_said st.said)) st me found next

abbrev pub StoresHead : Tells
StoresHead st me found next = next ≡ seat_of (head_stored (part_of me) st.first)

abbrev pub StoresBytes : Tells
StoresBytes st me found next = next ≡ seat_of (bytes_stored (part_of me) st.first)

abbrev pub Requests : Tells
Requests st me found next = Tries (requested (part_of me) (entry_said st.said)) st me found next

abbrev pub Withdraws : Tells
Withdraws st me found next = next ≡ seat_of (withdrawn (part_of me))

-- an abort of what is not transmitting, and of what is
abbrev pub Aborts : Tells
Aborts st me found next = Tries (aborted_at (part_of me) (mailbox_said st.said)) st me found next

abbrev pub Asks : Tells
Asks st me found next = Tries (asked_at (part_of me) (mailbox_said st.said)) st me found next

-- the first of a seat's routes is cut off
abbrev pub rest_routes : List RouteView → List RouteView
rest_routes [] = []
rest_routes (p ∷ ps) = ps

abbrev pub first_route : List RouteView → List RouteView
first_route [] = []
first_route (p ∷ ps) = p ∷ []

abbrev pub left_of : View → View
left_of v = view v.buses (rest_routes v.routes)

abbrev pub right_of : View → View
right_of v = view [] (first_route v.routes)

-- the places of two seats together, and those of the seat that gave its own
abbrev pub both_of : View → View → View
both_of v w = view (v.buses ++ w.buses) (v.routes ++ w.routes)

abbrev pub spent : View
spent = view [] []
