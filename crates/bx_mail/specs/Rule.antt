-- The rule of a post's queue: of each route, what it posted is what the bus side took of it and then what the queue
-- holds of it. Each route's side alone posts for it, and it has the list of that; the bus side alone takes, and it has
-- the list of that.
use Rattle.std.specs.Prelude.{◌≡◌, ℕ, ◌<◌, ◌≤◌, true, false, Option, Some, None, List, [], ◌∷◌, ◌++◌, length}
use Rattle.std.specs.List.{slice_index_or}
use mathlib.Core.Option.{some}
use lib.ListN.{get_elem?}
use Rattle.bx_mail.specs.declared.log.Log.{Log}
use Rattle.bx_mail.specs.declared.posting.Posting.{Posting}
use Rattle.bx_mail.specs.Postings.{of, requests_in, AreRising, AreOrderly}

-- the side of the bus, of a route, and a side that may do nothing
abbrev pub bus_log : List Posting → ℕ → List (List Posting) → Log
bus_log got made known = record {
  sends = false;
  from = 0;
  sent = [];
  gets = true;
  got = got;
  made = made;
  known = known;
}

abbrev pub route_log : ℕ → List Posting → Log
route_log from sent = record { sends = true; from = from; sent = sent; gets = false; got = []; made = 0; known = [] }

abbrev pub idle_log : Log
idle_log = record { sends = false; from = 0; sent = []; gets = false; got = []; made = 0; known = [] }

-- which side posts for a route, where one does; what each route posted; and what the bus side took
pub record Ledger : Type 0 where
  pub reader : ℕ
  pub seat : ℕ → Option ℕ
  pub sent : ℕ → List Posting
  pub got : List Posting
  pub made : ℕ

-- a route's side knows what was posted for the route
pub record KnowsSent (l : Ledger) (side : ℕ) (v : Log) : Type 0 where
  pub seat : l.seat v.from ≡ Some side
  pub sent : v.sent ≡ l.sent v.from
  pub there : v.from < l.made

-- the bus side knows what was taken, that later routes have no side, and what those routes posted whose sides it took
-- in
pub record KnowsGot (l : Ledger) (side : ℕ) (v : Log) : Type 0 where
  pub reader : side ≡ l.reader
  pub got : v.got ≡ l.got
  pub made : v.made ≡ l.made
  pub unmade : (route : ℕ) → l.made ≤ route → l.seat route ≡ None
  pub ended : (route : ℕ) → route < length v.known → (l.seat route ≡ None)
      × (slice_index_or v.known route [] ≡ l.sent route)

abbrev pub Knows : Ledger → ℕ → Log → Type 0
Knows l side v = (v.sends ≡ true → KnowsSent l side v) × (v.gets ≡ true → KnowsGot l side v)

-- what holds of the posts of a ledger, where the queue holds these
pub record Balances (l : Ledger) (items : List Posting) : Type 0 where
  pub whole : (route : ℕ) → of route (l.got ++ items) ≡ l.sent route
  pub rising : (route : ℕ) → AreRising (requests_in (l.sent route))
  pub beyond : (route : ℕ) → l.made ≤ route → l.sent route ≡ []
  pub few : length items ≤ 8

abbrev pub Delivers : List Posting → List Log → Type 0
Delivers items views = (l : Ledger) × Balances l items
    × ((side : ℕ) (v : Log) → get_elem? views side ≡ some v → Knows l side v)

-- the bus side took a post: it stands behind those taken before
abbrev pub Taken : Log → Posting → Log → Type 0
Taken v x w = (w ≡ bus_log (v.got ++ x ∷ []) v.made v.known) × AreOrderly v.made (v.got ++ x ∷ [])

-- what a route's side learns: the queue holds the last of what was posted for the route
abbrev pub SentFact : Log → List Posting → Type 0
SentFact v items = (got : List Posting) × (v.sent ≡ of v.from (got ++ items))

-- what the bus side learns: all posts are orderly, of the routes whose sides it took in they are all that these posted,
-- and few are in the queue
pub record TotalFact (v : Log) (items : List Posting) : Type 0 where
  pub orderly : AreOrderly v.made (v.got ++ items)
  pub ended : (route : ℕ) → route < length v.known → of route (v.got ++ items) ≡ slice_index_or v.known route []
  pub few : length items ≤ 8
