-- What routes ask for by their posts.
use Rattle.std.specs.Prelude.{◌≡◌, ℕ, ◌+◌, ◌<◌, ◌≤◌, ◌==◌, List, [], ◌∷◌, ◌++◌, if◌then◌else◌}
use Rattle.bx_core.specs.declared.entry.Entry.{Entry}
use Rattle.bx_core.specs.declared.left.Left.{Left}
use Rattle.bx_core.specs.Lists.{Each, Rises}
use Rattle.bx_core.specs.States.{numbers}
use Rattle.bx_core.specs.Steps.{greatest_number, last_number}
use Rattle.bx_core.specs.TxBus.{Item}
use Rattle.bx_mail.specs.declared.posting.Posting.{Posting}
use Rattle.bx_mail.specs.declared.posting.Asks.{Asks}
use Rattle.bx_mail.specs.declared.posting.Asks.TheVariants.{Transmit, Abort}

-- a route's own posts among these, in their order
abbrev pub of : ℕ → List Posting → List Posting
of route [] = []
of route (p ∷ ps) = if p.route == route then p ∷ of route ps else of route ps

-- where a name ends in _by, it is told of the number and of what is asked

-- the request that a post makes, if it is one
abbrev pub request_by : ℕ → Asks → List Entry
request_by number (Transmit frame) = record { number = number; frame = frame } ∷ []
request_by number Abort = []

-- the requests among these posts, in their order
abbrev pub requests_in : List Posting → List Entry
requests_in [] = []
requests_in (p ∷ ps) = request_by p.number p.what ++ requests_in ps

-- the number that a post asks to end, if it is an abort
abbrev pub abort_by : ℕ → Asks → List ℕ
abort_by number (Transmit frame) = []
abort_by number Abort = number ∷ []

-- the numbers that these posts ask to end, in their order
abbrev pub aborts_in : List Posting → List ℕ
aborts_in [] = []
aborts_in (p ∷ ps) = abort_by p.number p.what ++ aborts_in ps

-- a post is a request
abbrev pub IsRequest : Asks → Type 0
IsRequest (Transmit frame) = Unit {0}
IsRequest Abort = ⊥

-- a request that waits in the post, as closing leaves it
abbrev pub left_by : ℕ → ℕ → Asks → List Left
left_by route number (Transmit frame) = record { route = route; number = number; frame = frame } ∷ []
left_by route number Abort = []

abbrev pub lefts_in : List Posting → List Left
lefts_in [] = []
lefts_in (p ∷ ps) = left_by p.route p.number p.what ++ lefts_in ps

-- the same, as route, number and frame
abbrev pub item_by : ℕ → ℕ → Asks → List Item
item_by route number (Transmit frame) = (route, number, frame) ∷ []
item_by route number Abort = []

abbrev pub items_in : List Posting → List Item
items_in [] = []
items_in (p ∷ ps) = item_by p.route p.number p.what ++ items_in ps

abbrev pub item_left : Item → Left
item_left x = record { route = x.0; number = x.1; frame = x.2 }

-- how many requests there were, where there were so many before the post
abbrev pub count_by : ℕ → Asks → ℕ
count_by count (Transmit frame) = count + 1
count_by count Abort = count

-- the newest number requested, where it was `last` before the post
abbrev pub newest_by : ℕ → ℕ → Asks → ℕ
newest_by last number (Transmit frame) = number
newest_by last number Abort = last

-- what may be posted behind these: an abort, or a request of a number above theirs and not too great
abbrev pub MayFollow : List Posting → ℕ → Asks → Type 0
MayFollow sent number (Transmit frame) = (last_number (requests_in sent) < number) × (number ≤ greatest_number)
MayFollow sent number Abort = Unit {0}

-- the requests of one route: their numbers rise, from 1 to the greatest number
pub record AreRising (es : List Entry) : Type 0 where
  pub rises : Rises (numbers es)
  pub in_range : Each (λ n. (1 ≤ n) × (n ≤ greatest_number)) (numbers es)

-- posts of so many routes: the requests of each rise
pub record AreOrderly (routes : ℕ) (ps : List Posting) : Type 0 where
  pub rising : (route : ℕ) → AreRising (requests_in (of route ps))
  pub beyond : (route : ℕ) → routes ≤ route → of route ps ≡ []
