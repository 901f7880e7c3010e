-- Which of a route's numbers are in no mailbox, by the word looked at and the number that the route last requested in
-- each mailbox: only a route claims under its own owner bits, so a requested lane that is its own holds that number.
use Rattle.std.specs.Prelude.{ℕ, zero, suc, ◌/◌, ◌==◌, Bool, nat_lt, ◌&&◌}
use Rattle.std.specs.Prelude.{◌||◌, if◌then◌else◌, List, [], ◌∷◌, slice_index}
use Rattle.bx_words.specs.Lanes.{lane_of, mark_of}

-- the mailbox's lane is the route's and requested, and the number was requested there
abbrev pub is_in : List ℕ → ℕ → ℕ → ℕ → ℕ → Bool
is_in last route word number mailbox = (lane_of word mailbox / 32 == route) && nat_lt 2 (mark_of word mailbox)
    && (slice_index last mailbox == number)

abbrev pub stays_in : List ℕ → ℕ → ℕ → ℕ → Bool
stays_in last route word number = is_in last route word number 0 || is_in last route word number 1
    || is_in last route word number 2

-- the numbers from n down to 1
abbrev pub up_to : ℕ → List ℕ
up_to zero = []
up_to (suc n) = suc n ∷ up_to n

-- those that are in no mailbox
abbrev pub ended_of : List ℕ → ℕ → ℕ → List ℕ → List ℕ
ended_of last route word [] = []
ended_of last route word (n ∷ ns) = if stays_in last route word n then ended_of last route word ns else n
    ∷ ended_of last route word ns
