-- What a mailbox's state is in its lane of the control word: the low five bits, the mark, say how far its request has
-- come, and the three above say whose it is.
use Rattle.std.specs.Prelude.{◌≡◌, ℕ, ◌+◌, ◌*◌, ◌⊎◌, Option, Some, None, List}
use Rattle.std.specs.Prelude.{[], ◌∷◌, Bool, true, false, if◌then◌else◌, length}
use Rattle.bx_core.specs.declared.status.Status.{Status}
use Rattle.bx_core.specs.declared.status.Status.TheVariants.{Pending, Scheduled, Transmitting}
use Rattle.bx_core.specs.declared.waiting.Waiting.{Waiting}
use Rattle.bx_core.specs.States.{RouteLists, is_at}
use Rattle.bx_words.specs.Lanes.{filling}

-- the mark of a request, by its status and whether its abort was asked
abbrev pub mark_by : Status → Bool → ℕ
mark_by Pending asked = 3
mark_by Scheduled asked = if asked then 23 else 7
mark_by Transmitting asked = if asked then 31 else 15

-- each of them
abbrev pub IsMark : ℕ → Type 0
IsMark n = (n ≡ 3) ⊎ (n ≡ 7) ⊎ (n ≡ 15) ⊎ (n ≡ 31) ⊎ (n ≡ 23)

-- the lane of a mailbox that holds a request
abbrev pub lane_by : Waiting → ℕ
lane_by w = mark_by w.status w.abort_asked + 32 * w.route

-- what a claim adds to its mailbox's lane
abbrev pub claim_lane : Option ℕ → ℕ
claim_lane None = 0
claim_lane (Some route) = filling route

-- what the requests that wait add to a mailbox's lane
abbrev pub waiting_lane : List Waiting → ℕ → ℕ
waiting_lane [] mailbox = 0
waiting_lane (w ∷ ws) mailbox = (if is_at mailbox w then lane_by w else 0) + waiting_lane ws mailbox

-- how many requests were made
abbrev pub count_requests : List RouteLists → ℕ
count_requests [] = 0
count_requests (l ∷ ls) = length l.requested + count_requests ls

-- the bits above the order bits: by identifier (TXFP clear) the lowest of them is set, and those above it count the
-- requests
abbrev pub rest_by : Bool → ℕ → ℕ
rest_by true requests = 0
rest_by false requests = 1 + 2 * requests
