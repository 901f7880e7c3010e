-- The control word of a controller's three transmit mailboxes (RM0008, bxCAN, Transmission handling; the layout is this
-- project's). Lane m is bits 8m to 8m + 7: bit 0 claimed, 1 requested, 2 scheduled, 3 transmitting, 4 abort asked, and
-- in bits 5 to 7 the route that owns it. Bits 24 to 26 order the mailboxes in pairs. Where bit 27 is set, bits 28 to 63
-- count requests.
use Rattle.std.specs.Prelude.{◌≡◌, ℕ, ◌+◌, ◌*◌, ◌/◌, ◌%◌, ◌^◌, ◌<◌, ◌≤◌, ◌⊎◌, ◌==◌, if◌then◌else◌, nat_lt}

-- n bits of a word, from bit k on
abbrev pub field : ℕ → ℕ → ℕ → ℕ
field w k n = w / 2 ^ k % 2 ^ n

-- the eight bits of mailbox m
abbrev pub lane_of : ℕ → ℕ → ℕ
lane_of w m = field w (8 * m) 8

-- its low five bits, without the owner
abbrev pub mark_of : ℕ → ℕ → ℕ
mark_of w m = lane_of w m % 32

-- the lane of a mailbox that a route claimed and fills
abbrev pub filling : ℕ → ℕ
filling route = 1 + 32 * route

-- it holds a request: pending 3, scheduled 7, transmitting 15, and with an abort asked 23 and 31
abbrev pub IsRequested : ℕ → ℕ → Type 0
IsRequested w m = 3 ≤ mark_of w m

abbrev pub IsTransmitting : ℕ → ℕ → Type 0
IsTransmitting w m = (mark_of w m ≡ 15) ⊎ (mark_of w m ≡ 31)

-- the bit that orders two mailboxes: 24 for 0 and 1, 25 for 0 and 2, 26 for 1 and 2
abbrev pub order_bit : ℕ → ℕ → ℕ → ℕ
order_bit w i j = field w (23 + i + j) 1

-- what it is where the request in mailbox i is older than that in j: 0 says that the lower mailbox's is
abbrev pub older_bit : ℕ → ℕ → ℕ
older_bit i j = if nat_lt i j then 0 else 1

-- the request in mailbox i is older than that in mailbox j
abbrev pub IsOlder : ℕ → ℕ → ℕ → Type 0
IsOlder w i j = order_bit w i j ≡ older_bit i j

-- all bits above the order bits: whether requests are counted, and above that their count
abbrev pub rest_of : ℕ → ℕ
rest_of w = w / 2 ^ 27

-- with one request more, where they are counted
abbrev pub one_more : ℕ → ℕ
one_more rest = if rest % 2 == 1 then rest + 2 else rest

-- there is room for one request more in the count
abbrev pub HasCount : ℕ → Type 0
HasCount w = rest_of w % 2 ≡ 1 → rest_of w + 2 < 2 ^ 37

-- lane m becomes x, and nothing else changes
pub record LaneSet (old m x new : ℕ) : Type 0 where
  pub here : lane_of new m ≡ x
  pub others : (j : ℕ) → j < 3 → ¬ (j ≡ m) → lane_of new j ≡ lane_of old j
  pub order : (i j : ℕ) → i < j → j < 3 → order_bit new i j ≡ order_bit old i j
  pub rest : rest_of new ≡ rest_of old

-- lane m becomes x, and its mailbox the younger in both of its pairs; nothing else changes
pub record LaneYoungest (old m x new : ℕ) : Type 0 where
  pub here : lane_of new m ≡ x
  pub others : (j : ℕ) → j < 3 → ¬ (j ≡ m) → lane_of new j ≡ lane_of old j
  pub younger : (j : ℕ) → j < 3 → ¬ (j ≡ m) → IsOlder new j m
  pub order : (i j : ℕ) → i < j → j < 3 → ¬ (i ≡ m) → ¬ (j ≡ m) → order_bit new i j ≡ order_bit old i j
  pub rest : rest_of new ≡ rest_of old

-- one request more is counted, where requests are; lanes and order bits stay
pub record IsCounted (old new : ℕ) : Type 0 where
  pub lanes : (j : ℕ) → j < 3 → lane_of new j ≡ lane_of old j
  pub order : (i j : ℕ) → i < j → j < 3 → order_bit new i j ≡ order_bit old i j
  pub rest : rest_of new ≡ one_more (rest_of old)

-- both: the request in mailbox m is the youngest of all, and is counted
pub record LaneRequested (old m x new : ℕ) : Type 0 where
  pub here : lane_of new m ≡ x
  pub others : (j : ℕ) → j < 3 → ¬ (j ≡ m) → lane_of new j ≡ lane_of old j
  pub younger : (j : ℕ) → j < 3 → ¬ (j ≡ m) → IsOlder new j m
  pub order : (i j : ℕ) → i < j → j < 3 → ¬ (i ≡ m) → ¬ (j ≡ m) → order_bit new i j ≡ order_bit old i j
  pub rest : rest_of new ≡ one_more (rest_of old)
