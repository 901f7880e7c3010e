-- The filters of a controller, and which of them a frame is received by. RM0008, bxCAN, "Identifier
-- filtering", "Filter match index" and "Filter priority rules".
use Rattle.std.specs.Prelude.{◌≡◌, ℕ, ◌+◌, ◌<◌, ◌==◌, ◌⊎◌, true, List, length, take}
use Rattle.std.specs.Prelude.{sum_by, Option, None, Some, slice_get, if◌then◌else◌}
use Rattle.can_frame.specs.Frames.{FrameValue}
use Rattle.bx_rx.specs.Bank.{BankValue, filters_of, MatchesAt, Outranks}

-- how many banks a controller has: those of a device with two bxCAN, of which one controller may have all
abbrev pub bank_count : ℕ
bank_count = 28

-- a filter where it stands: the number of its bank, the bank, and its place in the bank
pub record Placed : Type 0 where
  pub number : ℕ
  pub bank : BankValue
  pub place : ℕ

-- the filter stands among these banks, its bank is active, and it matches the frame
pub record IsMatching (banks : List BankValue) (frame : FrameValue) (p : Placed) : Type 0 where
  pub stands : slice_get banks p.number ≡ Some p.bank
  pub active : p.bank.active ≡ true
  pub matches : MatchesAt p.bank frame p.place

-- at equal rank the lower bank comes first, and in one bank the lower place
abbrev pub Precedes : Placed → Placed → Type 0
Precedes p q =
    Outranks p.bank q.bank
    ⊎ ((p.bank.scale ≡ q.bank.scale) × (p.bank.mode ≡ q.bank.mode)
    × ((p.number < q.number) ⊎ ((p.number ≡ q.number) × (p.place < q.place))))

-- it matches, and no filter that matches comes before it
pub record IsChosen (banks : List BankValue) (frame : FrameValue) (p : Placed) : Type 0 where
  pub matching : IsMatching banks frame p
  pub first : (q : Placed) → IsMatching banks frame q → ¬ (Precedes q p)

-- the bank and the place of the best of the filters that match, among the first so many banks
abbrev pub IsBest : List BankValue → FrameValue → ℕ → Option (ℕ × ℕ) → Type 0
IsBest banks frame count None = (p : Placed) → p.number < count → ¬ (IsMatching banks frame p)
IsBest banks frame count (Some found) =
    (p : Placed) × (found ≡ (p.number, p.place)) × (p.number < count) × IsMatching banks frame p
    × ((q : Placed) → q.number < count → IsMatching banks frame q → ¬ (Precedes q p))

-- how many filters of this FIFO these banks have, active or not
abbrev pub count_of : ℕ → List BankValue → ℕ
count_of fifo banks = sum_by (λ b. if b.fifo == fifo then length (filters_of b) else 0) banks

-- the filter's number: filters are counted for each FIFO on its own, through the lower banks and then in order of place
abbrev pub filter_number : List BankValue → Placed → ℕ
filter_number banks p = count_of p.bank.fifo (take p.number banks) + p.place

-- the FIFO and the number of the chosen filter, or nothing where no filter of an active bank matches
abbrev pub IsFound : List BankValue → FrameValue → Option (ℕ × ℕ) → Type 0
IsFound banks frame None = (p : Placed) → ¬ (IsMatching banks frame p)
IsFound banks frame (Some answer) = (p : Placed) × IsChosen banks frame p
    × (answer ≡ (p.bank.fifo, filter_number banks p))

-- at most one filter is the chosen one
abbrev pub OneChosen : Type 0
OneChosen = (banks : List BankValue) (frame : FrameValue) (p q : Placed) → IsChosen banks frame p →
    IsChosen banks frame q → p ≡ q
