-- A filter bank and its filters. RM0008, bxCAN, "Filter bank scale and mode configuration" and "Filter
-- match index".
use Rattle.std.specs.Prelude.{◌≡◌, ℕ, ◌/◌, ◌%◌, ◌^◌, ◌<◌, ◌⊎◌, Bool, false, List}
use Rattle.std.specs.Prelude.{[], ◌∷◌, Option, None, Some, IsSomeAnd, slice_get}
use Rattle.std.specs.Int.{bit_at}
use Rattle.can_frame.specs.Frames.{FrameValue}
use Rattle.bx_rx.specs.Images.{image32, image16}
use Rattle.bx_rx.specs.declared.scale.Scale.{Scale}
use Rattle.bx_rx.specs.declared.scale.Scale.TheVariants.{Bits32, Bits16}
use Rattle.bx_rx.specs.declared.mode.Mode.{Mode}
use Rattle.bx_rx.specs.declared.mode.Mode.TheVariants.{Mask, List as Identifiers}

-- scale (FSC), mode (FBM), FIFO assignment (FFA), activation (FACT), and the two registers
pub record BankValue : Type 0 where
  pub scale : Scale
  pub mode : Mode
  pub fifo : ℕ
  pub active : Bool
  pub r1 : ℕ
  pub r2 : ℕ

-- a bank that nobody set
abbrev pub unlisted : BankValue
unlisted = record { scale = Bits16; mode = Mask; fifo = 0; active = false; r1 = 0; r2 = 0 }

-- what one filter asks for: an identifier at the bits of a mask, or a whole identifier
pub data Filter : Type 0 where
  masked : ℕ → ℕ → Filter
  listed : ℕ → Filter

-- the halves of a register
abbrev pub low : ℕ → ℕ
low r = r % 2 ^ 16

abbrev pub high : ℕ → ℕ
high r = r / 2 ^ 16

-- the filters of a bank, in the order of their places
abbrev pub filters : Scale → Mode → ℕ → ℕ → List Filter
filters Bits32 Mask r1 r2 = masked r1 r2 ∷ []
filters Bits32 Identifiers r1 r2 = listed r1 ∷ listed r2 ∷ []
filters Bits16 Mask r1 r2 = masked (low r1) (high r1) ∷ masked (low r2) (high r2) ∷ []
filters Bits16 Identifiers r1 r2 = listed (low r1) ∷ listed (high r1) ∷ listed (low r2) ∷ listed (high r2) ∷ []

abbrev pub filters_of : BankValue → List Filter
filters_of b = filters b.scale b.mode b.r1 b.r2

-- which of the two images a bank compares
abbrev pub at_scale : Scale → ℕ → ℕ → ℕ
at_scale Bits32 wide narrow = wide
at_scale Bits16 wide narrow = narrow

-- the image has the identifier's bit wherever the mask is 1, or is the identifier
abbrev pub Admits : Filter → ℕ → Type 0
Admits (masked identifier mask) image = (bit : ℕ) → bit_at mask bit ≡ 1 → bit_at image bit ≡ bit_at identifier bit
Admits (listed identifier) image = image ≡ identifier

-- the filter at this place admits the image
abbrev pub AdmitsAt : List Filter → ℕ → ℕ → Type 0
AdmitsAt fs image place = IsSomeAnd (slice_get fs place) (λ filter. Admits filter image)

-- the lowest place of a filter that admits the image, or none
abbrev pub IsFirstAmong : List Filter → ℕ → Option ℕ → Type 0
IsFirstAmong fs image None = (place : ℕ) → ¬ (AdmitsAt fs image place)
IsFirstAmong fs image (Some place) = AdmitsAt fs image place
    × ((lower : ℕ) → lower < place → ¬ (AdmitsAt fs image lower))

-- the filter at this place of the bank matches the frame
abbrev pub MatchesAt : BankValue → FrameValue → ℕ → Type 0
MatchesAt b f place = AdmitsAt (filters_of b) (at_scale b.scale (image32 f) (image16 f)) place

-- the lowest place of the bank that matches the frame, or none
abbrev pub IsFirstMatch : BankValue → FrameValue → Option ℕ → Type 0
IsFirstMatch b f o = IsFirstAmong (filters_of b) (at_scale b.scale (image32 f) (image16 f)) o

-- "Filter priority rules": 32 bits come before 16, and at one scale a list before a mask
abbrev pub Outranks : BankValue → BankValue → Type 0
Outranks a b = ((a.scale ≡ Bits32) × (b.scale ≡ Bits16))
    ⊎ ((a.scale ≡ b.scale) × (a.mode ≡ Identifiers) × (b.mode ≡ Mask))
