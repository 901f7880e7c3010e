-- The filter banks that a script lists for a controller.
use Rattle.std.specs.Prelude.{ℕ, ◌-◌, ◌==◌, ◌||◌, nat_lt, List, [], ◌∷◌, length, slice_set, codes}
use Rattle.std.specs.Prelude.{Result, Ok, Err, if◌then◌else◌}
use Rattle.std.specs.List.{list_any}
use Rattle.std.specs.Str.{bytes_eq}
use Rattle.serde_json.specs.Data.{Data, Items}
use Rattle.bx_rx.specs.declared.scale.Scale.{Scale}
use Rattle.bx_rx.specs.declared.scale.Scale.TheVariants.{Bits16, Bits32}
use Rattle.bx_rx.specs.declared.mode.Mode.{Mode}
use Rattle.bx_rx.specs.declared.mode.Mode.TheVariants as mode
use Rattle.bx_rx.specs.Bank.{BankValue}
use Rattle.gw_config.specs.declared.version.Version.{Version}
use Rattle.gw_config.specs.declared.version.Version.TheVariants.{One, Two, Three}
use Rattle.gw_config.specs.declared.bank_list.ListedBank.{ListedBank}
use Rattle.gw_config.specs.Versions.{listed_banks}
use Rattle.gw_config.specs.Objects.{element_of}
use Rattle.gw_config.specs.Filters.{filters_of, filters_first}
use Rattle.gw_fields.specs.Faults.{Fault, out_of_range, double_name}
use Rattle.gw_fields.specs.Fields.{◌>>=◌, natural, whole, truth, text, list, optional_list, each_after}

-- 16 or 32
abbrev pub scale_with : ℕ → Result Scale Fault
scale_with bits = if bits == 16 then Ok Bits16
    else (if bits == 32 then Ok Bits32 else Err (out_of_range (codes "scale")))

unfoldable pub scale_of : Data → Result Scale Fault
scale_of from = do
  bits ← natural (codes "scale") from
  scale_with bits

-- `mask` or `list`
abbrev pub mode_with : List ℕ → Result Mode Fault
mode_with word = if bytes_eq word (codes "mask") then Ok mode.Mask
    else (if bytes_eq word (codes "list") then Ok mode.List else Err (out_of_range (codes "mode")))

unfoldable pub mode_of : Data → Result Mode Fault
mode_of from = do
  word ← text (codes "mode") from
  mode_with word

-- what is set of a bank
unfoldable pub settings_of : Data → Result BankValue Fault
settings_of from = do
  scale ← scale_of from
  mode ← mode_of from
  fifo ← whole (codes "fifo") 0 1 from
  active ← truth (codes "active") from
  r1 ← whole (codes "r1") 0 4294967295 from
  r2 ← whole (codes "r2") 0 4294967295 from
  Ok (record { scale = scale; mode = mode; fifo = fifo; active = active; r1 = r1; r2 = r2 })

-- the number of a bank, which is not that of a filter or of a bank in front of it; `filters` is the number of filters
unfoldable pub number_of : Version → ℕ → List ListedBank → Data → Result ℕ Fault
number_of version filters front from = do
  number ← whole (codes "bank") 0 (listed_banks version - 1) from
  if nat_lt number filters || list_any (λ (b : ListedBank). b.number == number) front
      then Err (double_name (codes "bank")) else Ok number

abbrev pub bank_fields : List (List ℕ)
bank_fields = codes "bank" ∷ codes "scale" ∷ codes "mode" ∷ codes "fifo" ∷ codes "active" ∷ codes "r1" ∷ codes "r2" ∷ []

-- an element of the list, behind those in front of it
unfoldable pub listed_bank : Version → ℕ → List ListedBank → Data → Result ListedBank Fault
listed_bank version filters front value = do
  from ← element_of version (codes "banks") bank_fields value
  number ← number_of version filters front from
  settings ← settings_of from
  Ok (record { number = number; settings = settings })

-- these banks after the listed ones are set
abbrev pub set_all : List BankValue → List ListedBank → List BankValue
set_all banks [] = banks
set_all banks (b ∷ bs) = set_all (slice_set banks b.number b.settings) bs

-- in version 3 the list may be absent
abbrev pub bank_items : Version → Data → Result Items Fault
bank_items One from = list (codes "banks") (listed_banks One) from
bank_items Two from = list (codes "banks") (listed_banks Two) from
bank_items Three from = optional_list (codes "banks") (listed_banks Three) from

-- All banks of a controller: bank n is filter n, then the listed banks are set. Any other bank is 16 bit, mask, FIFO 0,
-- inactive, both registers 0.
unfoldable pub banks_of : Version → Data → Result (List BankValue) Fault
banks_of version from = do
  filters ← filters_of version from
  items ← bank_items version from
  listed ← each_after (listed_bank version (length filters)) [] items
  Ok (set_all (filters_first filters) listed)
