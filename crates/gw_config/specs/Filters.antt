-- Filters, and their banks. RM0008, bxCAN, "Filter bank scale and mode configuration": in 32-bit mask mode STID is at
-- 31:21, EXID at 20:3, IDE at 2, RTR at 1.
use Rattle.std.specs.Prelude.{ℕ, ◌+◌, ◌-◌, ◌*◌, ◌^◌, Bool, true, List, [], ◌∷◌, ◌++◌, length, replicate, codes}
use Rattle.std.specs.Prelude.{Option, Some, None, unwrap_or, Result, Ok}
use Rattle.serde_json.specs.Data.{Data}
use Rattle.can_frame.specs.Frames.{Identifier, standard, extended, number_of, is_extended_id}
use Rattle.bx_rx.specs.declared.scale.Scale.TheVariants.{Bits32}
use Rattle.bx_rx.specs.declared.mode.Mode.TheVariants.{Mask}
use Rattle.bx_rx.specs.Images.{flag}
use Rattle.bx_rx.specs.Bank.{BankValue, unlisted}
use Rattle.bx_rx.specs.Banks.{bank_count}
use Rattle.gw_config.specs.declared.version.Version.{Version}
use Rattle.gw_config.specs.declared.version.Version.TheVariants.{One, Two, Three}
use Rattle.gw_config.specs.Objects.{element_of}
use Rattle.gw_fields.specs.declared.accept.Accept.{Accept}
use Rattle.gw_fields.specs.Faults.{Fault}
use Rattle.gw_fields.specs.Fields.{◌>>=◌, text, optional_list, each}
use Rattle.gw_fields.specs.Optional.{optional_whole, maybe_truth}
use Rattle.gw_fields.specs.IdentifierTexts.{accept_text}

-- the bits of an identifier of this format at their place in a register: STID, or STID and EXID
abbrev pub register_bits : Identifier → ℕ → ℕ
register_bits (standard n) bits = bits * 2 ^ 21
register_bits (extended n) bits = bits * 2 ^ 3

-- RTR in R1: that of the frames that match, and 0 where data and remote frames match
abbrev pub rtr_of : Option Bool → ℕ
rtr_of None = 0
rtr_of (Some remote) = flag remote

-- R1: the identifier, IDE and RTR
abbrev pub identifier_register : Accept → Option Bool → ℕ
identifier_register accept remote =
    register_bits accept.id (number_of accept.id) + flag (is_extended_id accept.id) * 2 ^ 2 + rtr_of remote * 2 ^ 1

-- RTR in R2: whether it must match
abbrev pub rtr_matters : Option Bool → ℕ
rtr_matters None = 0
rtr_matters (Some remote) = 1

-- R2: the identifier bits that must match, IDE always, and RTR where `remote` is given
abbrev pub mask_register : Accept → Option Bool → ℕ
mask_register accept remote = register_bits accept.id accept.mask + 2 ^ 2 + rtr_matters remote * 2 ^ 1

-- the bank of a filter
abbrev pub filter_bank : Accept → Option Bool → ℕ → BankValue
filter_bank accept remote fifo = record {
  scale = Bits32;
  mode = Mask;
  fifo = fifo;
  active = true;
  r1 = identifier_register accept remote;
  r2 = mask_register accept remote;
}

abbrev pub filter_fields : List (List ℕ)
filter_fields = codes "accept" ∷ codes "remote" ∷ codes "fifo" ∷ []

-- an element of the list
unfoldable pub filter_of : Data → Result BankValue Fault
filter_of value = do
  from ← element_of Three (codes "filters") filter_fields value
  word ← text (codes "accept") from
  accept ← accept_text word
  remote ← maybe_truth (codes "remote") from
  fifo ← optional_whole (codes "fifo") 0 1 from
  Ok (filter_bank accept remote (unwrap_or fifo 0))

-- at most 28 of them, and none where the field is absent
unfoldable pub listed_filters : Data → Result (List BankValue) Fault
listed_filters from = do
  items ← optional_list (codes "filters") bank_count from
  each filter_of items

-- in versions 1 and 2 there are no filters
abbrev pub filters_of : Version → Data → Result (List BankValue) Fault
filters_of One from = Ok []
filters_of Two from = Ok []
filters_of Three from = listed_filters from

-- bank n is filter n, and the banks behind the filters are not set
abbrev pub filters_first : List BankValue → List BankValue
filters_first filters = filters ++ replicate (bank_count - length filters) unlisted
