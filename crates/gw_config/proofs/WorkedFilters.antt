-- Worked values of filters and banks, by computing.
use Rattle.std.proofs.Common.{◌≡◌, refl, ℕ, ◌∷◌, ◌++◌, codes, Some, Ok, Err, true, replicate}
use Rattle.bx_rx.specs.declared.scale.Scale.TheVariants.{Bits32}
use Rattle.bx_rx.specs.declared.mode.Mode.TheVariants.{Mask}
use Rattle.bx_rx.specs.Bank.{BankValue, unlisted}
use Rattle.gw_fields.specs.Faults.{missing, out_of_range, double_name, unknown_field}
use Rattle.gw_config.specs.declared.version.Version.TheVariants.{Two, Three}
use Rattle.gw_config.specs.Filters.{filter_of}
use Rattle.gw_config.specs.BankLists.{banks_of}
use Rattle.gw_config.proofs.OnLiterals.{read_as, on_literals}

-- a bank of one filter of 32 bits with a mask
abbrev pub mask_bank : ℕ → ℕ → ℕ → BankValue
mask_bank fifo r1 r2 = record { scale = Bits32; mode = Mask; fifo = fifo; active = true; r1 = r1; r2 = r2 }

standard_filter : read_as filter_of (codes "{\"accept\":\"0C0\"}") ≡ Some (Ok (mask_bank 0 0x1800_0000 0xFFE0_0004))
unfolding on_literals
standard_filter = refl

data_frames_alone : read_as filter_of (codes "{\"accept\":\"0C0\",\"remote\":false}")
    ≡ Some (Ok (mask_bank 0 0x1800_0000 0xFFE0_0006))
unfolding on_literals
data_frames_alone = refl

remote_frames_alone : read_as filter_of (codes "{\"accept\":\"0C0\",\"remote\":true,\"fifo\":1}")
    ≡ Some (Ok (mask_bank 1 0x1800_0002 0xFFE0_0006))
unfolding on_literals
remote_frames_alone = refl

masked_filter : read_as filter_of (codes "{\"accept\":\"120:7F0\"}") ≡ Some (Ok (mask_bank 0 0x2400_0000 0xFE00_0004))
unfolding on_literals
masked_filter = refl

extended_filter : read_as filter_of (codes "{\"accept\":\"18FEF100\",\"fifo\":1}")
    ≡ Some (Ok (mask_bank 1 0xC7F7_8804 0xFFFF_FFFC))
unfolding on_literals
extended_filter = refl

extended_masked : read_as filter_of (codes "{\"accept\":\"18FEF100:1FFFFF00\",\"remote\":true}")
    ≡ Some (Ok (mask_bank 0 0xC7F7_8806 0xFFFF_F806))
unfolding on_literals
extended_masked = refl

filter_with_a_bank : read_as filter_of (codes "{\"accept\":\"0C0\",\"bank\":0}")
    ≡ Some (Err (unknown_field (codes "filters")))
unfolding on_literals
filter_with_a_bank = refl

filter_of_nothing : read_as filter_of (codes "{\"fifo\":0}") ≡ Some (Err (missing (codes "accept")))
unfolding on_literals
filter_of_nothing = refl

third_fifo : read_as filter_of (codes "{\"accept\":\"0C0\",\"fifo\":2}") ≡ Some (Err (out_of_range (codes "fifo")))
unfolding on_literals
third_fifo = refl

-- banks

behind_the_filters : read_as (banks_of Three)
    (codes "{\"filters\":[{\"accept\":\"0C0\"}],\"banks\":[{\"bank\":1,\"scale\":32,"
    ++ codes "\"mode\":\"mask\",\"fifo\":0,\"active\":true,\"r1\":1,\"r2\":2}]}")
    ≡ Some (Ok (mask_bank 0 0x1800_0000 0xFFE0_0004 ∷ mask_bank 0 1 2 ∷ replicate 26 unlisted))
unfolding on_literals
behind_the_filters = refl

bank_before_the_last : read_as (banks_of Three)
    (codes "{\"filters\":[{\"accept\":\"0C0\"}],\"banks\":[{\"bank\":2,\"scale\":32,"
    ++ codes "\"mode\":\"mask\",\"fifo\":0,\"active\":true,\"r1\":1,\"r2\":2}]}")
    ≡ Some (Ok (mask_bank 0 0x1800_0000 0xFFE0_0004 ∷ unlisted ∷ mask_bank 0 1 2 ∷ replicate 25 unlisted))
unfolding on_literals
bank_before_the_last = refl

taken_by_a_filter : read_as (banks_of Three)
    (codes "{\"filters\":[{\"accept\":\"0C0\"}],\"banks\":[{\"bank\":0,\"scale\":32,"
    ++ codes "\"mode\":\"mask\",\"fifo\":0,\"active\":true,\"r1\":1,\"r2\":2}]}")
    ≡ Some (Err (double_name (codes "bank")))
unfolding on_literals
taken_by_a_filter = refl

neither_filters_nor_banks : read_as (banks_of Three) (codes "{}") ≡ Some (Ok (replicate 28 unlisted))
unfolding on_literals
neither_filters_nor_banks = refl

banks_in_version_two : read_as (banks_of Two) (codes "{\"filters\":7}") ≡ Some (Err (missing (codes "banks")))
unfolding on_literals
banks_in_version_two = refl
