-- The version of a script, which says what a script may contain.
use Rattle.std.specs.Prelude.{ℕ, ◌==◌, codes, Result, Ok, Err, if◌then◌else◌}
use Rattle.serde_json.specs.Data.{Data}
use Rattle.gw_config.specs.declared.version.Version.{Version}
use Rattle.gw_config.specs.declared.version.Version.TheVariants.{One, Two, Three}
use Rattle.gw_fields.specs.Faults.{Fault, wrong_version}
use Rattle.gw_fields.specs.Fields.{◌>>=◌, natural}

-- how many banks a script may list, and number from 0 on: those of a device with one bxCAN, or with two
abbrev pub listed_banks : Version → ℕ
listed_banks One = 14
listed_banks Two = 28
listed_banks Three = 28

-- how many nodes a segment may have
abbrev pub most_nodes : Version → ℕ
most_nodes One = 16
most_nodes Two = 16
most_nodes Three = 64

-- how many bits a run may last
abbrev pub most_bits : Version → ℕ
most_bits One = 1000000
most_bits Two = 1000000
most_bits Three = 100000000

abbrev pub version_with : ℕ → Result Version Fault
version_with number =
    if number == 1 then Ok One
    else (if number == 2 then Ok Two
    else (if number == 3 then Ok Three
    else Err wrong_version))

-- the version is 1, 2 or 3
unfoldable pub version_of : Data → Result Version Fault
version_of from = do
  number ← natural (codes "version") from
  version_with number
