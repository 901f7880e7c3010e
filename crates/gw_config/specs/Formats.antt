-- Fields that are bits of the run.
use Rattle.std.specs.Prelude.{ℕ, ◌-◌, List, Result}
use Rattle.serde_json.specs.Data.{Data}
use Rattle.gw_config.specs.declared.format.Format.{Format}
use Rattle.gw_fields.specs.Faults.{Fault}
use Rattle.gw_fields.specs.Durations.{duration}

-- a bit of the run, given as a duration from the beginning of the run
abbrev pub bit_of : Format → List ℕ → Data → Result ℕ Fault
bit_of format name from = duration name 0 (format.bits - 1) format.rate from
