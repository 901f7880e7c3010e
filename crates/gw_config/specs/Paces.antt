-- When a route makes its turns in a run in one thread.
use Rattle.std.specs.Prelude.{ℕ, codes, Option, None, unwrap_or, Result, Ok}
use Rattle.serde_json.specs.Data.{Data}
use Rattle.gw_config.specs.declared.pace.Pace.{Pace}
use Rattle.gw_config.specs.declared.version.Version.{Version}
use Rattle.gw_config.specs.declared.version.Version.TheVariants.{One, Two, Three}
use Rattle.gw_fields.specs.Faults.{Fault}
use Rattle.gw_fields.specs.Fields.{◌>>=◌}
use Rattle.gw_fields.specs.Optional.{optional_whole}
use Rattle.gw_fields.specs.Durations.{optional_duration}

-- one turn at a time, as often as the run says
abbrev pub pace_of_the_run : Pace
pace_of_the_run = record { every = None; burst = 1 }

-- `every` and `burst` of a route
unfoldable pub pace_with : Option ℕ → Data → Result Pace Fault
pace_with rate from = do
  every ← optional_duration (codes "every") 1 1000000 rate from
  burst ← optional_whole (codes "burst") 1 1000 from
  Ok (record { every = every; burst = unwrap_or burst 1 })

-- versions 1 and 2 leave it to the run
abbrev pub pace_of : Version → Option ℕ → Data → Result Pace Fault
pace_of One rate from = Ok pace_of_the_run
pace_of Two rate from = Ok pace_of_the_run
pace_of Three rate from = pace_with rate from
