-- A script: segments with talkers, controllers with filter banks, routes between them, and planned faults and aborts.
use Rattle.std.specs.Prelude.{ℕ, List, [], ◌∷◌, codes, Option, None, Result, Ok}
use Rattle.serde_json.specs.Data.{Data}
use Rattle.gw_config.specs.declared.planned_fault.PlannedFault.{PlannedFault}
use Rattle.gw_config.specs.declared.planned_abort.PlannedAbort.{PlannedAbort}
use Rattle.gw_config.specs.declared.version.Version.{Version}
use Rattle.gw_config.specs.declared.version.Version.TheVariants.{One, Two, Three}
use Rattle.gw_config.specs.declared.format.Format.{Format}
use Rattle.gw_config.specs.Versions.{version_of, most_bits}
use Rattle.gw_config.specs.Objects.{known}
use Rattle.gw_fields.specs.Faults.{Fault}
use Rattle.gw_fields.specs.Fields.{◌>>=◌, object_of}
use Rattle.gw_fields.specs.Optional.{optional_whole}
use Rattle.gw_fields.specs.Durations.{duration}
use Rattle.gw_config.specs.Segments.{SegmentValue, segments_of}
use Rattle.gw_config.specs.Controllers.{ControllerValue, controllers_of}
use Rattle.gw_config.specs.Routes.{RouteValue, routes_of}
use Rattle.gw_config.specs.PlannedFaults.{planned_faults_of}
use Rattle.gw_config.specs.PlannedAborts.{planned_aborts_of}

-- `rate` is its bit rate in bits a second, where it has one; `bits` is the number of bits that its run lasts
pub record ScriptValue : Type 0 where
  pub rate : Option ℕ
  pub bits : ℕ
  pub segments : List SegmentValue
  pub controllers : List ControllerValue
  pub routes : List RouteValue
  pub faults : List PlannedFault
  pub aborts : List PlannedAbort

-- the lists of a script
unfoldable pub lists_of : Format → Data → Result ScriptValue Fault
lists_of format from = do
  segments ← segments_of format from
  controllers ← controllers_of format segments from
  routes ← routes_of format controllers from
  faults ← planned_faults_of format segments controllers from
  aborts ← planned_aborts_of format.version routes from
  Ok (record {
    rate = format.rate;
    bits = format.bits;
    segments = segments;
    controllers = controllers;
    routes = routes;
    faults = faults;
    aborts = aborts;
  })

-- versions 1 and 2 have no bit rate
abbrev pub rate_of : Version → Data → Result (Option ℕ) Fault
rate_of One from = Ok None
rate_of Two from = Ok None
rate_of Three from = optional_whole (codes "bitrate") 1000 1000000 from

abbrev pub script_fields : List (List ℕ)
script_fields =
    codes "$schema" ∷ codes "version" ∷ codes "bitrate" ∷ codes "bits" ∷ codes "segments" ∷ codes "controllers"
    ∷ codes "routes" ∷ codes "faults" ∷ codes "aborts" ∷ []

unfoldable pub known_script : Version → Data → Result (Unit {0}) Fault
known_script version from = known version (codes "script") script_fields from

-- what the lists of a script are read by: `version`, then no unknown fields, then `bitrate` and `bits`
unfoldable pub format_of : Data → Result Format Fault
format_of from = do
  version ← version_of from
  all_known ← known_script version from
  rate ← rate_of version from
  bits ← duration (codes "bits") 1 (most_bits version) rate from
  Ok (record { version = version; rate = rate; bits = bits })

-- the script that a JSON value describes, or its first fault
unfoldable pub script_of : Data → Result ScriptValue Fault
script_of value = do
  from ← object_of (codes "script") value
  format ← format_of from
  lists_of format from
