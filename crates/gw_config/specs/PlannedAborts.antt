-- An abort that a script plans: of the request with this number, at a turn of its route.
use Rattle.std.specs.Prelude.{ℕ, List, [], ◌∷◌, codes, Result, Ok}
use Rattle.serde_json.specs.Data.{Data}
use Rattle.gw_config.specs.declared.version.Version.{Version}
use Rattle.gw_config.specs.declared.planned_abort.PlannedAbort.{PlannedAbort}
use Rattle.gw_fields.specs.Faults.{Fault}
use Rattle.gw_fields.specs.Fields.{◌>>=◌, whole, optional_list, each}
use Rattle.gw_fields.specs.Names.{place_named}
use Rattle.gw_config.specs.Objects.{element_of}
use Rattle.gw_config.specs.Routes.{RouteValue, route_names}

abbrev pub abort_fields : List (List ℕ)
abort_fields = codes "route" ∷ codes "number" ∷ codes "turn" ∷ []

unfoldable pub planned_abort_of : Version → List RouteValue → Data → Result PlannedAbort Fault
planned_abort_of version routes value = do
  from ← element_of version (codes "aborts") abort_fields value
  route ← place_named (codes "route") (route_names routes) from
  number ← whole (codes "number") 1 16777215 from
  turn ← whole (codes "turn") 1 1000000 from
  Ok (record { route = route; number = number; turn = turn })

-- at most 1,000 of them, and none where the field is not there
unfoldable pub planned_aborts_of : Version → List RouteValue → Data → Result (List PlannedAbort) Fault
planned_aborts_of version routes from = do
  items ← optional_list (codes "aborts") 1000 from
  each (planned_abort_of version routes) items
