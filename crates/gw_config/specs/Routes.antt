-- A route: from a FIFO of one controller into a mailbox of another, or of the same.
use Rattle.std.specs.Prelude.{ℕ, ◌&&◌, ◌==◌, nat_lt, Bool, List, [], ◌∷◌, length}
use Rattle.std.specs.Prelude.{map, count_by, codes, Option, None, Result, Ok, Err, if◌then◌else◌}
use Rattle.std.specs.List.{list_any}
use Rattle.serde_json.specs.Data.{Data}
use Rattle.can_frame.specs.declared.rewrite.Rewrite.{Rewrite}
use Rattle.gw_config.specs.declared.version.Version.{Version}
use Rattle.gw_config.specs.declared.version.Version.TheVariants.{One, Two, Three}
use Rattle.gw_config.specs.declared.format.Format.{Format}
use Rattle.gw_config.specs.declared.pace.Pace.{Pace}
use Rattle.gw_fields.specs.Faults.{Fault, fifo_twice, too_many}
use Rattle.gw_fields.specs.Fields.{◌>>=◌, whole, list, each_after}
use Rattle.gw_fields.specs.Names.{new_name, place_named}
use Rattle.gw_fields.specs.Optional.{optional_whole}
use Rattle.gw_config.specs.Objects.{element_of}
use Rattle.gw_config.specs.Controllers.{ControllerValue, controller_names}
use Rattle.gw_config.specs.Paces.{pace_of}
use Rattle.gw_config.specs.Rewrites.{rewrites_of}

-- its name, the places of its controllers, the FIFO that it takes from, the new identifiers under which it sends frames
-- on, when it makes its turns, and how many frames it holds between the FIFO and the mailboxes, where it has a queue
pub record RouteValue : Type 0 where
  pub name : List ℕ
  pub source : ℕ
  pub fifo : ℕ
  pub target : ℕ
  pub rewrites : List Rewrite
  pub pace : Pace
  pub queue : Option ℕ

abbrev pub route_names : List RouteValue → List (List ℕ)
route_names routes = map (λ (r : RouteValue). r.name) routes

-- whether it takes from this FIFO of this controller
abbrev pub takes_from : ℕ → ℕ → RouteValue → Bool
takes_from source fifo r = (r.source == source) && (r.fifo == fifo)

-- how many routes lead into a controller
abbrev pub routes_into : ℕ → List RouteValue → ℕ
routes_into target routes = count_by (λ (r : RouteValue). r.target == target) routes

-- Whether there is place for a route behind those in front of it: none takes from its FIFO, and fewer than eight lead
-- into its target.
abbrev pub placed : List RouteValue → RouteValue → Result RouteValue Fault
placed front r =
    if list_any (takes_from r.source r.fifo) front then Err (fifo_twice (length front))
    else (if nat_lt (routes_into r.target front) 8 then Ok r else Err (too_many (codes "routes")))

-- the size of its queue, 1 to 1,024 frames; versions 1 and 2 have no queues
abbrev pub queue_of : Version → Data → Result (Option ℕ) Fault
queue_of One from = Ok None
queue_of Two from = Ok None
queue_of Three from = optional_whole (codes "queue") 1 1024 from

-- the fields behind the name
unfoldable pub route_with : Format → List ControllerValue → List RouteValue → List ℕ → Data → Result RouteValue Fault
route_with format controllers front name from = do
  source ← place_named (codes "from") (controller_names controllers) from
  fifo ← whole (codes "fifo") 0 1 from
  target ← place_named (codes "to") (controller_names controllers) from
  rewrites ← rewrites_of format.version from
  pace ← pace_of format.version format.rate from
  queue ← queue_of format.version from
  placed front (record {
    name = name;
    source = source;
    fifo = fifo;
    target = target;
    rewrites = rewrites;
    pace = pace;
    queue = queue;
  })

abbrev pub route_fields : List (List ℕ)
route_fields =
    codes "name" ∷ codes "from" ∷ codes "fifo" ∷ codes "to" ∷ codes "rewrite" ∷ codes "every" ∷ codes "burst"
    ∷ codes "queue" ∷ []

-- a route behind those in front of it
unfoldable pub route_of : Format → List ControllerValue → List RouteValue → Data → Result RouteValue Fault
route_of format controllers front value = do
  from ← element_of format.version (codes "routes") route_fields value
  name ← new_name (codes "routes") (route_names front) from
  route_with format controllers front name from

-- at most 16 of them
unfoldable pub routes_of : Format → List ControllerValue → Data → Result (List RouteValue) Fault
routes_of format controllers from = do
  items ← list (codes "routes") 16 from
  each_after (route_of format controllers) [] items
