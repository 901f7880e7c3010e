-- The nodes of a segment and the routes into a controller, by their places.
use Rattle.std.specs.Prelude.{ℕ, ◌+◌, ◌-◌, ◌==◌, nat_lt, Bool, List, [], ◌∷◌, ◌++◌}
use Rattle.std.specs.Prelude.{length, Option, Some, None, slice_get, if◌then◌else◌}
use Rattle.gw_config.specs.Talkers.{TalkerValue, talker_names}
use Rattle.gw_config.specs.Segments.{SegmentValue}
use Rattle.gw_config.specs.Controllers.{ControllerValue, controller_names, controllers_on}
use Rattle.gw_config.specs.Routes.{RouteValue}
use Rattle.gw_config.specs.Scripts.{ScriptValue}

-- the places of the elements that pass a test, front to back; the first element of the list has this place
abbrev pub places_where : {A : Type 0} → (A → Bool) → ℕ → List A → List ℕ
places_where test place [] = []
places_where test place (x ∷ xs) = if test x then place ∷ places_where test (place + 1) xs
    else places_where test (place + 1) xs

-- the places in the script of the controllers on a segment, in the order of the script
abbrev pub controller_places : ScriptValue → ℕ → List ℕ
controller_places s segment = places_where (λ (c : ControllerValue). c.segment == segment) 0 s.controllers

-- the places in the script of the routes into a controller, in the order of the script; a route's place among these is
-- its number there
abbrev pub route_places : ScriptValue → ℕ → List ℕ
route_places s controller = places_where (λ (r : RouteValue). r.target == controller) 0 s.routes

abbrev pub talkers_on : Option SegmentValue → List TalkerValue
talkers_on None = []
talkers_on (Some segment) = segment.talkers

-- the names of a segment's nodes, in node order: its talkers, then the controllers on it
abbrev pub names_of_nodes : ScriptValue → ℕ → List (List ℕ)
names_of_nodes s segment = talker_names (talkers_on (slice_get s.segments segment))
    ++ controller_names (controllers_on segment s.controllers)

-- the controller that is this node of a segment, by its place in the script; a talker is none
abbrev pub controller_at : ScriptValue → ℕ → ℕ → Option ℕ
controller_at s segment node =
    let talkers = length (talkers_on (slice_get s.segments segment)) in
    if nat_lt node talkers then None else slice_get (controller_places s segment) (node - talkers)

-- the route with this number at a controller, by its place in the script
abbrev pub route_at : ScriptValue → ℕ → ℕ → Option ℕ
route_at s controller number = slice_get (route_places s controller) number
