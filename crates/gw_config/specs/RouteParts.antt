-- What the fields of a `Route` stand for.
use Rattle.std.specs.Prelude.{string_bytes}
use Rattle.gw_config.specs.Routes.{RouteValue}
use Rattle.gw_config.specs.declared.route.Route.TheInside.{Inside}

abbrev pub route_view : Inside → RouteValue
route_view r = record {
  name = string_bytes r.name;
  source = r.source;
  fifo = r.fifo;
  target = r.target;
  rewrites = r.rewrites.items;
  pace = r.pace;
  queue = r.queue;
}
