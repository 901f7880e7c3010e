-- What the fields of a `Script` stand for.
use Rattle.gw_config.specs.Scripts.{ScriptValue}
use Rattle.gw_config.specs.declared.script.Script.TheInside.{Inside}

abbrev pub script_view : Inside → ScriptValue
script_view s = record {
  rate = s.bitrate;
  bits = s.bits;
  segments = s.segments.items;
  controllers = s.controllers.items;
  routes = s.routes.items;
  faults = s.faults.items;
  aborts = s.aborts.items;
}
