-- What the fields of a `Controller` stand for.
use Rattle.std.specs.Prelude.{string_bytes}
use Rattle.gw_config.specs.Controllers.{ControllerValue}
use Rattle.gw_config.specs.declared.controller.Controller.TheInside.{Inside}

abbrev pub controller_view : Inside → ControllerValue
controller_view c = record {
  name = string_bytes c.name;
  segment = c.segment;
  on = c.on;
  txfp = c.txfp;
  banks = c.banks;
}
