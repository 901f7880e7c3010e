-- The controllers of a run in one thread: with mailboxes for one thread.
use Rattle.std.specs.Prelude.{◌≡◌, ℕ, Bool, Option, None, Some, List, [], false, slice_get}
use Rattle.bx_core.specs.PlainMail.{core_of, short_of, sending}
use Rattle.bx_core.specs.RouteTx.{no_route_past}
use Rattle.bx_core.specs.States.{opening_by}
use Rattle.bx_core.specs.Stands.{BusKeeps, BusStands, RouteStands}
use Rattle.bx_core.specs.TxBus.{Item, BusPast, no_bus_past}
use Rattle.bx_core.specs.declared.plain_mail.PlainMail.{PlainMail}
use Rattle.bx_controller.specs.Ports.{PortLeaves as AnyLeaves}
use Rattle.bx_controller.specs.declared.port.Port.{Port as AnyPort}
use Rattle.gw_config.specs.Controllers.{ControllerValue}
use Rattle.gw_config.specs.Scripts.{ScriptValue}
use Rattle.gw_opening.specs.Openings.{priority_of, routes_at, IsNewPort}
use Rattle.gw_site.specs.declared.site.Site.{Site as AnySite}

abbrev pub Port : Type 0
Port = AnyPort PlainMail

abbrev pub Site : Type 0
Site = AnySite Port

-- any call of a segment leaves which FIFOs they are, the banks, and what routes may have done
abbrev pub PortLeaves : Port → Port → Type 0
PortLeaves = AnyLeaves BusKeeps

-- its bus side may have done this
abbrev pub BusDid : Port → BusPast → Type 0
BusDid port past = BusStands (core_of port.mail) past

-- what it has on the bus
abbrev pub on_bus : Port → Option Item
on_bus port = sending (core_of port.mail)

-- mailboxes of this priority for so many routes, of which nothing was asked yet
pub record IsNewMail (txfp : Bool) (routes : ℕ) (mail : PlainMail) : Type 0 where
  pub core_is : core_of mail ≡ opening_by txfp routes
  pub unshort : short_of mail ≡ false
  pub idle : sending (core_of mail) ≡ None
  pub bus : BusStands (core_of mail) no_bus_past
  pub route : (route : ℕ) → RouteStands (core_of mail) route no_route_past

-- the port of a controller before the first bit: it has such mailboxes, for the routes into it
pub record StartsPort (s : ScriptValue) (controller : ℕ) (port : Port) : Type 0 where
  pub is_new : IsNewPort s controller port
  pub mail : (value : ControllerValue) → slice_get s.controllers controller ≡ Some value →
      IsNewMail (priority_of value) (routes_at s controller) port.mail

-- no request waits for any of these controllers
abbrev pub NoneWaits : List Port → Type 0
NoneWaits ports = (k : ℕ) (port : Port) → slice_get ports k ≡ Some port → (core_of port.mail).queue ≡ []
