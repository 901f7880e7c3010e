-- The controllers of a run whose mailboxes are closed.
use Rattle.bx_controller.specs.declared.port.Port.{Port as AnyPort}
use Rattle.gw_ending.specs.declared.closed.Closed.{Closed}
use Rattle.gw_site.specs.declared.site.Site.{Site as AnySite}

abbrev pub Port : Type 0
Port = AnyPort Closed

abbrev pub Site : Type 0
Site = AnySite Port
