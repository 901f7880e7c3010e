-- A turn of a route in one thread.
use Rattle.std.specs.Prelude.{◌≡◌, ℕ}
use Rattle.bx_core.specs.Stands.{RouteKeeps}
use Rattle.bx_rx.specs.RxOut.{Outlet, none_given}
use Rattle.gw_route.specs.declared.route_hand.RouteHand.{RouteHand}
use Rattle.gw_run.specs.Ports.{Port}

-- a turn of a route leaves the FIFOs, the banks, and what the bus side and the other routes may have done
pub record TurnLeaves (number : ℕ) (old new : Port) : Type 0 where
  pub banks : new.banks ≡ old.banks
  pub first : new.first ≡ old.first
  pub second : new.second ≡ old.second
  pub mail : RouteKeeps number old.mail new.mail

-- the FIFO gave nothing when a hand asked it last
abbrev pub AskedInVain : RouteHand → Type 0
AskedInVain hand = (before : Outlet) × (hand.out ≡ none_given before)
