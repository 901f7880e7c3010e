use Rattle.std.proofs.Common.{◌≡◌}
use Rattle.bx_core.specs.TxBus.{BusPast}
use Rattle.bx_mail.specs.Boxes.{on_bus_now}
use Rattle.bx_mail.specs.Sides.{Runs, BusKeeps}
use Rattle.bx_mail.proofs.post_bus.PostBus.take_posts.Given as goal

abbrev pub invariant-loop : goal.invariant-loop
invariant-loop g l = ((past : BusPast) → Runs l.fn.self past → Runs l.self past)
    × (on_bus_now l.self.boxes ≡ on_bus_now l.fn.self.boxes) × BusKeeps l.fn.self l.self
    × (l.self.tally ≡ l.fn.self.tally)
