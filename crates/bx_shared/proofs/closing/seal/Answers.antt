-- The seat holds every place.
use Rattle.std.proofs.Common.{◌≡◌, List, sym, subst, ap, arith}
use mathlib.Core.Option.{none}
use Rattle.atomic_table.specs.Table.{Me, step, Allows}
use Rattle.bx_core.specs.declared.waiting.Waiting.{Waiting}
use Rattle.bx_shared.specs.declared.said.Said.{Said}
use Rattle.bx_shared.specs.declared.view.View.{View}
use Rattle.bx_shared.specs.Shown.{IsKept}
use Rattle.bx_shared.specs.Steps.{bus_of}
use Rattle.bx_shared.specs.Closing.{Seals, Ends, sealed_seat, waiting_in}
use Rattle.bx_shared.proofs.Sealing.{seals-keep}
use Rattle.bx_shared.proofs.closing.seal.Goals as goal

pub load-requires : goal.load-requires
load-requires c = let h = c.args.words.now.shared in let t = h.table_id in let id = c.args.seat.now.id in let seven =
    c.requires.table.seven in let me = c.args.seat.now.me in (
      c.requires.table.same,
      omega arith,
      subst (λ (m : Me Said View). Allows (IsKept h.key) t.slots id m 0 (λ n. n) (Seals (step t.slots 0 0 0 none) m))
          (sym c.requires.bus) (seals-keep h.key t.slots id (bus_of me) me.0.routes c.requires.all),
    )

pub returns-clause-sealed : goal.returns-clause-sealed
returns-clause-sealed c = let e = c.load.ensures.2 in let me = c.args.seat.now.me in let n = c.load.new.seat.me in
    subst (λ (x : List Waiting). n ≡ sealed_seat (bus_of me) me.0.routes x) (sym (ap waiting_in e.1)) e.1

pub returns-clause-ends : goal.returns-clause-ends
returns-clause-ends c = let e = c.load.ensures.2 in let me = c.args.seat.now.me in
    subst (λ (x : List Waiting). Ends (bus_of me) me.0.routes x c.load.result) (sym (ap waiting_in e.1)) e.2
