use Rattle.std.proofs.Common.{sym, subst, arith, bit_and}
use mathlib.Core.Option.{none}
use Rattle.atomic_table.specs.Table.{Me, step, Allows}
use Rattle.bx_shared.specs.declared.said.Said.{Said}
use Rattle.bx_shared.specs.declared.view.View.{View}
use Rattle.bx_shared.specs.Shown.{IsKept}
use Rattle.bx_shared.specs.Steps.{bus_of}
use Rattle.bx_shared.specs.BusSteps.{Reaps}
use Rattle.bx_shared.proofs.BusKeeps.{reaps-keep}
use Rattle.bx_shared.proofs.bus_steps.reap.Goals as goal

pub fetch_and-requires : goal.fetch_and-requires
fetch_and-requires c = let h = c.args.words.now.shared in let t = h.table_id in let id = c.args.seat.now.id in
    let seven = c.requires.table.seven in let a = c.args in let b = bus_of a.seat.now.me in let rs =
    a.seat.now.me.0.routes in (
      c.requires.table.same,
      omega arith,
      subst (λ (m : Me Said View). Allows (IsKept h.key) t.slots id m 0 (λ n. bit_and n a.mask)
          (Reaps (step t.slots 0 a.mask 0 none) m)) (sym c.requires.bus)
          (reaps-keep h.key t.slots id a.mask b rs c.requires.due c.requires.mask),
    )
