use Rattle.std.proofs.Common.{sym, subst, arith, ◌+◌, ◌*◌}
use mathlib.Core.Option.{none}
use Rattle.atomic_table.specs.Table.{Me, step, Allows}
use Rattle.bx_shared.specs.declared.said.Said.{Said}
use Rattle.bx_shared.specs.declared.view.View.{View}
use Rattle.bx_shared.specs.Shown.{IsKept}
use Rattle.bx_shared.specs.Steps.{bus_of}
use Rattle.bx_shared.specs.BusSteps.{ReadsBytes}
use Rattle.bx_shared.proofs.BusKeeps.{reads_bytes-keep}
use Rattle.bx_shared.proofs.bus_steps.read_bytes.Goals as goal

pub load-requires : goal.load-requires
load-requires c = let h = c.args.words.now.shared in let t = h.table_id in let id = c.args.seat.now.id in
    let seven = c.requires.table.seven in let a = c.args in let b = bus_of a.seat.now.me in
    let rs = a.seat.now.me.0.routes in let from = c.from.ensures in let i = 2 * c.from.result + 2 in let small =
    c.requires.mailbox in (
      c.requires.table.same,
      omega arith,
      subst (λ (m : Me Said View). Allows (IsKept h.key) t.slots id m i (λ n. n)
          (ReadsBytes (step t.slots i 0 0 none) m))
          (sym c.requires.bus)
          (reads_bytes-keep h.key t.slots id a.mailbox i b rs (omega arith)),
    )
