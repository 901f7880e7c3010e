use Rattle.std.proofs.Common.{sym, subst, arith}
use mathlib.Core.Option.{none}
use Rattle.atomic_table.specs.Table.{Me, step, Allows}
use Rattle.bx_shared.specs.declared.said.Said.{Said}
use Rattle.bx_shared.specs.declared.view.View.{View}
use Rattle.bx_shared.specs.Shown.{IsKept}
use Rattle.bx_shared.specs.Steps.{part_of, Looks}
use Rattle.bx_shared.proofs.Looking.{looks-keep}
use Rattle.bx_shared.proofs.route_steps.look.Goals as goal

pub load-requires : goal.load-requires
load-requires c = let h = c.args.words.now.shared in let t = h.table_id in let id = c.args.seat.now.id in let seven =
    c.requires.table.seven in (
      c.requires.table.same,
      omega arith,
      subst (λ (m : Me Said View). Allows (IsKept h.key) t.slots id m 0 (λ n. n) (Looks (step t.slots 0 0 0 none) m))
          (sym c.requires.route)
          (looks-keep h.key t.slots id (part_of c.args.seat.now.me)),
    )
