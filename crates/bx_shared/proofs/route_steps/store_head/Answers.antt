use Rattle.std.proofs.Common.{sym, subst, ◌+◌, ◌*◌, arith}
use mathlib.Core.Option.{none}
use Rattle.atomic_table.specs.Table.{Me, step, Allows}
use Rattle.bx_shared.specs.declared.said.Said.{Said}
use Rattle.bx_shared.specs.declared.view.View.{View}
use Rattle.bx_shared.specs.Shown.{IsKept}
use Rattle.bx_shared.specs.Steps.{part_of, StoresHead}
use Rattle.bx_shared.proofs.Claiming.{stores_head-keep}
use Rattle.bx_shared.proofs.route_steps.store_head.Goals as goal

pub store-requires : goal.store-requires
store-requires c = let h = c.args.words.now.shared in let t = h.table_id in let id = c.args.seat.now.id in let seven =
    c.requires.table.seven in let a = c.args in let from = c.from.ensures in let i = 2 * c.from.result + 1 in
    let small = c.requires.fills.0 in let at = c.requires.fills.2 in (
      c.requires.table.same,
      omega arith,
      subst (λ (m : Me Said View). Allows (IsKept h.key) t.slots id m i (λ _. a.head)
          (λ _. StoresHead (step t.slots i a.head 0 none) m a.head)) (sym c.requires.route)
          (stores_head-keep h.key t.slots id a.head i (part_of a.seat.now.me)
          (omega arith) c.requires.fills.1 c.requires.head),
    )
