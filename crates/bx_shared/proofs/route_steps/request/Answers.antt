use Rattle.std.proofs.Common.{sym, subst, arith, ◌==◌}
use mathlib.Core.Option.{some}
use prog.Atomic.{either}
use Rattle.atomic_table.specs.Table.{Me, step, Allows}
use Rattle.bx_shared.specs.declared.said.Said.{Said}
use Rattle.bx_shared.specs.declared.said.Said.TheVariants.{Request}
use Rattle.bx_shared.specs.declared.view.View.{View}
use Rattle.bx_shared.specs.Shown.{IsKept}
use Rattle.bx_shared.specs.Steps.{part_of, Requests}
use Rattle.bx_shared.proofs.Requesting.{requests-keep}
use Rattle.bx_shared.proofs.route_steps.request.Goals as goal

pub compare_exchange_with-requires : goal.compare_exchange_with-requires
compare_exchange_with-requires c = let h = c.args.words.now.shared in let t = h.table_id in let id =
    c.args.seat.now.id in let seven = c.requires.table.seven in let a = c.args in (
      c.requires.table.same,
      omega arith,
      subst (λ (m : Me Said View). Allows (IsKept h.key) t.slots id m 0 (λ n. either (n == a.old) a.new n)
          (Requests (step t.slots 0 a.old a.new (some (Request a.entry))) m)) (sym c.requires.route)
          (requests-keep h.key t.slots id a.old a.new (part_of a.seat.now.me) a.entry c.requires.filled.0
          c.requires.filled.1 c.requires.packed c.requires.number c.requires.request),
    )
