use Rattle.std.proofs.Common.{sym, subst, arith, ◌==◌}
use mathlib.Core.Option.{some}
use prog.Atomic.{either}
use Rattle.atomic_table.specs.Table.{Me, step, Allows}
use Rattle.bx_shared.specs.declared.said.Said.{Said}
use Rattle.bx_shared.specs.declared.said.Said.TheVariants.{Mailbox}
use Rattle.bx_shared.specs.declared.view.View.{View}
use Rattle.bx_shared.specs.Shown.{IsKept}
use Rattle.bx_shared.specs.Steps.{part_of, Aborts}
use Rattle.bx_shared.proofs.Aborting.{aborts-keep}
use Rattle.bx_shared.proofs.route_steps.abort.Goals as goal

pub compare_exchange_with-requires : goal.compare_exchange_with-requires
compare_exchange_with-requires c = let h = c.args.words.now.shared in let t = h.table_id in let id =
    c.args.seat.now.id in let seven = c.requires.table.seven in let a = c.args in (
      c.requires.table.same,
      omega arith,
      subst (λ (m : Me Said View). Allows (IsKept h.key) t.slots id m 0 (λ n. either (n == a.old) a.new n)
          (Aborts (step t.slots 0 a.old a.new (some (Mailbox a.mailbox))) m)) (sym c.requires.route)
          (aborts-keep h.key t.slots id a.mailbox a.old a.new (part_of a.seat.now.me) c.requires.mailbox
          c.requires.small
          c.requires.idle c.requires.rests c.requires.own c.requires.abort),
    )
