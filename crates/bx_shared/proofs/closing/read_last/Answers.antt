-- The words stay.
use Rattle.std.proofs.Common.{sym, subst, arith}
use mathlib.Core.Option.{none}
use Rattle.atomic_table.specs.Table.{Me, step, Allows}
use Rattle.bx_shared.specs.declared.said.Said.{Said}
use Rattle.bx_shared.specs.declared.view.View.{View}
use Rattle.bx_shared.specs.Shown.{IsKept}
use Rattle.bx_shared.specs.Closing.{ReadsLast, waiting_in}
use Rattle.bx_shared.proofs.Sealing.{reads_last-keep}
use Rattle.bx_shared.proofs.closing.read_last.Goals as goal

pub load-requires : goal.load-requires
load-requires c = let h = c.args.words.now.shared in let t = h.table_id in let id = c.args.seat.now.id in let seven =
    c.requires.table.seven in let small = c.requires.place in let me = c.args.seat.now.me in (
      c.requires.table.same,
      omega arith,
      subst (λ (m : Me Said View). Allows (IsKept h.key) t.slots id m c.args.place (λ n. n)
          (ReadsLast (step t.slots c.args.place 0 0 none) m)) (λ i. (me.0, sym c.requires.sealed.1 i))
          (reads_last-keep h.key t.slots id c.args.place me.0 (waiting_in me) c.requires.sealed.0),
    )
