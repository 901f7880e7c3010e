use Rattle.std.proofs.Common.{sym, subst, arith}
use mathlib.Core.Option.{none}
use Rattle.atomic_table.specs.Table.{Me, step, Allows}
use Rattle.gw_threads.specs.Clocks.{Kept, Watches, pacer_of}
use Rattle.gw_threads.specs.declared.views.Pacer.{Pacer}
use Rattle.gw_threads.proofs.Pacing.{watches-keep}
use Rattle.gw_threads.proofs.clock_steps.watch.Goals as goal

pub load-requires : goal.load-requires
load-requires c = let h = c.args.clocks.now.shared in let t = h.table_id in let id = c.args.seat.now.id in
    let i = c.word_of.result in let words = c.requires.table.words in let behind = c.requires.behind in let word =
    c.word_of.ensures in (
      c.requires.table.same,
      omega arith,
      subst (λ (m : Me (Unit {0}) Pacer). Allows (Kept h.key) t.slots id m i (λ n. n)
          (Watches (step t.slots i 0 0 none) m)) (sym c.requires.table.alone)
          (watches-keep h.key t.slots id i (pacer_of c.args.seat.now.me)),
    )
