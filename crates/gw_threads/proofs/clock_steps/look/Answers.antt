use Rattle.std.proofs.Common.{ℕ, sym, subst, arith}
use mathlib.Core.Option.{none}
use Rattle.atomic_table.specs.Table.{Me, step, Allows}
use Rattle.gw_threads.specs.Clocks.{Kept, Looks, clock_of, pacer_of}
use Rattle.gw_threads.specs.declared.views.Pacer.{Pacer}
use Rattle.gw_threads.proofs.Pacing.{looks-keep}
use Rattle.gw_threads.proofs.clock_steps.look.Goals as goal

pub load-requires : goal.load-requires
load-requires c = let h = c.args.clocks.now.shared in let t = h.table_id in let id = c.args.seat.now.id in
    let i = c.word_of.result in let v = pacer_of c.args.seat.now.me in let words = c.requires.table.words in let word =
    c.word_of.ensures in (
      c.requires.table.same,
      omega arith,
      subst (λ (m : Me (Unit {0}) Pacer). Allows (Kept h.key) t.slots id m i (λ n. n)
          (Looks (step t.slots i 0 0 none) m))
          (sym c.requires.table.alone)
          (subst (λ (w : ℕ). Allows (Kept h.key) t.slots id (clock_of v) w (λ n. n)
          (Looks (step t.slots w 0 0 none) (clock_of v))) (sym c.word_of.ensures)
          (looks-keep h.key t.slots id c.args.segment v)),
    )
