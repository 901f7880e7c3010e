use Rattle.std.proofs.Common.{sym, subst, ap, ◌∙◌, ℕ, arith}
use mathlib.Core.Option.{none}
use Rattle.atomic_table.specs.Table.{Me, step, Allows}
use Rattle.gw_threads.specs.Clocks.{word_of, Kept, Stops, pacer_of, clock_of}
use Rattle.gw_threads.specs.declared.views.Pacer.{Pacer}
use Rattle.gw_threads.proofs.Pacing.{stops-keep}
use Rattle.gw_threads.proofs.clock_steps.stop.Goals as goal

pub store-requires : goal.store-requires
store-requires c = let h = c.args.clocks.now.shared in let t = h.table_id in let id = c.args.seat.now.id in
    let i = c.word_of.result in let v = pacer_of c.args.seat.now.me in let words = c.requires.table.words in
    let behind = c.requires.behind in let word = c.word_of.ensures in (
      c.requires.table.same,
      omega arith,
      subst (λ (m : Me (Unit {0}) Pacer). Allows (Kept h.key) t.slots id m i (λ _. 1)
          (λ _. Stops (step t.slots i 1 0 none) m 1)) (sym c.requires.table.alone)
          (subst (λ (w : ℕ). Allows (Kept h.key) t.slots id (clock_of v) w (λ _. 1)
          (λ _. Stops (step t.slots w 1 0 none) (clock_of v) 1)) (ap word_of c.requires.behind
          ∙ sym c.word_of.ensures)
          (stops-keep h.key t.slots id v)),
    )
