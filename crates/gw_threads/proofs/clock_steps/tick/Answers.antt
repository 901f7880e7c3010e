use Rattle.std.proofs.Common.{sym, subst, ap, ◌∙◌, ℕ, arith, ◌+◌, ◌%◌, ◌^◌}
use mathlib.Core.Option.{none}
use Rattle.atomic_table.specs.Table.{Me, step, Allows}
use Rattle.gw_threads.specs.Clocks.{word_of, Kept, Ticks, pacer_of, clock_of}
use Rattle.gw_threads.specs.declared.views.Pacer.{Pacer}
use Rattle.gw_threads.proofs.Pacing.{ticks-keep}
use Rattle.gw_threads.proofs.clock_steps.tick.Goals as goal

pub fetch_add-requires : goal.fetch_add-requires
fetch_add-requires c = let h = c.args.clocks.now.shared in let t = h.table_id in let id = c.args.seat.now.id in
    let i = c.word_of.result in let v = pacer_of c.args.seat.now.me in let words = c.requires.table.words in let own =
    c.requires.own in let word = c.word_of.ensures in (
      c.requires.table.same,
      omega arith,
      subst (λ (m : Me (Unit {0}) Pacer). Allows (Kept h.key) t.slots id m i (λ n. (n + c.args.bits) % 2 ^ 64)
          (Ticks (step t.slots i c.args.bits 0 none) m)) (sym c.requires.table.alone)
          (subst (λ (w : ℕ). Allows (Kept h.key) t.slots id (clock_of v) w (λ n. (n + c.args.bits) % 2 ^ 64)
          (Ticks (step t.slots w c.args.bits 0 none) (clock_of v))) (ap word_of c.requires.own ∙ sym c.word_of.ensures)
          (ticks-keep h.key t.slots id c.args.bits v (omega arith) c.requires.pace)),
    )
