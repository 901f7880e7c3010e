use Rattle.gw_threads.specs.Clocks.{SameClocks}
use Rattle.gw_threads.proofs.site_run.wait_for_others.Given as goal

abbrev pub invariant-loop-look : goal.invariant-loop-look
invariant-loop-look g l =
    (goal.iterator-loop-look g).can_next l._look-iterator
    × (goal.iterator-loop-look g).is_finite l._look-iterator
    × SameClocks l.initial.clock l.clock
