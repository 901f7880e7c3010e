use Rattle.std.proofs.Common.{◌≡◌, All, vec_len}
use Rattle.gw_script.specs.LineParts.{IsEnd}
use Rattle.gw_script.proofs.repeats.Ends.new.Given as goal

abbrev pub invariant-loop-node : goal.invariant-loop-node
invariant-loop-node l = (vec_len l.started ≡ l._node) × All IsEnd l.started.items
