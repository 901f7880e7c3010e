use Rattle.std.proofs.Common.{take, ◌≤◌, length}
use Rattle.std.specs.Io.KnownBytes.{Appends}
use Rattle.gw_streams.proofs.output.write_output.Given as goal

abbrev pub invariant-loop : goal.invariant-loop
invariant-loop g l = Appends (g.W.Write.contents l.fn.output) (g.W.Write.contents l.output) (take l.written l.text)
    × (l.written ≤ length l.text)
