use Rattle.std.proofs.Common.{◌≡◌, ◌≤◌, ◌++◌, length, drop}
use Rattle.std.specs.Fmt.{decimal}
use Rattle.gw_script.proofs.digits.write_digits.Given as goal

abbrev pub invariant-loop-left : goal.invariant-loop-left
invariant-loop-left l = record {
  room : length (decimal l.left) ≤ l.at;
  at : l.at ≤ l.end;
  written : decimal l.left ++ drop l.at l.digits ≡ decimal l.number ++ drop l.end l.fn.digits;
}

abbrev pub decreases-loop-left : goal.decreases-loop-left
decreases-loop-left l = l.left
