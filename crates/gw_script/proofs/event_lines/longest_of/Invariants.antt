use Rattle.std.proofs.Common.{◌≤◌, All, length, take}
use Rattle.gw_script.proofs.event_lines.longest_of.Given as goal

abbrev pub invariant-loop-name : goal.invariant-loop-name
invariant-loop-name l = All (λ name. length name.now ≤ l.longest) (take l.name-index l.names)
