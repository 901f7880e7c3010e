use Rattle.std.proofs.Common.{◌≡◌, ◌++◌, take}
use Rattle.bx_core.specs.States.{numbers}
use Rattle.gw_ending.specs.Links.{settled}
use Rattle.gw_ending.proofs.settling.settled.Given as goal

abbrev pub invariant-loop-number : goal.invariant-loop-number
invariant-loop-number l = l.kept.items ≡ settled (numbers l.completed ++ l.waiting) (take l.number-index l.logged)
