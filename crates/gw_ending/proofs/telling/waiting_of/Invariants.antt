use Rattle.std.proofs.Common.{◌≡◌, take}
use Rattle.bx_core.specs.States.{numbers}
use Rattle.bx_core.specs.Ties.{left_of}
use Rattle.gw_ending.proofs.telling.waiting_of.Given as goal

abbrev pub invariant-loop-one : goal.invariant-loop-one
invariant-loop-one l = l.all.items ≡ numbers (left_of l.route (take l.one-index l.left))
