use Rattle.std.proofs.Common.{◌≡◌, ◌+◌, ◌*◌, ◌-◌, ◌≤◌, length, take}
use Rattle.can_node.specs.PlainBits.{out_behind_all}
use Rattle.can_node.specs.declared.state.State.TheVariants.{BusOffRecovery}
use Rattle.can_node.proofs.stays.off_behind_all.Given as goal

abbrev pub invariant-loop-level : goal.invariant-loop-level
invariant-loop-level l = record {
  is : BusOffRecovery l.whole l.run ≡ out_behind_all (BusOffRecovery l.fn.runs l.fn.ones) (take l.level-index l.levels);
  far : 11 * l.whole + l.run + (length l.levels - l.level-index) ≤ 1407;
}
