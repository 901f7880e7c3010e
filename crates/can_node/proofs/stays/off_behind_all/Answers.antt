use Rattle.std.proofs.Common.{◌≡◌, ◌≤◌, true, false, get_or, arith}
use Rattle.can_node.specs.declared.state.State.TheVariants.{BusOffRecovery}
use Rattle.can_node.proofs.BusOff.{counted_few, run_more, run_over}
use Rattle.can_node.proofs.stays.off_behind_all.Goals as goal
use Rattle.can_node.proofs.stays.off_behind_all.Goals.{then-run-gt9+then-level, else-run-gt9}
use Rattle.can_node.proofs.stays.off_behind_all.Goals.{else-run-gt9-via-then-run-gt9+else-level}
use Rattle.can_node.proofs.stays.off_behind_all.Goals.{else-run-gt9-via-else-run-gt9}

pub loop-level-preserved : goal.loop-level-preserved
loop-level-preserved c =
    let here = c.loop-level.invariant in
    let levels = c.args.levels.now in
    let i = c.loop-level.level-index in
    let state = BusOffRecovery c.args.runs c.args.ones in
    let whole = c.loop-level.whole in
    let run = c.loop-level.run in
    let within = c.loop-level-test.true in
    elim c.if-run-gt9.branch [
      | then-run-gt9+then-level w ↦ record {
        is = rw (w.whole-is, w.run-is)
            (run_over state whole run levels i within w.if-run-gt9.true w.if-level.true here.is);
        far = omega (arith, w.whole-is, w.run-is, here.far, w.if-run-gt9.true, within);
      }
      | else-run-gt9 w ↦
          let few : get_or levels i false ≡ true → run ≤ 9 = λ level. elim w.else-run-gt9.branch [
            | else-run-gt9-via-then-run-gt9+else-level v ↦
                absurd (let not = v.if-level.false in cc (not, level))
            | else-run-gt9-via-else-run-gt9 v ↦ omega (arith, v.if-run-gt9.false)
          ] in
          record {
            is = rw (w.whole-is, w.run-is)
                (run_more state whole run _ levels i within few w.counted-run.ensures here.is);
            far = omega (arith, w.whole-is, w.run-is, counted_few run _ _ w.counted-run.ensures, here.far, within);
          }
    ]
