use Rattle.std.proofs.Common.{◌∙◌, sym}
use Rattle.can_node.specs.declared.state.State.TheVariants.{PassiveErrorFlag}
use Rattle.can_node.proofs.GoingBy.{flag_more, is_not, stays_none}
use Rattle.can_node.proofs.stays.stay_flagging.Goals as goal

pub loop-place-init : goal.loop-place-init
loop-place-init c role = stays_none (PassiveErrorFlag role c.args.owes c.args.ones c.args.zeros) c.args.levels.now

pub loop-place-preserved : goal.loop-place-preserved
loop-place-preserved c role =
    flag_more role c.args.owes c.args.ones c.args.zeros c.loop-place.recessive c.loop-place.dominant
    c.counted-recessive.result c.counted-dominant.result c.args.levels.now c.loop-place.place c.loop-place-test.true
    (c.loop-place.invariant role) (is_not _ (sym (c.ends_flag.ensures.stays role) ∙ c.if-ends_flag.false))
    c.counted-recessive.ensures c.counted-dominant.ensures
