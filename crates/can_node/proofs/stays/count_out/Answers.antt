use Rattle.can_node.proofs.BusOff.{far_stays_all}
use Rattle.can_node.proofs.stays.count_out.Goals as goal

pub returns-in-BusOffRecovery-clause-stays : goal.returns-in-BusOffRecovery-clause-stays
returns-in-BusOffRecovery-clause-stays c =
    let here = c.in-BusOffRecovery in
    far_stays_all c.args.state.now here.runs here.ones c.args.levels.now here.is (c.is_far.ensures c.if-is_far.true)

pub returns-in-PassiveErrorFlag-clause-few : goal.returns-in-PassiveErrorFlag-clause-few
returns-in-PassiveErrorFlag-clause-few c = (c.stay_flagging.ensures.by c.in-PassiveErrorFlag.role).few
