use Rattle.can_node.proofs.stays.stay_by.Goals as goal

pub returns-in-PassiveErrorFlag-clause-by : goal.returns-in-PassiveErrorFlag-clause-by
returns-in-PassiveErrorFlag-clause-by c =
    let here = c.in-PassiveErrorFlag in
    rw here.is (c.stay_flagging-stay.ensures.by here._role)
