use Rattle.can_station.proofs.GoingBy.{member_by}
use Rattle.can_station.proofs.member.Member.go_ahead_by.Goals as goal

pub returns-clause-goes : goal.returns-clause-goes
returns-clause-goes c levels size is_sender bit may =
    member_by is_sender bit levels c.args.self.now c.go_ahead_by.new.self may.active may.is_on may.uneventful
    (c.go_ahead_by.ensures is_sender levels size may.goes)
