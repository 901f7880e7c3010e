use Rattle.can_station.proofs.GoingBy.{member_by}
use Rattle.can_station.proofs.member.Member.go_on_by.Goals as goal

pub go_on_by-requires-clause-goes : goal.go_on_by-requires-clause-goes
go_on_by-requires-clause-goes c =
    let may = c.requires.goes c.if-self.false in
    (may.0, may.2.goes)

pub returns-clause-goes : goal.returns-clause-goes
returns-clause-goes c active is_sender bit may =
    member_by is_sender bit c.args.levels.now c.args.self.now c.go_on_by.new.self active may.is_on may.uneventful
    (c.go_on_by.ensures is_sender may.goes)
