use Rattle.can_station.proofs.member.Member.go_on.Goals as goal

pub go_on-requires-clause-goes : goal.go_on-requires-clause-goes
go_on-requires-clause-goes c = (c.requires.goes c.if-self.false).goes
