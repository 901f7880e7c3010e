use Rattle.std.proofs.lemmas.Bool.{not-false}
use Rattle.can_station.proofs.member.Member.holds_up.Goals as goal

pub returns-then-not-self : goal.returns-then-not-self
returns-then-not-self c none active = c.goes_on.ensures (not-false c.goes_on.result none)
