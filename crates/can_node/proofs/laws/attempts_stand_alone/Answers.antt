use Rattle.can_node.proofs.Attempts.{attempts_stand_alone, open_reports_nothing, begun_attempts}
use Rattle.can_node.proofs.laws.attempts_stand_alone.Goals as goal

pub returns : goal.returns
returns c = record { attempts = attempts_stand_alone; goes_on = open_reports_nothing; begun = begun_attempts }
