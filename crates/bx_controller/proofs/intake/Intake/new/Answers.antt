use Rattle.std.proofs.Common.{refl}
use Rattle.bx_controller.proofs.Intakes.{opens}
use Rattle.bx_controller.proofs.intake.Intake.new.Goals as goal

pub returns-clause-stands : goal.returns-clause-stands
returns-clause-stands c = opens _ refl refl c.requires.0 c.requires.1
