-- A receive FIFO comes into a controller, or out of it.
use Rattle.std.specs.Prelude.{◌≡◌, ℕ, ◌==◌, Option, if◌then◌else◌}
use Rattle.bx_controller.specs.declared.intake.Intake.{Intake}
use Rattle.bx_controller.specs.declared.port.Port.{Port}

-- this stands in the place of the FIFO of this number, and the rest of the port is as it was
pub record SetsSlot {B : Type 0} (fifo : ℕ) (slot : Option Intake) (old new : Port B) : Type 0 where
  pub mail_is : new.mail ≡ old.mail
  pub banks_is : new.banks ≡ old.banks
  pub first_is : new.first ≡ (if fifo == 0 then slot else old.first)
  pub second_is : new.second ≡ (if fifo == 0 then old.second else slot)
