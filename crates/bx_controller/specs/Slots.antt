-- A receive FIFO that a route takes from, or none.
use Rattle.std.specs.Prelude.{◌≡◌, ℕ, ◌<◌, Option, Some, None, List, [], ◌∷◌, ◌++◌, length}
use Rattle.can_frame.specs.Frames.{FrameValue}
use Rattle.bx_rx.specs.Bank.{BankValue}
use Rattle.bx_core.specs.Lists.{Each}
use Rattle.bx_rx.specs.Banks.{IsFound}
use Rattle.bx_rx.specs.declared.rx_frame.RxFrame.{RxFrame}
use Rattle.bx_controller.specs.Intakes.{GoTo, IntakeStands, StoresAtMost}
use Rattle.bx_controller.specs.declared.intake.Intake.{Intake}

-- it is the same FIFO
abbrev pub SameFifo : Option Intake → Option Intake → Type 0
SameFifo None None = Unit {0}
SameFifo None (Some new) = ⊥
SameFifo (Some old) None = ⊥
SameFifo (Some old) (Some new) = new.rxin.queue ≡ old.rxin.queue

-- a frame with the number of the filter that it was received by, which is one of this FIFO
abbrev pub IsNumbered : List BankValue → ℕ → RxFrame → Type 0
IsNumbered banks fifo x = IsFound banks x.frame (Some (fifo, x.filter_number))

-- a FIFO that was offered those of these frames which go to it
pub record FifoStands (banks : List BankValue) (fifo : ℕ) (intake : Intake) (taken : List FrameValue) : Type 0 where
  pub offered : List FrameValue
  pub goes : GoTo banks fifo taken offered
  pub stands : IntakeStands intake offered
  pub numbered : Each (IsNumbered banks fifo) intake.rxin.stored

abbrev pub SlotStands : List BankValue → ℕ → Option Intake → List FrameValue → Type 0
SlotStands banks fifo None taken = Unit {0}
SlotStands banks fifo (Some intake) taken = FifoStands banks fifo intake taken

-- it was offered this frame, and stored it just so or not at all
abbrev pub SlotOffers : Option Intake → Option Intake → RxFrame → Type 0
SlotOffers None None x = Unit {0}
SlotOffers None (Some new) x = ⊥
SlotOffers (Some old) None x = ⊥
SlotOffers (Some old) (Some new) x =
    ((offered : List FrameValue) → length offered < 18446744073709551615 → IntakeStands old offered →
    IntakeStands new (offered ++ x.frame ∷ []))
    × StoresAtMost old new x
