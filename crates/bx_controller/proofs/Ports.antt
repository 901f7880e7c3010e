-- A frame that a controller takes goes to the FIFO of its filter.
use Rattle.std.proofs.Common.{◌≢◌, ℕ, ◌<◌, ◌≤◌, Option, Some, None, List, [], ◌∷◌, ◌++◌, length, arith, length-append}
use Rattle.std.proofs.Common.{refl, sym, subst, inl, inr}
use Rattle.can_frame.specs.Frames.{FrameValue}
use Rattle.bx_core.specs.Lists.{Each}
use Rattle.bx_core.proofs.Words.{each-append}
use Rattle.bx_rx.specs.Bank.{BankValue}
use Rattle.bx_rx.specs.declared.rx_frame.RxFrame.{RxFrame}
use Rattle.bx_rx.specs.Banks.{IsFound}
use Rattle.bx_controller.specs.Intakes.{GoTo, fifo_of}
use Rattle.bx_controller.specs.Intakes.GoTo.{nothing, here, elsewhere}
use Rattle.bx_controller.specs.Slots.{SlotStands, SlotOffers, IsNumbered}
use Rattle.bx_controller.specs.declared.intake.Intake.{Intake}

goes-length : {banks : List BankValue} {fifo : ℕ} {taken offered : List FrameValue} → GoTo banks fifo taken offered →
    length offered ≤ length taken
goes-length nothing = omega arith
goes-length (here {taken = taken} {offered = offered} frame found is fits h) =
    omega (arith, length-append taken (frame ∷ []), length-append offered (frame ∷ []), goes-length h)
goes-length (elsewhere {taken = taken} frame found is fits h) =
    omega (arith, length-append taken (frame ∷ []), goes-length h)

-- to another FIFO or to none
pub passes_by : (banks : List BankValue) (fifo : ℕ) (slot : Option Intake) (taken : List FrameValue)
    (frame : FrameValue) (found : Option (ℕ × ℕ)) →
    IsFound banks frame found → fifo_of found ≢ Some fifo → SlotStands banks fifo slot taken →
    SlotStands banks fifo slot (taken ++ frame ∷ [])
passes_by banks fifo None taken frame found is other h = tt
passes_by banks fifo (Some intake) taken frame found is other h = record {
  offered = h.offered;
  goes = elsewhere frame found is other h.goes;
  stands = h.stands;
  numbered = h.numbered;
}

-- or to this one
pub comes_in : (banks : List BankValue) (fifo : ℕ) (old new : Option Intake) (taken : List FrameValue) (x : RxFrame) →
    IsNumbered banks fifo x →
    length (taken ++ x.frame ∷ []) < 18446744073709551616 → SlotOffers old new x → SlotStands banks fifo old taken →
    SlotStands banks fifo new (taken ++ x.frame ∷ [])
comes_in banks fifo None None taken x is few offers h = tt
comes_in banks fifo None (Some new) taken x is few offers h = absurd offers
comes_in banks fifo (Some old) None taken x is few offers h = absurd offers
comes_in banks fifo (Some old) (Some new) taken x is few offers h = record {
  offered = h.offered ++ x.frame ∷ [];
  goes = here x.frame (Some (fifo, x.filter_number)) is refl h.goes;
  stands = offers.0 h.offered (omega (arith, few, length-append taken (x.frame ∷ []), goes-length h.goes)) h.stands;
  numbered = elim offers.1 [
    | inl more ↦ subst (Each (IsNumbered banks fifo)) (sym more)
        (each-append (IsNumbered banks fifo) old.rxin.stored (x ∷ []) h.numbered (is, tt))
    | inr same ↦ subst (Each (IsNumbered banks fifo)) (sym same) h.numbered
  ];
}
