-- What comes to the receive FIFOs of a controller (RM0008, bxCAN, "Identifier filtering" and "Reception handling").
use Rattle.std.specs.Prelude.{map, ◌≡◌, ◌≢◌, ◌⊎◌, ℕ, suc, ◌+◌, ◌≤◌, Option, Some, None, List, [], ◌∷◌, ◌++◌, length}
use Rattle.can_frame.specs.Frames.{FrameValue}
use Rattle.bx_rx.specs.Bank.{BankValue}
use Rattle.bx_rx.specs.Banks.{IsFound}
use Rattle.bx_rx.specs.declared.rx_frame.RxFrame.{RxFrame}
use Rattle.bx_controller.specs.declared.intake.Intake.{Intake}

-- the frames among what a FIFO stored
abbrev pub frames_of : List RxFrame → List FrameValue
frames_of = map (λ x. x.frame)

-- the second list is the first without so many of its elements
pub data LeavesOut {X : Type 0} : List X → List X → ℕ → Type 0 where
  nothing : LeavesOut [] [] 0
  keeps : {xs ys : List X} {n : ℕ} (x : X) → LeavesOut xs ys n → LeavesOut (xs ++ x ∷ []) (ys ++ x ∷ []) n
  drops : {xs ys : List X} {n : ℕ} (x : X) → LeavesOut xs ys n → LeavesOut (xs ++ x ∷ []) ys (n + 1)

-- the FIFO that a filter belongs to, as the banks tell it
abbrev pub fifo_of : Option (ℕ × ℕ) → Option ℕ
fifo_of None = None
fifo_of (Some found) = Some found.0

-- the second list are those of the first whose chosen filter has this FIFO
pub data GoTo (banks : List BankValue) (fifo : ℕ) : List FrameValue → List FrameValue → Type 0 where
  nothing : GoTo banks fifo [] []
  here : {taken offered : List FrameValue} (frame : FrameValue) (found : Option (ℕ × ℕ)) → IsFound banks frame found →
      fifo_of found ≡ Some fifo →
      GoTo banks fifo taken offered → GoTo banks fifo (taken ++ frame ∷ []) (offered ++ frame ∷ [])
  elsewhere : {taken offered : List FrameValue} (frame : FrameValue) (found : Option (ℕ × ℕ)) →
      IsFound banks frame found → fifo_of found ≢ Some fifo →
      GoTo banks fifo taken offered → GoTo banks fifo (taken ++ frame ∷ []) offered

-- how many calls on a FIFO stored nothing
abbrev pub discards_in : List (Option RxFrame) → ℕ
discards_in [] = 0
discards_in (None ∷ calls) = suc (discards_in calls)
discards_in (Some x ∷ calls) = discards_in calls

-- one frame more is stored, or none
abbrev pub StoresAtMost : Intake → Intake → RxFrame → Type 0
StoresAtMost old new x = (new.rxin.stored ≡ old.rxin.stored ++ x ∷ []) ⊎ (new.rxin.stored ≡ old.rxin.stored)

-- it was offered these frames, each by a call of its own: what it stored is all of them but those it discarded, and it
-- discards only when full
pub record IntakeStands (intake : Intake) (offered : List FrameValue) : Type 0 where
  pub accepted_is : intake.accepted ≡ length offered
  pub asked : length intake.rxin.calls ≡ length offered
  pub overrun_is : intake.overrun ≡ discards_in intake.rxin.calls
  pub stored_is : LeavesOut offered (frames_of intake.rxin.stored) intake.overrun
  pub full : intake.overrun ≢ 0 → 3 ≤ length intake.rxin.stored
