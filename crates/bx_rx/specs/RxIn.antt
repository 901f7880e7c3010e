-- The offering side of a FIFO. RM0008, bxCAN, "Reception handling".
use Rattle.std.specs.Prelude.{◌≡◌, Option, Some, None, List, [], ◌∷◌, ◌++◌}
use Rattle.atomic_table.specs.Seated.{TableId}
use Rattle.crossbeam_queue.specs.Fifo.{Held}
use Rattle.bx_rx.specs.declared.rx_frame.RxFrame.{RxFrame}
use Rattle.bx_rx.specs.declared.offered.Offered.{Offered}
use Rattle.bx_rx.specs.declared.offered.Offered.TheVariants.{Stored, Overrun}

-- which FIFO it belongs to, the frames that it stored, and what each of its calls stored, the first one first
pub record Inlet : Type 0 where
  pub queue : TableId
  pub stored : List RxFrame
  pub calls : List (Option RxFrame)

-- a call that stored a frame, and one that stored none
abbrev pub put_in : Inlet → RxFrame → Inlet
put_in rxin frame = record rxin { stored = rxin.stored ++ frame ∷ []; calls = rxin.calls ++ Some frame ∷ [] }

abbrev pub none_put : Inlet → Inlet
none_put rxin = record rxin { calls = rxin.calls ++ None ∷ [] }

-- these are the last of the frames that were stored
abbrev pub AreLastOf : List RxFrame → List RxFrame → Type 0
AreLastOf stored held = (released : List RxFrame) × (stored ≡ released ++ held)

-- One call more, with its answer. Stored: the frame is the last one stored. Overrun: nothing is stored, and at one
-- moment of the call the FIFO held three frames, the last of those stored, as far as this side can know: `Held 3` says
-- that three were stored.
abbrev pub IsOffered : Inlet → RxFrame → Offered → Inlet → Type 0
IsOffered before frame Stored after = after ≡ put_in before frame
IsOffered before frame Overrun after = (after ≡ none_put before) × Held 3 (AreLastOf before.stored)
