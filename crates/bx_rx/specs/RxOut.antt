-- The releasing side of a FIFO. RM0008, bxCAN, "Reception handling".
use Rattle.std.specs.Prelude.{◌≡◌, List, [], ◌∷◌, ◌++◌, Option, None, Some}
use Rattle.atomic_table.specs.Seated.{TableId}
use Rattle.crossbeam_queue.specs.Fifo.{Held}
use Rattle.bx_rx.specs.declared.rx_frame.RxFrame.{RxFrame}

-- which FIFO it belongs to, the frames that it released, and what each of its calls gave, the first one first
pub record Outlet : Type 0 where
  pub queue : TableId
  pub released : List RxFrame
  pub calls : List (Option RxFrame)

-- a call that gave a frame, and one that gave none
abbrev pub given : Outlet → RxFrame → Outlet
given out frame = record out { released = out.released ++ frame ∷ []; calls = out.calls ++ Some frame ∷ [] }

abbrev pub none_given : Outlet → Outlet
none_given out = record out { calls = out.calls ++ None ∷ [] }

-- these are what was stored behind the frames that were released
abbrev pub AreRestOf : List RxFrame → List RxFrame → Type 0
AreRestOf released held = (stored : List RxFrame) × (stored ≡ released ++ held)

-- At one moment the FIFO held no frame behind those released. That is as much as this side can know: it holds of some
-- list of what was stored.
abbrev pub WasEmpty : Outlet → Type 0
WasEmpty out = Held 0 (AreRestOf out.released)

-- One call more, with its answer: a frame is the last one released, and at None nothing is released, and the FIFO was
-- empty.
abbrev pub IsReleased : Outlet → Option RxFrame → Outlet → Type 0
IsReleased before (Some frame) after = after ≡ given before frame
IsReleased before None after = (after ≡ none_given before) × WasEmpty before
