-- A route's hand, between a receive FIFO and the transmit mailboxes of two controllers (RM0008, bxCAN,
-- "Reception handling" and "Transmission handling").
use Rattle.std.specs.Prelude.{◌≡◌, ℕ, ◌+◌, ◌≤◌, List, [], ◌∷◌, ◌++◌, length, map, Option, Some, None, option_to_list}
use Rattle.can_frame.specs.Frames.{FrameValue}
use Rattle.can_frame.specs.Rewrites.{rewritten}
use Rattle.can_frame.specs.declared.rewrite.Rewrite.{Rewrite}
use Rattle.bx_core.specs.declared.entry.Entry.{Entry}
use Rattle.bx_core.specs.Lists.{Has}
use Rattle.bx_core.specs.States.{numbers}
use Rattle.bx_core.specs.Steps.{greatest_number}
use Rattle.bx_core.specs.RouteTx.{RoutePast}
use Rattle.bx_rx.specs.RxOut.{Outlet}
use Rattle.bx_rx.specs.declared.rx_frame.RxFrame.{RxFrame}
use Rattle.gw_route.specs.declared.route_abort.RouteAbort.{RouteAbort}
use Rattle.gw_route.specs.declared.route_hand.RouteHand.{RouteHand}

-- what a hand holds
pub record HandValue : Type 0 where
  -- the FIFO, and what it released
  pub out : Outlet
  -- the frames in the hand, which were released and numbered, the next one to be requested first
  pub in_hand : List Entry
  -- the size of its queue: how many frames it takes out of the FIFO before turns are made; none where a turn takes one
  pub queue : Option ℕ
  -- the number that was given out last
  pub tickets : ℕ
  pub turns : ℕ
  -- the aborts still to do
  pub aborts : List RouteAbort
  -- the log: the frames that were released, and the numbers that were aborted
  pub released : List FrameValue
  pub aborted : List ℕ
  -- the new identifiers under which frames are requested
  pub rewrites : List Rewrite

abbrev pub hand_value : RouteHand → HandValue
hand_value h = record {
  out = h.out;
  in_hand = option_to_list h.hand ++ h.queued.items;
  queue = h.queue;
  tickets = h.tickets;
  turns = h.turns;
  aborts = h.aborts.items;
  released = h.log.released.items;
  aborted = h.log.aborted.items;
  rewrites = h.rewrites.items;
}

-- a hand that made no turn
abbrev pub new_hand : Outlet → Option ℕ → List RouteAbort → List Rewrite → HandValue
new_hand out queue aborts rewrites = record {
  out = out;
  in_hand = [];
  queue = queue;
  tickets = 0;
  turns = 0;
  aborts = aborts;
  released = [];
  aborted = [];
  rewrites = rewrites;
}

-- how many frames it may hold: as many as its queue's size, and one without a queue
abbrev pub room_in : Option ℕ → ℕ
room_in None = 1
room_in (Some size) = size

-- a queue has room for 1 to 1,024 frames
abbrev pub IsQueueSize : ℕ → Type 0
IsQueueSize size = (1 ≤ size) × (size ≤ 1024)

-- the frames among what a FIFO released
abbrev pub frames_of : List RxFrame → List FrameValue
frames_of = map (λ (x : RxFrame). x.frame)

-- the log's frames are what the FIFO released, in order
abbrev pub LogsReleased : HandValue → Type 0
LogsReleased h = h.released ≡ frames_of h.out.released

-- the log's frames as they are requested: under their new identifiers
abbrev pub as_requested : HandValue → List FrameValue
as_requested h = map (rewritten h.rewrites) h.released

-- the next frame, with its number and its new identifier
abbrev pub entry_of : HandValue → FrameValue → Entry
entry_of h frame = record { number = h.tickets + 1; frame = rewritten h.rewrites frame }

-- frames with their numbers, which go up by one from the first
abbrev pub numbered : ℕ → List FrameValue → List Entry
numbered number [] = []
numbered number (f ∷ fs) = record { number = number; frame = f } ∷ numbered (number + 1) fs

-- The link between a hand and what its route's side of the mailboxes did.
pub record LogMatches (h : HandValue) (past : RoutePast) : Type 0 where
  -- requested is the log's frames, under their new identifiers and with their numbers, but for the frames in the hand
  pub log : past.requested ++ h.in_hand ≡ numbered 1 (as_requested h)
  pub few_held : length h.in_hand ≤ room_in h.queue
  pub room : IsQueueSize (room_in h.queue)
  pub tickets_is : h.tickets ≡ length h.released
  pub limit : length past.requested ≤ greatest_number
  -- the log's aborted numbers hold those answered Ended and Asked, and all of them were requested
  pub ended : (n : ℕ) → Has past.aborted n → Has h.aborted n
  pub asked : (n : ℕ) → Has past.asked n → Has h.aborted n
  pub known : (n : ℕ) → Has h.aborted n → Has (numbers past.requested) n

-- the route's side may have done something that the hand matches
abbrev pub IsLinked : (RoutePast → Type 0) → HandValue → Type 0
IsLinked after h = (past : RoutePast) × (after past) × LogMatches h past

-- it matches something that the route's side may have done
abbrev pub HasPast : HandValue → Type 0
HasPast h = (past : RoutePast) × LogMatches h past

-- it takes from the same FIFO, and its queue's size and its new identifiers are the same
abbrev pub IsTied : RouteHand → RouteHand → Type 0
IsTied old new = (new.out.queue ≡ old.out.queue) × (new.queue ≡ old.queue) × (new.rewrites ≡ old.rewrites)
