-- What a run has to show of a route, for the claims to follow.
use Rattle.std.specs.Prelude.{◌≡◌, ℕ, ◌+◌, ◌≤◌, List, [], ◌∷◌, ◌++◌, length, fold, Bool, if◌then◌else◌}
use Rattle.can_frame.specs.Frames.{FrameValue}
use Rattle.can_frame.specs.declared.rewrite.Rewrite.{Rewrite}
use Rattle.bx_core.specs.declared.entry.Entry.{Entry}
use Rattle.bx_core.specs.Lists.{Has}
use Rattle.bx_core.specs.Law.{IsRouteLawful}
use Rattle.bx_core.specs.States.{RouteLists, numbers}
use Rattle.gw_script.specs.declared.route_report.RouteReport.{RouteReport}
use Rattle.gw_ending.specs.Headline.{is_among, released}

-- one aborted number more: it counts where its request did not end otherwise, and where it is not there yet
abbrev pub settle : List ℕ → List ℕ → ℕ → List ℕ
settle ended so_far n = if is_among ended n then so_far else if is_among so_far n then so_far else so_far ++ n ∷ []

-- the numbers of a log that are not among those which ended otherwise, each once, in order
abbrev pub settled : List ℕ → List ℕ → List ℕ
settled ended logged = fold (settle ended) [] logged

-- under the room of the mailboxes that it leads into, the room of its hand, the mailboxes' priority and the route's new
-- identifiers: a route's report, the starts of its frames, and the links between FIFO, hand and mailboxes
pub record RouteLinked (room hand : ℕ) (txfp : Bool) (rewrites : List Rewrite) (r : RouteReport)
    (started : List Entry) : Type 0 where
  -- what the mailboxes keep of the route: its lists, and the numbers that wait
  pub lists : RouteLists
  pub waiting : List ℕ
  -- the frames in the hand
  pub in_hand : List Entry
  -- the numbers whose abort was asked, and those in the hand's log
  pub asked : List ℕ
  pub logged : List ℕ
  -- the frames that the FIFO stored, and those left in it
  pub stored : List FrameValue
  pub left : List FrameValue
  -- what was released was requested, but for the frames in the hand
  pub log : lists.requested ++ in_hand ≡ released rewrites r
  pub few_in_hand : length in_hand ≤ hand
  -- the mailboxes keep the core law, and what is completed is what they sent
  pub law : IsRouteLawful txfp lists waiting
  pub completed_is : r.completed.items ≡ lists.done
  -- the log has each number whose abort was answered, and only numbers that were requested
  pub ended : (n : ℕ) → Has lists.aborted n → Has logged n
  pub ask_logged : (n : ℕ) → Has asked n → Has logged n
  pub reaped_asked : (n : ℕ) → Has lists.reaped n → Has asked n
  pub known : (n : ℕ) → Has logged n → Has (numbers lists.requested) n
  pub aborted_is : r.aborted.items ≡ settled (numbers r.completed.items ++ waiting) logged
  -- each transmission that was started is one of a request
  pub starts : (e : Entry) → Has started e → Has lists.requested e
  -- what the FIFO stored was released or is left in it, and it stored all that it did not discard
  pub stored_is : stored ≡ r.released.items ++ left
  pub accepted_is : r.accepted ≡ length stored + r.overrun
  pub held_is : r.held ≡ length left + length in_hand + length waiting
  pub few_left : length left ≤ 3
  pub few_waiting : length waiting ≤ room
