-- A route at the end of a run, whatever the mailboxes were.
use Rattle.std.specs.Prelude.{◌≡◌, ◌≢◌, ℕ, ◌+◌, ◌≤◌, Bool, List, ◌++◌, length}
use Rattle.can_frame.specs.Frames.{FrameValue}
use Rattle.bx_core.specs.declared.entry.Entry.{Entry}
use Rattle.bx_core.specs.Lists.{Each, Has}
use Rattle.bx_core.specs.RouteTx.{RoutePast}
use Rattle.bx_core.specs.States.{numbers}
use Rattle.bx_core.specs.Stands.{entries_of, numbers_of}
use Rattle.bx_core.specs.Ties.{RouteTied}
use Rattle.bx_core.specs.TxBus.{BusPast}
use Rattle.bx_rx.specs.declared.rx_frame.RxFrame.{RxFrame}
use Rattle.bx_controller.specs.Intakes.{LeavesOut, IntakeStands}
use Rattle.bx_controller.specs.declared.intake.Intake.{Intake}
use Rattle.gw_route.specs.RouteHand.{HandValue, LogMatches, room_in}
use Rattle.gw_script.specs.declared.route_report.RouteReport.{RouteReport}
use Rattle.gw_ending.specs.Links.{RouteLinked, settled}

-- what a report says of the FIFO that was offered these frames: it accepted all of them, and what it stored, which is
-- what was released and what is left, is all of them but those that it discarded; what is left, three at most, is held
pub record TellsFifo (r : RouteReport) (offered : List FrameValue) : Type 0 where
  pub left : List FrameValue
  pub accepted_is : r.accepted ≡ length offered
  pub stored : LeavesOut offered (r.released.items ++ left) r.overrun
  pub full : r.overrun ≢ 0 → 3 ≤ length (r.released.items ++ left)
  pub few_left : length left ≤ 3
  pub left_held : length left ≤ r.held

-- the report of a route, whose parts were these, where these requests of it wait
pub record IsEndOf (r : RouteReport) (intake : Intake) (h : HandValue) (waiting : List Entry) : Type 0 where
  -- whatever the two sides of its mailboxes did, if that is tied together, and if the hand matches it
  pub linked : (room : ℕ) (txfp : Bool) (number : ℕ) (did : BusPast) (past : RoutePast) → length waiting ≤ room →
      RouteTied txfp number did past waiting →
      LogMatches h past → r.completed.items ≡ entries_of number did.done →
      RouteLinked room (room_in h.queue) txfp h.rewrites r (entries_of number did.started)
  -- and each request that was reaped counts as aborted
  pub reaped_too : (txfp : Bool) (number : ℕ) (did : BusPast) (past : RoutePast) →
      RouteTied txfp number did past waiting →
      LogMatches h past → r.completed.items ≡ entries_of number did.done →
      Each (Has r.aborted.items) (numbers_of number did.reaped)
  pub released_is : r.released.items ≡ h.released
  -- it was aborted where the log has it and it neither was sent nor waits
  pub aborted_is : r.aborted.items ≡ settled (numbers r.completed.items ++ numbers waiting) h.aborted
  -- held is what is left in the FIFO, in the hand, and in the mailboxes
  pub left : List RxFrame
  pub left_is : intake.rxin.stored ≡ h.out.released ++ left
  pub held_is : r.held ≡ length left + length h.in_hand + length waiting
  pub fifo : (offered : List FrameValue) → IntakeStands intake offered → TellsFifo r offered
