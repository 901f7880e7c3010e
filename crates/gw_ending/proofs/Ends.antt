-- What a route's parts make of its report.
use Rattle.std.proofs.Common.{◌≡◌, ℕ, ◌+◌, ◌≤◌, inl, inr, List, ◌++◌, length, map, sym, ap, subst, arith, ◌∙◌}
use Rattle.std.proofs.lemmas.List.{map-append, length-map}
use Rattle.can_frame.specs.Frames.{FrameValue}
use Rattle.can_frame.specs.Rewrites.{rewritten}
use Rattle.bx_core.specs.declared.entry.Entry.{Entry}
use Rattle.bx_core.specs.Lists.{Each, Has}
use Rattle.bx_core.specs.RouteTx.{RoutePast}
use Rattle.bx_core.specs.States.{numbers}
use Rattle.bx_core.specs.Stands.{entries_of}
use Rattle.bx_core.specs.Ties.{RouteTied}
use Rattle.bx_core.specs.TxBus.{BusPast}
use Rattle.bx_rx.specs.declared.rx_frame.RxFrame.{RxFrame}
use Rattle.bx_controller.specs.Intakes.{LeavesOut, IntakeStands}
use Rattle.bx_controller.specs.declared.intake.Intake.{Intake}
use Rattle.bx_controller.proofs.Intakes.{left-length}
use Rattle.gw_route.specs.RouteHand.{HandValue, LogMatches, LogsReleased, frames_of, numbered, room_in}
use Rattle.gw_script.specs.declared.route_report.RouteReport.{RouteReport}
use Rattle.gw_ending.specs.Ends.{IsEndOf}
use Rattle.gw_ending.specs.Links.{settled, RouteLinked}
use Rattle.gw_ending.proofs.Links.{reaped_aborted}

-- the parts of a route at the end, and its report
pub record Parts (r : RouteReport) (intake : Intake) (h : HandValue) (waiting : List ℕ)
    (left : List RxFrame) : Type 0 where
  pub log : LogsReleased h
  pub offered : List FrameValue
  pub offers : IntakeStands intake offered
  pub accepted_is : r.accepted ≡ intake.accepted
  pub overrun_is : r.overrun ≡ intake.overrun
  pub held_is : r.held ≡ length left + length h.in_hand + length waiting
  pub released_is : r.released.items ≡ h.released
  pub aborted_is : r.aborted.items ≡ settled (numbers r.completed.items ++ waiting) h.aborted
  pub stored_is : intake.rxin.stored ≡ h.out.released ++ left
  pub few_left : length left ≤ 3

stored_frames : (r : RouteReport) (intake : Intake) (h : HandValue) (waiting : List ℕ) (left : List RxFrame) →
    Parts r intake h waiting left → frames_of intake.rxin.stored ≡ r.released.items ++ frames_of left
stored_frames r intake h waiting left p =
    ap frames_of p.stored_is ∙ map-append (λ (x : RxFrame). x.frame) h.out.released left
    ∙ ap (λ fs. fs ++ frames_of left) (sym p.log ∙ sym p.released_is)

links : (r : RouteReport) (intake : Intake) (h : HandValue) (waiting : List Entry) (left : List RxFrame) →
    Parts r intake h (numbers waiting) left →
    (room : ℕ) (txfp : _) (number : ℕ) (did : BusPast) (past : RoutePast) → length waiting ≤ room →
    RouteTied txfp number did past waiting → LogMatches h past →
    r.completed.items ≡ entries_of number did.done → RouteLinked room (room_in h.queue) txfp h.rewrites r (entries_of number did.started)
links r intake h waiting left p room txfp number did past few tied matches completed =
    record {
      lists = tied.lists;
      waiting = numbers waiting;
      in_hand = h.in_hand;
      asked = past.asked;
      logged = h.aborted;
      stored = frames_of intake.rxin.stored;
      left = frames_of left;
      log = ap (λ es. es ++ h.in_hand) tied.requested_is ∙ matches.log
          ∙ ap (λ fs. numbered 1 (map (rewritten h.rewrites) fs)) (sym p.released_is);
      few_in_hand = matches.few_held;
      law = tied.law;
      completed_is = completed ∙ sym tied.done_is;
      ended = λ n has. elim (tied.ended n has) [ inl now ↦ matches.ended n now | inr later ↦ matches.asked n later ];
      ask_logged = matches.asked;
      reaped_asked = tied.reaped_asked;
      known = λ n has. subst (λ es. Has (numbers es) n) (sym tied.requested_is) (matches.known n has);
      aborted_is = p.aborted_is;
      starts = λ e has. subst (λ es. Has es e) (sym tied.requested_is) (tied.starts e has);
      stored_is = stored_frames r intake h (numbers waiting) left p;
      accepted_is = omega (arith, p.accepted_is, p.overrun_is, p.offers.accepted_is, left-length p.offers.stored_is);
      held_is = omega (arith, p.held_is, length-map left (λ (x : RxFrame). x.frame));
      few_left = omega (arith, p.few_left, length-map left (λ (x : RxFrame). x.frame));
      few_waiting = omega (arith, few, length-map waiting (λ (e : Entry). e.number));
    }

ends_by : (r : RouteReport) (intake : Intake) (h : HandValue) (waiting : List Entry) (left : List RxFrame) →
    Parts r intake h (numbers waiting) left → IsEndOf r intake h waiting
unfolding links
ends_by r intake h waiting left p =
    let stored = stored_frames r intake h (numbers waiting) left p in
    record {
      linked = links r intake h waiting left p;
      reaped_too = λ txfp number did past tied matches completed. subst (Each (Has r.aborted.items)) tied.reaped_is
          (reaped_aborted txfp h.rewrites r (entries_of number did.started)
          (links r intake h waiting left p (length waiting) txfp number did past
          (omega arith) tied matches completed));
      released_is = p.released_is;
      aborted_is = p.aborted_is;
      left = left;
      left_is = p.stored_is;
      held_is = omega (arith, p.held_is, length-map waiting (λ (e : Entry). e.number));
      fifo = λ offered stands. record {
        left = frames_of left;
        accepted_is = p.accepted_is ∙ stands.accepted_is;
        stored = subst (λ n. LeavesOut offered (r.released.items ++ frames_of left) n) (sym p.overrun_is)
            (subst (λ fs. LeavesOut offered fs intake.overrun) stored stands.stored_is);
        full = λ ne. (let three = stands.full (λ e. ne (p.overrun_is ∙ e)) in
            omega (arith, three, ap length stored, length-map intake.rxin.stored (λ (x : RxFrame). x.frame)));
        few_left = omega (arith, p.few_left, length-map left (λ (x : RxFrame). x.frame));
        left_held = omega (arith, p.held_is, length-map left (λ (x : RxFrame). x.frame));
      };
    }

-- whichever requests have these numbers
pub ends : (r : RouteReport) (intake : Intake) (h : HandValue) (numbers_left : List ℕ) (left : List RxFrame) →
    Parts r intake h numbers_left left → (waiting : List Entry) → numbers waiting ≡ numbers_left →
    IsEndOf r intake h waiting
ends r intake h numbers_left left p waiting is =
    ends_by r intake h waiting left (subst (λ ns. Parts r intake h ns left) (sym is) p)
