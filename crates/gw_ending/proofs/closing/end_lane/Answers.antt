use Rattle.std.proofs.Common.{◌∙◌, sym, ap, subst, length, ◌+◌}
use Rattle.bx_core.specs.Stands.{entries_of}
use Rattle.bx_core.specs.Ties.{left_of}
use Rattle.can_segment.specs.Brought.{all_in, sent_in, kinds_of}
use Rattle.can_segment.specs.Segments.{SegmentValue}
use Rattle.can_station.proofs.Places.{same_some}
use Rattle.gw_route.specs.RouteHand.{hand_value}
use Rattle.gw_opening.proofs.Changes.{mail_after}
use Rattle.gw_ending.specs.Ends.{IsEndOf}
use Rattle.gw_ending.specs.Finals.{EndsLane}
use Rattle.gw_ending.specs.declared.closed.Closed.{Closed}
use Rattle.gw_ending.proofs.Closes.{segment_after, few_taken, talkers_taken, if_ok_both}
use Rattle.gw_ending.proofs.closing.end_lane.Goals as goal

pub end_hand-requires-clause-there : goal.end_hand-requires-clause-there
end_hand-requires-clause-there g c =
    let late = mail_after c.args.lane.fifo _ c.args.sites.now c.take-intake.new.sites c.args.lane.source
    c.take-intake.ensures.sets c.args.lane.target c.requires.there.0 c.requires.there.1 in
    (late.0, late.1)

pub end_hand-requires-clause-talkers : goal.end_hand-requires-clause-talkers
end_hand-requires-clause-talkers g c = talkers_taken c.args.lane.fifo c.args.sites.now c.take-intake.new.sites
    c.args.lane.source c.take-intake.ensures.sets c.args.lane.target c.args.talkers c.requires.talkers

pub end_hand-requires-clause-room : goal.end_hand-requires-clause-room
end_hand-requires-clause-room g c = few_taken 12 c.args.lane.fifo c.args.sites.now c.take-intake.new.sites
    c.args.lane.source c.take-intake.ensures.sets c.requires.room

pub returns-clause-ends : goal.returns-clause-ends
returns-clause-ends g c =
    let takes = c.requires.takes in
    let h = hand_value c.args.lane.hand in
    let number = c.args.lane.number in
    let sites = c.args.sites.now in
    let new = c.take-intake.new.sites in
    let target = c.args.lane.target in
    let sets = c.take-intake.ensures.sets in
    let intake = same_some c.take-intake.result takes.takes.intake
    (sym (c.take-intake.ensures.was takes.from takes.from_is) ∙ takes.takes.slot_is) in
    if_ok_both c.end_hand.result _ _ (EndsLane sites c.args.lane) (λ r ends completed. record {
      from = takes.from;
      from_is = takes.from_is;
      takes = takes.takes;
      end_is = λ to to_is.
          let late = mail_after c.args.lane.fifo _ sites new c.args.lane.source sets target to to_is in
          subst (λ i. IsEndOf r i h (left_of number to.mail.left.items)) intake
          (subst (λ (m : Closed). IsEndOf r c.take-intake.result h (left_of number m.left.items)) late.2
          (ends late.0 late.1));
      completed_is = λ to to_is.
          let late = mail_after c.args.lane.fifo _ sites new c.args.lane.source sets target to to_is in
          completed late.0 late.1
          ∙ ap (λ (v : SegmentValue). entries_of number
          (all_in sent_in (kinds_of (length v.plan.talkers.items + target.port) v.events)))
          (segment_after c.args.lane.fifo sites new c.args.lane.source sets target to late.0 to_is late.1);
    }) c.end_hand.ensures.ends c.end_hand.ensures.completed
