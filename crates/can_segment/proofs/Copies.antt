-- What a run says of copies.
use Rattle.std.proofs.Common.{Bool, List}
use Rattle.can_node.proofs.ActiveErrors.{active_errors}
use Rattle.can_node.proofs.CompletedSends.{completed_taken, none_open}
use Rattle.can_station.specs.declared.event.Event.{Event}
use Rattle.can_station.specs.declared.plan.SegmentPlan.{SegmentPlan}
use Rattle.can_segment.specs.Traces.{Bit}
use Rattle.can_segment.specs.Runs.{Run}
use Rattle.can_segment.specs.Copies.{is_falsified, KeepsCopies, Copies}
use Rattle.can_segment.proofs.Attempts.{attempts_are_reported, ends_are_of_attempts}
use Rattle.can_segment.proofs.OneLine.{one_line}
use Rattle.can_segment.proofs.Requests.{requests_try_failures}
use Rattle.can_segment.proofs.Retries.{talkers_try_failures}

pub keeps_copies : {plan : SegmentPlan} {trace : List Bit} {levels : List Bool} {events : List Event} →
    Run plan trace levels events → KeepsCopies plan trace events
keeps_copies {plan = plan} run = record {
  errors = λ node other sender receiver start end last frame given kind s r attempt take fair.
      active_errors sender receiver (is_falsified plan node) (is_falsified plan other) start end last frame given kind
      (one_line node other sender receiver run s r) attempt take fair;
  completed = λ node other sender receiver start end last frame state outcome s r attempt sound take tells.
      completed_taken sender receiver (is_falsified plan node) (is_falsified plan other) start end last frame state
      outcome (one_line node other sender receiver run s r) attempt sound take tells;
  no_open = λ node other sender receiver start end frame state s r attempt sound take.
      none_open sender receiver (is_falsified plan node) (is_falsified plan other) start end frame state
      (one_line node other sender receiver run s r) attempt sound take;
  talkers = talkers_try_failures run;
  controllers = requests_try_failures run;
  reported = attempts_are_reported run;
  ends = ends_are_of_attempts run;
}

pub copies : (plan : SegmentPlan) (levels : List Bool) (events : List Event) → Copies plan levels events
copies plan levels events trace run = keeps_copies run
