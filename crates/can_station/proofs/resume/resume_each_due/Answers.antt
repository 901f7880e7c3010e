use Rattle.std.proofs.Common.{get_or, arith, subst}
use Rattle.std.proofs.lemmas.Option.{slice_get-get_or}
use Rattle.can_station.specs.DeferredNodes.{ResumesDue}
use Rattle.can_station.specs.Queues.{IsNotDueBefore}
use Rattle.can_station.proofs.Places.{places_as, places_step, places_end}
use Rattle.can_station.proofs.Resuming.{resumes_due, resumes_sooner}
use Rattle.can_station.proofs.resume.resume_each_due.Goals as goal

pub loop-place-preserved : goal.loop-place-preserved
loop-place-preserved c =
    let members = c.loop-place.members in
    let place = c.loop-place.place in
    let step = ResumesDue c.args.shared_receiver.now c.args.bit c.min-next_due.result c.args.plan.now in
    let old = get_or members place c.index-members-place.result in
    let here = slice_get-get_or members place c.index-members-place.result
    (omega (arith, c.loop-place-test.true)) in
    let talker = get_or c.args.plan.now place c.index-plan-place.result in
    let there = slice_get-get_or c.args.plan.now place c.index-plan-place.result
    (omega (arith, c.loop-place-test.true, c.loop-place.invariant.0.size, c.requires.plan)) in
    let resumes = resumes_due c.args.shared_receiver.now c.args.bit c.resume_due.result c.args.plan.now place old
    c.resume_due.new.self talker there c.resume_due.ensures.resumes
    (λ is. subst (λ queue. IsNotDueBefore queue c.resume_due.new.self.station.completed c.resume_due.result)
    c.as_slice-queue.ensures.value (c.resume_due.ensures.not_due is)) in (
      places_step step c.args.members.now members place old c.resume_due.new.self
          (omega (arith, c.loop-place-test.true, c.loop-place.invariant.0.size)) here
          (resumes_sooner c.args.shared_receiver.now c.args.bit c.resume_due.result c.min-next_due.result c.args.plan.now
          (omega (arith, c.min-next_due.ensures)) place old c.resume_due.new.self resumes)
          (places_as (ResumesDue c.args.shared_receiver.now c.args.bit c.loop-place.next_due c.args.plan.now) step
          c.args.members.now members place (resumes_sooner c.args.shared_receiver.now c.args.bit c.loop-place.next_due c.min-next_due.result
          c.args.plan.now (omega (arith, c.min-next_due.ensures)))
          c.loop-place.invariant.0),
      omega (arith, c.min-next_due.ensures, c.resume_due.ensures.later, c.loop-place.invariant.1),
    )

pub returns-clause-resumes : goal.returns-clause-resumes
returns-clause-resumes c = places_end
    (ResumesDue c.args.shared_receiver.now c.args.bit c.loop-place.next_due c.args.plan.now) c.args.members.now
    c.loop-place.members c.loop-place.place (omega (arith, c.loop-place-test.false, c.loop-place.invariant.0.size))
    c.loop-place.invariant.0
