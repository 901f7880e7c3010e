use Rattle.std.proofs.Common.{◌≡◌, ◌≤◌, false, arith, ◌∙◌}
use Rattle.std.proofs.lemmas.Bool.{or_parts}
use Rattle.std.proofs.lemmas.Option.{slice_get-get_or}
use Rattle.can_station.proofs.Places.{but_end, but_step}
use Rattle.can_station.proofs.PlaceSets.{but_start, each_end, each_set, each_start}
use Rattle.can_station.specs.Actions.{IsUneventful}
use Rattle.can_station.specs.Members.{NodeSamples}
use Rattle.can_station.specs.DeferredNodes.{IfActive}
use Rattle.can_station.proofs.members.sample_nodes.Goals as goal

pub loop-place-init : goal.loop-place-init
loop-place-init c = record {
  samples = but_start (NodeSamples c.args.first c.args.bit c.args.level c.args.faults.now) c.args.members.now
      c.args.active c.requires.active;
  uneventful = λ e. each_start (λ k m. m.is_deferred ≡ false → m.on ≤ c.args.bit → IsUneventful m.action)
      c.args.members.now
      c.args.active c.requires.active (λ k m is active on. absurd (cc (is, active)));
}

pub bounds-members-place : goal.bounds-members-place
bounds-members-place c =
    let less = c.loop-place.invariant.samples.within c.in-Some.place c.in-Some.ensures.some.0.has in
    omega (arith, less, c.loop-place.invariant.samples.size)

pub loop-place-preserved : goal.loop-place-preserved
loop-place-preserved c =
    let members = c.loop-place.members in
    let place = c.in-Some.place in
    let has = c.in-Some.ensures.some.0.has in
    let less = c.loop-place.invariant.samples.within place has in
    let found = slice_get-get_or members place c.index-members-place.result
    (omega (arith, less, c.loop-place.invariant.samples.size)) in
    let sample = c.sample-reported.ensures in
    record {
      samples = but_step (λ k. IfActive (NodeSamples c.args.first c.args.bit c.args.level c.args.faults.now k))
          c.args.members.now members c.loop-place.left c.take_first.new.self place _ c.sample-reported.new.self has
          c.in-Some.ensures.some.1 found
          (record {
            stays_deferred = sample.is_deferred;
            stays_active = λ e. sample.active ∙ e;
            steps = λ e. let samples = sample.member e in rw c.sampled_level-own.ensures at samples;
          })
          c.loop-place.invariant.samples;
      uneventful = λ e. let none = or_parts c.loop-place.reported c.sample-reported.result e in
          each_set (λ k m. m.is_deferred ≡ false → m.on ≤ c.args.bit → IsUneventful m.action) members c.loop-place.left
          c.take_first.new.self place c.sample-reported.new.self c.in-Some.ensures.some.1
          (omega (arith, less, c.loop-place.invariant.samples.size))
          (sample.uneventful none.1) (c.loop-place.invariant.uneventful none.0);
    }

pub returns-clause-samples : goal.returns-clause-samples
returns-clause-samples c =
    but_end (λ k. IfActive (NodeSamples c.args.first c.args.bit c.args.level c.args.faults.now k)) c.args.members.now
    c.loop-place.members c.loop-place.left c.in_default.ensures.none.0 c.loop-place.invariant.samples

pub returns-clause-uneventful : goal.returns-clause-uneventful
returns-clause-uneventful c e =
    each_end (λ k m. m.is_deferred ≡ false → m.on ≤ c.args.bit → IsUneventful m.action) c.loop-place.members
    c.loop-place.left
    c.in_default.ensures.none.0 (c.loop-place.invariant.uneventful e)
