use Rattle.std.proofs.Common.{◌≡◌, arith}
use Rattle.std.proofs.lemmas.Option.{slice_get-get_or}
use Rattle.can_station.specs.DeferredNodes.{resumed}
use Rattle.can_station.proofs.Places.{places_step, places_end}
use Rattle.can_station.proofs.resume.resume_each.Goals as goal

pub loop-place-preserved : goal.loop-place-preserved
loop-place-preserved c =
    let members = c.loop-place.members in
    let place = c.loop-place.place in
    places_step (λ k a b. b ≡ resumed c.args.shared_receiver.now c.args.bit a) c.args.members.now members place _
    c.resume.new.self
    (omega (arith, c.loop-place-test.true, c.loop-place.invariant.size))
    (slice_get-get_or members place c.index-members-place.result (omega (arith, c.loop-place-test.true)))
    c.resume.ensures c.loop-place.invariant

pub returns : goal.returns
returns c = places_end (λ k a b. b ≡ resumed c.args.shared_receiver.now c.args.bit a) c.args.members.now
    c.loop-place.members
    c.loop-place.place (omega (arith, c.loop-place-test.false, c.loop-place.invariant.size)) c.loop-place.invariant
