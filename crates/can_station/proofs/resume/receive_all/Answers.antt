use Rattle.std.proofs.Common.{arith}
use Rattle.std.proofs.lemmas.Option.{slice_get-get_or}
use Rattle.can_station.specs.DeferredNodes.{CountsReceived, KnowsDeferred}
use Rattle.can_station.proofs.Places.{places_as, places_end, places_step}
use Rattle.can_station.proofs.resume.receive_all.Goals as goal

pub loop-place-preserved : goal.loop-place-preserved
loop-place-preserved c =
    let members = c.loop-place.members in
    let place = c.loop-place.place in
    let old = c.args.members.now in
    let invariant = c.loop-place.invariant in
    let size = invariant.counts.size in
    let found = slice_get-get_or members place c.index-members-place.result (omega (arith, c.loop-place-test.true)) in
    record {
      counts = places_step (λ k. CountsReceived) old members place _ c.receive.new.self
          (omega (arith, c.loop-place-test.true, size)) found c.receive.ensures.counts invariant.counts;
      known = places_step (λ k. KnowsDeferred c.and-known.result) old members place _ c.receive.new.self
          (omega (arith, c.loop-place-test.true, size)) found
          (λ is. c.and-known.ensures.other _ (c.receive.ensures.known is))
          (places_as (λ k. KnowsDeferred c.loop-place.known) (λ k. KnowsDeferred c.and-known.result) old members place
          (λ k a b knows is. c.and-known.ensures.this _ (knows is)) invariant.known);
    }

pub returns-clause-counts : goal.returns-clause-counts
returns-clause-counts c =
    places_end (λ k. CountsReceived) c.args.members.now c.loop-place.members c.loop-place.place
    (omega (arith, c.loop-place-test.false, c.loop-place.invariant.counts.size)) c.loop-place.invariant.counts

pub returns-clause-known : goal.returns-clause-known
returns-clause-known c =
    places_end (λ k. KnowsDeferred c.loop-place.known) c.args.members.now c.loop-place.members c.loop-place.place
    (omega (arith, c.loop-place-test.false, c.loop-place.invariant.counts.size)) c.loop-place.invariant.known
