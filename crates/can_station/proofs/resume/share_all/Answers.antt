use Rattle.std.proofs.Common.{arith}
use Rattle.std.proofs.lemmas.Bool.{or_parts}
use Rattle.std.proofs.lemmas.Option.{slice_get-get_or}
use Rattle.can_station.specs.DeferredNodes.{Shares, TellsNone}
use Rattle.can_station.proofs.Places.{places_step, places_end}
use Rattle.can_station.proofs.resume.share_all.Goals as goal

pub loop-place-preserved : goal.loop-place-preserved
loop-place-preserved c =
    let members = c.loop-place.members in
    let place = c.loop-place.place in
    let size = c.loop-place.invariant.shares.size in
    let found = slice_get-get_or members place c.index-members-place.result (omega (arith, c.loop-place-test.true)) in
    record {
      shares = places_step (λ k. Shares c.args.shared.now c.args.bit c.args.level) c.args.members.now members place _
          c.share-reported.new.self (omega (arith, c.loop-place-test.true, size)) found c.share-reported.ensures.shares
          c.loop-place.invariant.shares;
      uneventful = λ e. let none = or_parts c.loop-place.reported c.share-reported.result e in
          places_step (λ k. TellsNone) c.args.members.now members place _ c.share-reported.new.self
          (omega (arith, c.loop-place-test.true, size)) found (c.share-reported.ensures.uneventful none.1)
          (c.loop-place.invariant.uneventful none.0);
    }

pub returns-clause-shares : goal.returns-clause-shares
returns-clause-shares c =
    places_end (λ k. Shares c.args.shared.now c.args.bit c.args.level) c.args.members.now c.loop-place.members
    c.loop-place.place (omega (arith, c.loop-place-test.false, c.loop-place.invariant.shares.size))
    c.loop-place.invariant.shares

pub returns-clause-uneventful : goal.returns-clause-uneventful
returns-clause-uneventful c e =
    places_end (λ k. TellsNone) c.args.members.now c.loop-place.members c.loop-place.place
    (omega (arith, c.loop-place-test.false, c.loop-place.invariant.shares.size)) (c.loop-place.invariant.uneventful e)
