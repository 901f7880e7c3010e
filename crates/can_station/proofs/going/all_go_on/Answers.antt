use Rattle.std.proofs.Common.{◌≡◌, false, Some, ap, sym, ◌∙◌}
use Rattle.std.proofs.lemmas.Option.{slice_get-get_or}
use Rattle.can_station.specs.DeferredNodes.{MayGo}
use Rattle.can_station.proofs.PlaceSets.{each_end, each_start, each_step}
use Rattle.can_station.proofs.going.all_go_on.Goals as goal

pub loop-place-init : goal.loop-place-init
loop-place-init c = each_start (λ k m. m.is_deferred ≡ false → MayGo c.args.bit c.args.level m) c.args.members.now
    c.args.active c.requires (λ k m is active. absurd (cc (is, active)))

pub bounds-members-place : goal.bounds-members-place
bounds-members-place c = c.loop-place.invariant.within c.in-Some.place c.in-Some.ensures.some.0.has

pub loop-place-preserved : goal.loop-place-preserved
loop-place-preserved c =
    let members = c.args.members.now in
    let place = c.in-Some.place in
    let member = c.index-members-place.result in
    let less = c.loop-place.invariant.within place c.in-Some.ensures.some.0.has in
    each_step (λ k m. m.is_deferred ≡ false → MayGo c.args.bit c.args.level m) members c.loop-place.left
    c.take_first.new.self place member c.in-Some.ensures.some.1
    (slice_get-get_or members place member less ∙ ap (λ m. Some m) (sym c.index-members-place.is))
    (c.holds_up.ensures c.if-holds_up.false) c.loop-place.invariant

pub returns : goal.returns
returns c is =
    each_end (λ k m. m.is_deferred ≡ false → MayGo c.args.bit c.args.level m) c.args.members.now c.loop-place.left
    c.in_default.ensures.none.0 c.loop-place.invariant
