use Rattle.std.proofs.Common.{◌∙◌}
use Rattle.std.proofs.lemmas.Option.{slice_get-get_or}
use Rattle.can_station.specs.DeferredNodes.{GoesAsItMay}
use Rattle.can_station.proofs.PlaceSets.{lone_step}
use Rattle.can_station.proofs.going.go_ahead_by.Goals as goal

pub returns : goal.returns
returns c levels size =
    let members = c.args.members.now in
    let place = c.args.place in
    let here = slice_get-get_or members place c.index-members-place.result c.requires.there in
    let active = (c.requires.goes _ here).2.active in
    lone_step (GoesAsItMay levels) members place _ c.go_ahead_by.new.self c.requires.there c.requires.deferred here
    (record {
      stays_deferred = λ e. absurd (cc (active, e));
      stays_active = λ e. c.go_ahead_by.ensures.active ∙ e;
      steps = λ e. c.go_ahead_by.ensures.goes levels size;
    })
