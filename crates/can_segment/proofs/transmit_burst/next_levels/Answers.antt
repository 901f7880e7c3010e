use Rattle.std.proofs.Common.{◌≡◌, true, Some, slice_get, ap, sym, subst, ◌∙◌}
use Rattle.std.proofs.lemmas.Option.{slice_get-get_or, slice_get_within}
use Rattle.can_station.specs.DeferredNodes.{MayGoBy}
use Rattle.can_station.proofs.Places.{same_some}
use Rattle.can_segment.proofs.transmit_burst.next_levels.Goals as goal

pub returns-in-Some-clause-may : goal.returns-in-Some-clause-may
returns-in-Some-clause-may c some sender there =
    let senders = c.args.senders.now in
    let place = c.args.place in
    let member = c.in-Some.sender.now in
    let here : slice_get senders place ≡ Some member =
    slice_get-get_or senders place member (slice_get_within senders place sender there)
    ∙ ap (λ m. Some m) (sym c.in-Some.ensures.lookup.1) in
    subst (MayGoBy true c.args.bit c.ahead.result.now) (same_some member sender (sym here ∙ there))
    (c.ahead.ensures.may some)
