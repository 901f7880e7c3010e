use Rattle.std.proofs.Common.{rules, ◌≡◌, ◌≤◌, ◌<◌, true, get_or, length, take}
use Rattle.std.proofs.Common.{arith, subst, sym, ◌∙◌}
use Rattle.std.proofs.lemmas.List.{length-take}
use Rattle.std.proofs.lemmas.Option.{slice_get-get_or}
use Rattle.can_station.specs.DeferredNodes.{GoesAsItMay, MayGoBy}
use Rattle.can_station.proofs.GoingBy.{by_taken}
use Rattle.can_station.proofs.Places.{same_some}
use Rattle.can_station.proofs.PlaceSets.{none_step}
use Rattle.can_segment.proofs.TransmitBursts.{sent_beside}
use Rattle.can_segment.proofs.transmit_burst.transmit_alone.Goals as goal

pub go_ahead_by-requires-clause-goes : goal.go_ahead_by-requires-clause-goes
go_ahead_by-requires-clause-goes c m e =
    let ahead = c.ahead-ahead.result.now in
    let count = c.reads_along_by-count.result in
    let few = c.reads_along_by-count.ensures.few in
    let some : 0 < length ahead = omega (arith, c.if-count-eq0.false, few) in
    let here = slice_get-get_or c.args.senders.now c.args.place c.index-senders-place.result c.requires.there in
    let may = subst (MayGoBy true c.len-made.result ahead) (same_some _ m (sym here ∙ e)) (c.ahead-ahead.ensures.may
    some) in (
      take count ahead,
      c.len-made.result,
      by_taken true c.len-made.result count ahead m may,
      omega (arith, length-take count ahead, few),
    )

pub go_ahead_by-requires-clause-room : goal.go_ahead_by-requires-clause-room
go_ahead_by-requires-clause-room c m e =
    let ahead = c.ahead-ahead.result.now in
    let few = c.reads_along_by-count.ensures.few in
    let some : 0 < length ahead = omega (arith, c.if-count-eq0.false, few) in
    let here = slice_get-get_or c.args.senders.now c.args.place c.index-senders-place.result c.requires.there in
    let may = subst (MayGoBy true c.len-made.result ahead) (same_some _ m (sym here ∙ e)) (c.ahead-ahead.ensures.may
    some) in
    let room = c.requires.sender_room c.args.place m e may.active (subst (λ n. m.on ≤ n) (search rules) may.is_on) in
    omega (arith, room.0, few, c.ahead-ahead.ensures.few)

pub returns : goal.returns
returns c =
    let made = c.args.levels.now.items in
    let ahead = c.ahead-ahead.result.now in
    let count = c.reads_along_by-count.result in
    let few = c.reads_along_by-count.ensures.few in
    let some : 0 < length ahead = omega (arith, c.if-count-eq0.false, few) in
    let sent = take count ahead in
    let at : c.len-made.result ≡ length made = search rules in
    let place = c.args.place in
    let senders = c.args.senders.now in
    let here = slice_get-get_or senders place c.index-senders-place.result c.requires.there in
    let sender = get_or senders place c.index-senders-place.result in
    let may = by_taken true (length made) count ahead sender
    (subst (λ n. MayGoBy true n ahead sender) at (c.ahead-ahead.ensures.may some)) in
    let size : length sent ≡ count = omega (arith, length-take count ahead, few) in (
      sent,
      omega (arith, size, few, c.ahead-ahead.ensures.few),
      c.extend_from_slice.ensures.items,
      λ others deferred. sent_beside place (length others) (length made) sent c.args.deferred.now
          c.reads_along_by-count.new.self senders c.go_ahead_by.new.members others others sender here (omega arith) may
          (λ k m e not active. absurd (let is = c.requires.others_deferred k m e not in cc (is, active)))
          (λ k m e not active. absurd (let is = deferred k m e in cc (is, active)))
          (c.go_ahead_by.ensures sent size) (none_step (GoesAsItMay sent) others deferred)
          c.reads_along_by-count.ensures.along,
    )
