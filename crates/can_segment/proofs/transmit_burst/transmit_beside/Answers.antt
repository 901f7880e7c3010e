use Rattle.std.proofs.Common.{rules, ◌≡◌, ◌≤◌, ◌<◌, true, take, length}
use Rattle.std.proofs.Common.{arith, subst, inl, inr}
use Rattle.std.proofs.lemmas.Bool.Decides.{leb_tells}
use Rattle.std.proofs.lemmas.List.{length-take}
use Rattle.can_station.specs.Places.{AtPlaces}
use Rattle.can_station.specs.DeferredNodes.{GoesAsItMay, IfActive, MayGoBy, OthersStayOut}
use Rattle.can_station.proofs.GoingBy.{by_taken}
use Rattle.can_station.proofs.Places.{some_there}
use Rattle.can_segment.proofs.TransmitBursts.{each_may, each_on, none_at, out_taken, recessive_taken, sent_beside}
use Rattle.can_segment.proofs.TransmitBursts.{waited_beside}
use Rattle.can_segment.proofs.transmit_burst.transmit_beside.Goals as goal

pub go_on_by-requires-clause-goes : goal.go_on_by-requires-clause-goes
go_on_by-requires-clause-goes c k m e active =
    let made = c.args.levels.now.items in
    let ahead = c.ahead_beside-ahead.result.now in
    let count = c.reads_along_by-count.result in
    let some : 0 < length ahead = omega (arith, c.if-count-eq0.false, c.reads_along_by-count.ensures.few) in
    let sent_is : c.as_slice.result.now ≡ take count ahead = search rules in
    rw sent_is
    (each_may c.args.place c.len-made.result count ahead c.args.senders.now (c.ahead_beside-ahead.ensures.may some)
    (c.ahead_beside-ahead.ensures.off some) k m e active)

pub go_on_by-requires-2-clause-goes : goal.go_on_by-requires-2-clause-goes
go_on_by-requires-2-clause-goes c k m e active =
    let made = c.args.levels.now.items in
    let ahead = c.ahead_beside-ahead.result.now in
    let count = c.reads_along_by-count.result in
    let some : 0 < length ahead = omega (arith, c.if-count-eq0.false, c.reads_along_by-count.ensures.few) in
    let sent_is : c.as_slice-2.result.now ≡ take count ahead = search rules in
    rw sent_is
    (each_may (length c.args.others.now) c.len-made.result count ahead c.args.others.now
    (none_at c.args.others.now c.len-made.result ahead) (c.ahead_beside-ahead.ensures.off_too some) k m e active)

pub go_on_by-requires-clause-room : goal.go_on_by-requires-clause-room
go_on_by-requires-clause-room c k m e active =
    let made = c.args.levels.now.items in
    let ahead = c.ahead_beside-ahead.result.now in
    let count = c.reads_along_by-count.result in
    let some : 0 < length ahead = omega (arith, c.if-count-eq0.false, c.reads_along_by-count.ensures.few) in
    let sent_is : c.as_slice.result.now ≡ take count ahead = search rules in
    let on = each_on c.args.place c.len-made.result ahead c.args.senders.now (c.ahead_beside-ahead.ensures.may some)
    (c.ahead_beside-ahead.ensures.off some) k m e active in
    let room = c.requires.sender_room k m e active (subst (λ n. m.on ≤ n) (search rules) on) in
    rw sent_is (omega (arith, room.0, length-take count ahead, c.ahead_beside-ahead.ensures.few))

pub go_on_by-requires-2-clause-room : goal.go_on_by-requires-2-clause-room
go_on_by-requires-2-clause-room c k m e active =
    let made = c.args.levels.now.items in
    let ahead = c.ahead_beside-ahead.result.now in
    let count = c.reads_along_by-count.result in
    let some : 0 < length ahead = omega (arith, c.if-count-eq0.false, c.reads_along_by-count.ensures.few) in
    let sent_is : c.as_slice-2.result.now ≡ take count ahead = search rules in
    let on = each_on (length c.args.others.now) c.len-made.result ahead c.args.others.now
    (none_at c.args.others.now c.len-made.result ahead) (c.ahead_beside-ahead.ensures.off_too some) k m e active in
    let room = c.requires.room k m e active (subst (λ n. m.on ≤ n) (search rules) on) in
    rw sent_is (omega (arith, room.0, length-take count ahead, c.ahead_beside-ahead.ensures.few))

pub returns : goal.returns
returns c =
    let made = c.args.levels.now.items in
    let ahead = c.ahead_beside-ahead.result.now in
    let count = c.reads_along_by-count.result in
    let some : 0 < length ahead = omega (arith, c.if-count-eq0.false, c.reads_along_by-count.ensures.few) in
    let sent_is : c.as_slice.result.now ≡ take count ahead = search rules in
    let sent_is_too : c.as_slice-2.result.now ≡ take count ahead = search rules in
    let sent = take count ahead in
    let at : c.len-made.result ≡ length made = search rules in
    let place = c.args.place in
    let senders = c.args.senders.now in
    let others = c.args.others.now in
    let after = c.reads_along_by-count.new.self in
    let go = subst (λ ls. AtPlaces (λ k. IfActive (GoesAsItMay ls)) senders c.go_on_by.new.members) sent_is
    c.go_on_by.ensures in
    let go_too = subst (λ ls. AtPlaces (λ k. IfActive (GoesAsItMay ls)) others c.go_on_by-2.new.members) sent_is_too
    c.go_on_by-2.ensures in
    let off = out_taken place (length made) count ahead senders
    (subst (λ n. OthersStayOut place n ahead senders) at (c.ahead_beside-ahead.ensures.off some)) in
    let off_too = out_taken (length others) (length made) count ahead others
    (subst (λ n. OthersStayOut (length others) n ahead others) at (c.ahead_beside-ahead.ensures.off_too some)) in (
      sent,
      omega (arith, length-take count ahead, c.ahead_beside-ahead.ensures.few),
      c.extend_from_slice.ensures.items,
      elim (leb_tells (length senders) place) [
        | inl none ↦ waited_beside place (length others) (length made) sent c.args.deferred.now after senders
            c.go_on_by.new.members others c.go_on_by-2.new.members
            (recessive_taken count ahead (c.ahead_beside-ahead.ensures.recessive none.1)) none.1 (omega arith) off
            off_too go go_too c.reads_along_by-count.ensures.along
        | inr there ↦
            let sender = some_there senders place (let within = there.1 in omega (arith, within)) in
            let may = by_taken true (length made) count ahead sender.0
            (subst (λ n. MayGoBy true n ahead sender.0) at
            (c.ahead_beside-ahead.ensures.may some sender.0 sender.1)) in
            sent_beside place (length others) (length made) sent c.args.deferred.now after senders
            c.go_on_by.new.members others c.go_on_by-2.new.members sender.0 sender.1 (omega arith) may off off_too go
            go_too c.reads_along_by-count.ensures.along
      ],
    )
