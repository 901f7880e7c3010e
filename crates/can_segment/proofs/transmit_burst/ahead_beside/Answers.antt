use Rattle.std.proofs.Common.{true, false, take, arith}
use Rattle.std.proofs.lemmas.List.{length-take}
use Rattle.can_station.proofs.GoingBy.{by_taken}
use Rattle.can_segment.proofs.TransmitBursts.{out_of_fewer, recessive_taken}
use Rattle.can_segment.proofs.transmit_burst.ahead_beside.Goals as goal

pub returns-clause-may : goal.returns-clause-may
returns-clause-may c some sender there =
    let ahead = c.next_levels-ahead.result.now in
    let n = c.all_stay_out-beside-2.result in
    by_taken true c.args.bit n ahead sender
    (c.next_levels-ahead.ensures.may (omega (arith, some, length-take n ahead)) sender there)

pub returns-clause-recessive : goal.returns-clause-recessive
returns-clause-recessive c none =
    recessive_taken c.all_stay_out-beside-2.result c.next_levels-ahead.result.now
    (c.next_levels-ahead.ensures.recessive none)

pub returns-clause-off : goal.returns-clause-off
returns-clause-off c some k m e not active =
    let ahead = c.next_levels-ahead.result.now in
    let first = c.all_stay_out-beside.result in
    let n = c.all_stay_out-beside-2.result in
    let few = c.all_stay_out-beside-2.ensures.few in
    out_of_fewer c.args.bit first n ahead m few
    (by_taken false c.args.bit n (take first ahead) m
    (c.all_stay_out-beside.ensures.off (omega (arith, some, few, length-take first ahead, length-take n ahead)) k m e
    not active))

pub returns-clause-off_too : goal.returns-clause-off_too
returns-clause-off_too c some k m e not active =
    let ahead = c.next_levels-ahead.result.now in
    let n = c.all_stay_out-beside-2.result in
    out_of_fewer c.args.bit c.all_stay_out-beside.result n ahead m c.all_stay_out-beside-2.ensures.few
    (c.all_stay_out-beside-2.ensures.off (omega (arith, some, length-take n ahead)) k m e not active)
