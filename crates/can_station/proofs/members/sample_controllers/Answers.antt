use Rattle.std.proofs.Common.{◌+◌, arith}
use Rattle.std.proofs.lemmas.Option.{slice_get_within}
use Rattle.can_station.specs.Faults.{sampled_level}
use Rattle.can_station.proofs.Places.{both_end, some_there}
use Rattle.can_station.proofs.PlaceSets.{both_start, deferred_outside, within_places}
use Rattle.can_station.proofs.Settles.{uneventful_both, settles_both, unsettled_active}
use Rattle.can_station.proofs.members.sample_controllers.Goals as goal

pub returns-then-is_empty-clause-settles : goal.returns-then-is_empty-clause-settles
returns-then-is_empty-clause-settles g c =
    both_end _ c.args.members.now c.args.members.now c.args.ports.now c.args.ports.now c.args.active
    (c.is_empty.ensures.none c.if-is_empty.true)
    (both_start _ c.args.members.now c.args.ports.now c.args.active c.requires.active)

pub returns-then-is_empty-clause-uneventful : goal.returns-then-is_empty-clause-uneventful
returns-then-is_empty-clause-uneventful g c none k m e active =
    absurd (let is_deferred = deferred_outside c.args.active c.args.members.now k m c.requires.active e
    (c.is_empty.ensures.none c.if-is_empty.true k) in cc (is_deferred, active))

pub settle_ports-requires-clause-active : goal.settle_ports-requires-clause-active
settle_ports-requires-clause-active g c = within_places _ c.args.active c.args.members.now
    c.sample_nodes-reported.new.members
    c.sample_nodes-reported.ensures.samples c.requires.active

pub settle_ports-requires-clause-unsettled : goal.settle_ports-requires-clause-unsettled
settle_ports-requires-clause-unsettled g c k m p e f active =
    let samples = c.sample_nodes-reported.ensures.samples in
    let within = slice_get_within c.sample_nodes-reported.new.members k m e in
    let old = some_there c.args.members.now k (omega (arith, within, samples.size)) in
    unsettled_active (g.P.TxBus.transmitting p) c.args.bit
    (sampled_level c.args.faults.now (c.args.first + k) c.args.bit c.args.level) old.0 m
    (c.requires.port k old.0 p old.1 f) (samples.at k old.0 m old.1 e) active

pub returns-clause-settles : goal.returns-clause-settles
returns-clause-settles g c =
    let samples = c.sample_nodes-reported.ensures.samples in
    let settles = c.settle_ports.ensures in
    record {
      at = λ k a b p q ea eb ep eq.
          let within = slice_get_within c.args.members.now k a ea in
          let mid = some_there c.sample_nodes-reported.new.members k (omega (arith, within, samples.size)) in
          settles_both g.P.TxBus.bus_after g.P.TxBus.bus_asked g.P.TxBus.transmitting g.P.RxSink.sink_after
          g.P.RxSink.port_stays c.args.bit (sampled_level c.args.faults.now
          (c.args.first + k) c.args.bit c.args.level) a mid.0 b p q
          (samples.at k a mid.0 ea mid.1) (settles.at k mid.0 b p q mid.1 eb ep eq);
      size = omega (arith, samples.size, settles.size);
      size_too = settles.size_too;
    }

pub returns-clause-uneventful : goal.returns-clause-uneventful
returns-clause-uneventful g c none k m e active =
    let settles = c.settle_ports.ensures in
    let within = slice_get_within c.settle_ports.new.members k m e in
    let mid = some_there c.sample_nodes-reported.new.members k (omega (arith, within, settles.size)) in
    let from = some_there c.args.ports.now k
    (omega (arith, within, settles.size, c.sample_nodes-reported.ensures.samples.size, c.requires.size)) in
    let to = some_there c.settle_ports.new.ports k
    (omega (
      arith,
      within,
      settles.size,
      settles.size_too,
      c.sample_nodes-reported.ensures.samples.size,
      c.requires.size,
    )) in
    uneventful_both g.P.TxBus.bus_after g.P.TxBus.bus_asked g.P.TxBus.transmitting g.P.RxSink.sink_after
    g.P.RxSink.port_stays c.args.bit mid.0 m from.0 to.0 (settles.at k mid.0 m from.0 to.0 mid.1 e from.1 to.1)
    (c.sample_nodes-reported.ensures.uneventful none k mid.0 mid.1) active
