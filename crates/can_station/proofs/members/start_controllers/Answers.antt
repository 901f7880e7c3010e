use Rattle.std.proofs.Common.{arith, ◌∙◌}
use Rattle.std.proofs.lemmas.Option.{slice_get-get_or}
use Rattle.can_station.proofs.Places.{both_end, both_step}
use Rattle.can_station.proofs.PlaceSets.{both_start}
use Rattle.can_station.specs.Members.{PortStarts}
use Rattle.can_station.specs.DeferredNodes.{IfActiveBoth}
use Rattle.can_station.proofs.members.start_controllers.Goals as goal

pub loop-place-init : goal.loop-place-init
loop-place-init g c =
    both_start (λ k. PortStarts g.P.TxBus.bus_after g.P.TxBus.bus_asked g.P.TxBus.transmitting g.P.TxBus.bus_stays
    c.args.bit) c.args.members.now c.args.ports.now c.args.active c.requires.active

pub bounds-members-place : goal.bounds-members-place
bounds-members-place g c =
    let less = c.loop-place.invariant.within c.in-Some.place c.in-Some.ensures.some.0.has in
    omega (arith, less, c.loop-place.invariant.size)

pub bounds-ports-place : goal.bounds-ports-place
bounds-ports-place g c =
    let less = c.loop-place.invariant.within c.in-Some.place c.in-Some.ensures.some.0.has in
    omega (arith, less, c.loop-place.invariant.size_too, c.requires.size)

pub loop-place-preserved : goal.loop-place-preserved
loop-place-preserved g c =
    let members = c.loop-place.members in
    let ports = c.loop-place.ports in
    let place = c.in-Some.place in
    let has = c.in-Some.ensures.some.0.has in
    let less = c.loop-place.invariant.within place has in
    let found = slice_get-get_or members place c.index-members-place.result
    (omega (arith, less, c.loop-place.invariant.size)) in
    let there = slice_get-get_or ports place c.index-ports-place.result
    (omega (arith, less, c.loop-place.invariant.size_too, c.requires.size)) in
    let start = c.start_request.ensures in
    both_step
    (λ k. IfActiveBoth (PortStarts g.P.TxBus.bus_after g.P.TxBus.bus_asked g.P.TxBus.transmitting g.P.TxBus.bus_stays
    c.args.bit)) c.args.members.now members c.args.ports.now ports c.loop-place.left c.take_first.new.self place
    _ c.start_request.new.self _ c.start_request.new.port c.requires.size has c.in-Some.ensures.some.1 found there
    (record {
      stays_deferred = start.is_deferred;
      stays_active = λ e. start.active ∙ e;
      steps = λ e. record {
        member = start.member e;
        bus = start.bus e;
        undone = start.undone e;
        asks = start.asks e;
        transmits = start.transmits;
        stays_on = start.stays;
      };
    }) c.loop-place.invariant

pub returns : goal.returns
returns g c =
    both_end
    (λ k. IfActiveBoth (PortStarts g.P.TxBus.bus_after g.P.TxBus.bus_asked g.P.TxBus.transmitting g.P.TxBus.bus_stays
    c.args.bit)) c.args.members.now c.loop-place.members c.args.ports.now c.loop-place.ports
    c.loop-place.left c.in_default.ensures.none.0 c.loop-place.invariant
