use Rattle.std.proofs.Common.{◌≡◌, ◌+◌, ◌||◌, length, sym, subst, ◌∙◌}
use Rattle.std.proofs.lemmas.Bool.{or_parts}
use Rattle.can_station.specs.Faults.{sampled_level}
use Rattle.can_station.specs.Members.{PortSettles}
use Rattle.can_station.specs.Places.{AtBoth}
use Rattle.can_station.specs.DeferredNodes.{HasRoom, TransmitsAll}
use Rattle.can_segment.specs.DeferredState.{materialized}
use Rattle.can_segment.proofs.Holds.{left_active}
use Rattle.can_segment.proofs.DeferredState.{controllers_sample, room_real, transmits_real}
use Rattle.can_segment.proofs.Sharing.{all_share, all_resumed_same, active_uneventful, completed_room, none_left}
use Rattle.can_segment.proofs.Sharing.{shared_uneventful}
use Rattle.can_segment.proofs.Resumed.{all_resumed, left_both, left_places}
use Rattle.can_segment.proofs.shared_sample.sample_together.Goals as goal

pub sample_nodes-active_reported-requires-clause-room : goal.sample_nodes-active_reported-requires-clause-room
sample_nodes-active_reported-requires-clause-room g c =
    room_real _ c.args.deferred.now c.args.bit c.args.talkers.now c.requires.talker_room

pub share_all-deferred_reported-requires-clause-room : goal.share_all-deferred_reported-requires-clause-room
share_all-deferred_reported-requires-clause-room g c =
    completed_room _ c.args.deferred.now c.args.bit c.args.talkers.now c.sample_nodes-active_reported.new.members
    (left_places _ c.args.talkers.now c.sample_nodes-active_reported.new.members c.sample_nodes-active_reported.ensures.samples)
    c.requires.any_deferred c.requires.talker_room

pub sample_controllers-controllers_reported-requires-clause-room :
    goal.sample_controllers-controllers_reported-requires-clause-room
sample_controllers-controllers_reported-requires-clause-room g c =
    let deferred = c.args.deferred.now in
    let same = all_resumed_same deferred c.args.bit c.args.controllers.now c.resume_each.new.members
    c.resume_each.ensures in
    room_real _ deferred c.args.bit c.resume_each.new.members (subst (HasRoom _ c.args.bit) (sym same) c.requires.room)

pub sample_controllers-controllers_reported-requires-clause-port :
    goal.sample_controllers-controllers_reported-requires-clause-port
sample_controllers-controllers_reported-requires-clause-port g c =
    let deferred = c.args.deferred.now in
    let same = all_resumed_same deferred c.args.bit c.args.controllers.now c.resume_each.new.members
    c.resume_each.ensures in
    transmits_real g.P.TxBus.transmitting deferred c.args.bit c.resume_each.new.members c.args.ports.now
    (subst (λ ms. TransmitsAll g.P.TxBus.transmitting ms c.args.ports.now) (sym same) c.requires.port)

pub returns-clause-talkers : goal.returns-clause-talkers
returns-clause-talkers g c =
    all_share c.args.deferred.now c.end.new.self c.args.bit c.args.level c.args.shared.now c.args.faults.now
    c.args.talkers.now c.sample_nodes-active_reported.new.members c.share_all-deferred_reported.new.members c.requires.shares
    c.requires.any_deferred c.requires.unfaulted c.sample_nodes-active_reported.ensures.samples
    c.share_all-deferred_reported.ensures.shares

pub returns-clause-controllers : goal.returns-clause-controllers
returns-clause-controllers g c =
    let before = c.args.deferred.now in
    let after = c.end.new.self in
    let bit = c.args.bit in
    let cs = c.resume_each.new.members in
    let first = length c.args.talkers.now in
    let active = all_resumed before.shared_receiver bit c.args.controllers.now cs c.resume_each.ensures in
    let same = all_resumed_same before bit c.args.controllers.now cs c.resume_each.ensures in
    let size : length c.args.ports.now ≡ length cs = c.requires.ports ∙ sym c.resume_each.ensures.size in
    let sends = transmits_real g.P.TxBus.transmitting before bit cs c.args.ports.now
    (subst (λ ms. TransmitsAll g.P.TxBus.transmitting ms c.args.ports.now) (sym same) c.requires.port) in
    subst
    (λ ms. AtBoth (λ k. PortSettles g.P.TxBus.bus_after g.P.TxBus.bus_asked g.P.TxBus.transmitting
    g.P.RxSink.sink_after g.P.RxSink.port_stays bit (sampled_level c.args.faults.now (first + k) bit c.args.level)) ms
    (materialized after (bit + 1) c.sample_controllers-controllers_reported.new.members) c.args.ports.now
    c.sample_controllers-controllers_reported.new.ports) same
    (controllers_sample g.P.TxBus.bus_after g.P.TxBus.bus_asked g.P.TxBus.transmitting g.P.RxSink.sink_after
    g.P.RxSink.port_stays before after bit first c.args.level c.args.faults.now cs
    c.sample_controllers-controllers_reported.new.members
    c.args.ports.now c.sample_controllers-controllers_reported.new.ports
    (λ x. g.met.P.RxSink.port_of_bus x x (g.met.P.TxBus.bus_stays_self x))
    (λ k m e is. absurd (let on = active k m e in cc (is, on)))
    (λ k m e is. absurd (let on = active k m e in cc (is, on)))
    (λ k m e is. absurd (let on = active k m e in cc (is, on))) sends size
    c.sample_controllers-controllers_reported.ensures.settles)

pub returns-clause-active : goal.returns-clause-active
returns-clause-active g c =
    let cs = c.resume_each.new.members in
    let size : length c.args.ports.now ≡ length cs = c.requires.ports ∙ sym c.resume_each.ensures.size in (
      none_left c.args.shared.now c.args.bit c.args.level c.sample_nodes-active_reported.new.members
          c.share_all-deferred_reported.new.members c.share_all-deferred_reported.ensures.shares,
      left_active cs c.sample_controllers-controllers_reported.new.members
          (left_both _ cs c.sample_controllers-controllers_reported.new.members c.args.ports.now
          c.sample_controllers-controllers_reported.new.ports size
          c.sample_controllers-controllers_reported.ensures.settles)
          (all_resumed c.args.deferred.now.shared_receiver c.args.bit c.args.controllers.now cs c.resume_each.ensures),
    )

pub returns-clause-uneventful : goal.returns-clause-uneventful
returns-clause-uneventful g c none =
    let active = returns-clause-active g c in
    let last = or_parts (c.sample_nodes-active_reported.result || c.share_all-deferred_reported.result)
    c.sample_controllers-controllers_reported.result none in
    let parts = or_parts c.sample_nodes-active_reported.result c.share_all-deferred_reported.result last.0 in (
      shared_uneventful c.end.new.self c.args.shared.now c.args.bit c.args.level c.sample_nodes-active_reported.new.members
          c.share_all-deferred_reported.new.members c.share_all-deferred_reported.ensures.shares
          (c.share_all-deferred_reported.ensures.uneventful parts.1) (c.sample_nodes-active_reported.ensures.uneventful
          parts.0),
      active_uneventful c.end.new.self c.args.bit c.sample_controllers-controllers_reported.new.members active.1
          (c.sample_controllers-controllers_reported.ensures.uneventful last.1),
    )
