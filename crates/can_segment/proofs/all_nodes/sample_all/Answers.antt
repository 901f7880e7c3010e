use Rattle.std.proofs.Common.{arith, ◌≡◌, ◌+◌, length, ap, sym, subst, ◌∙◌}
use Rattle.can_station.specs.Faults.{sampled_level}
use Rattle.can_station.specs.Members.{NodeSamples, PortSettles}
use Rattle.can_station.specs.Places.{AtBoth, AtPlaces}
use Rattle.can_station.specs.DeferredNodes.{HasRoom, IfActiveBoth, TransmitsAll, Unfaulted}
use Rattle.can_segment.specs.DeferredState.{AreDeferred, DeferredHolds, materialized}
use Rattle.can_segment.proofs.Acknowledged.{behind_slot, counting_all_uneventful, counting_holds, counting_sample}
use Rattle.can_segment.proofs.Acknowledged.{counting_settle}
use Rattle.can_segment.proofs.Holds.{left_holds, left_deferred, none_deferred}
use Rattle.can_segment.proofs.DeferredState.{all_uneventful, controllers_sample, members_length, members_sample}
use Rattle.can_segment.proofs.DeferredState.{room_real}
use Rattle.can_segment.proofs.DeferredState.{transmits_real}
use Rattle.can_station.proofs.PlaceSets.{within_both, within_places}
use Rattle.can_segment.proofs.Resumed.{left_both, left_on, left_places}
use Rattle.can_segment.proofs.all_nodes.sample_all.Goals as goal

pub sample_active-reported-requires-clause-talker_room : goal.sample_active-reported-requires-clause-talker_room
sample_active-reported-requires-clause-talker_room g c =
    room_real _ c.resume_faulted.new.self c.args.bit c.step_deferred.new.talkers
    (subst (HasRoom _ c.args.bit) (sym (c.in-Through.ensures.talkers.same ∙ c.resume_faulted.ensures.talkers))
    c.requires.talker_room)

pub sample_active-reported-requires-clause-room : goal.sample_active-reported-requires-clause-room
sample_active-reported-requires-clause-room g c =
    room_real _ c.resume_faulted.new.self c.args.bit c.step_deferred.new.controllers
    (subst (HasRoom _ c.args.bit) (sym (c.in-Through.ensures.controllers.same ∙ c.resume_faulted.ensures.controllers))
    c.requires.room)

pub sample_active-reported-requires-clause-port : goal.sample_active-reported-requires-clause-port
sample_active-reported-requires-clause-port g c =
    transmits_real g.P.TxBus.transmitting c.resume_faulted.new.self c.args.bit c.step_deferred.new.controllers
    c.args.ports.now
    (subst (λ ms. TransmitsAll g.P.TxBus.transmitting ms c.args.ports.now)
    (sym (c.in-Through.ensures.controllers.same ∙ c.resume_faulted.ensures.controllers)) c.requires.port)

pub returns-in-Through-clause-talkers : goal.returns-in-Through-clause-talkers
returns-in-Through-clause-talkers g c =
    let before = c.resume_faulted.new.self in
    let after = c.step_deferred.new.self in
    let t = c.step_deferred.new.talkers in
    let goes = c.in-Through.ensures.talkers in
    subst (λ ms. AtPlaces (NodeSamples 0 c.args.bit c.args.level c.args.faults.now) ms
    (materialized after (c.args.bit + 1) c.sample_active-reported.new.talkers))
    (goes.same ∙ c.resume_faulted.ensures.talkers)
    (members_sample before after c.args.bit 0 c.args.level c.args.faults.now t c.sample_active-reported.new.talkers
    (left_deferred before c.args.bit c.resume_faulted.new.talkers t goes.left
    c.resume_faulted.ensures.holds.talkers_deferred)
    (λ k m e is. c.resume_faulted.ensures.talkers_unfaulted k m (goes.left k m e is) is) goes.through
    c.sample_active-reported.ensures.talkers)

pub returns-in-Through-clause-controllers : goal.returns-in-Through-clause-controllers
returns-in-Through-clause-controllers g c =
    let before = c.resume_faulted.new.self in
    let after = c.step_deferred.new.self in
    let bit = c.args.bit in
    let cs = c.step_deferred.new.controllers in
    let made = c.sample_active-reported.new in
    let goes = c.in-Through.ensures in
    let same = goes.controllers.same ∙ c.resume_faulted.ensures.controllers in
    let first : length c.step_deferred.new.talkers ≡ length c.args.talkers.now =
    sym (members_length before bit c.step_deferred.new.talkers)
    ∙ ap length (goes.talkers.same ∙ c.resume_faulted.ensures.talkers) ∙ members_length c.args.deferred.now bit
    c.args.talkers.now
    in
    let size : length c.args.ports.now ≡ length cs = c.requires.ports
    ∙ sym (members_length c.args.deferred.now bit c.args.controllers.now) ∙ ap length (sym same)
    ∙ members_length before bit cs in
    let sends = transmits_real g.P.TxBus.transmitting before bit cs c.args.ports.now
    (subst (λ ms. TransmitsAll g.P.TxBus.transmitting ms c.args.ports.now) (sym same) c.requires.port) in
    subst (λ ms. AtBoth (λ k. PortSettles g.P.TxBus.bus_after g.P.TxBus.bus_asked g.P.TxBus.transmitting
    g.P.RxSink.sink_after g.P.RxSink.port_stays bit
    (sampled_level c.args.faults.now (length c.args.talkers.now + k) bit c.args.level)) ms
    (materialized after (bit + 1) made.controllers) c.args.ports.now made.ports) same
    (controllers_sample g.P.TxBus.bus_after g.P.TxBus.bus_asked g.P.TxBus.transmitting g.P.RxSink.sink_after
    g.P.RxSink.port_stays before after bit (length c.args.talkers.now) c.args.level c.args.faults.now cs
    made.controllers c.args.ports.now made.ports
    (λ x. g.met.P.RxSink.port_of_bus x x (g.met.P.TxBus.bus_stays_self x))
    (left_deferred before bit c.resume_faulted.new.controllers cs goes.controllers.left
    c.resume_faulted.ensures.holds.controllers_deferred)
    (λ k m e is. c.resume_faulted.ensures.unfaulted k m (goes.controllers.left k m e is) is) goes.controllers.through
    sends size
    (subst (λ n. AtBoth (λ k. IfActiveBoth (PortSettles g.P.TxBus.bus_after g.P.TxBus.bus_asked g.P.TxBus.transmitting
    g.P.RxSink.sink_after g.P.RxSink.port_stays bit (sampled_level c.args.faults.now (n + k) bit c.args.level)))
    cs made.controllers c.args.ports.now made.ports) first c.sample_active-reported.ensures.controllers))

pub returns-in-Through-clause-is_deferred : goal.returns-in-Through-clause-is_deferred
returns-in-Through-clause-is_deferred g c =
    let before = c.resume_faulted.new.self in
    let t = c.step_deferred.new.talkers in
    let cs = c.step_deferred.new.controllers in
    let samples = c.sample_active-reported.ensures.talkers in
    let settles = c.sample_active-reported.ensures.controllers in
    let same = c.in-Through.ensures.controllers.same ∙ c.resume_faulted.ensures.controllers in
    let size : length c.args.ports.now ≡ length cs = c.requires.ports
    ∙ sym (members_length c.args.deferred.now c.args.bit c.args.controllers.now) ∙ ap length (sym same)
    ∙ members_length before c.args.bit cs in
    left_holds c.step_deferred.new.self (c.args.bit + 1) c.args.plan.now t c.sample_active-reported.new.talkers cs
    c.sample_active-reported.new.controllers
    (left_places _ t c.sample_active-reported.new.talkers samples)
    (left_both _ cs c.sample_active-reported.new.controllers c.args.ports.now
    c.sample_active-reported.new.ports size settles)
    (λ set. within_places _ set t c.sample_active-reported.new.talkers samples)
    (λ set. within_both _ set cs c.sample_active-reported.new.controllers c.args.ports.now
    c.sample_active-reported.new.ports size settles)
    (omega (arith, samples.size)) (omega (arith, settles.size)) c.in-Through.ensures.holds

pub returns-in-Through-clause-uneventful : goal.returns-in-Through-clause-uneventful
returns-in-Through-clause-uneventful g c none =
    let deferred = c.step_deferred.new.self in
    let is_deferred = returns-in-Through-clause-is_deferred g c in
    let uneventful = c.sample_active-reported.ensures.uneventful none in (
      all_uneventful deferred c.args.bit c.sample_active-reported.new.talkers is_deferred.talkers_deferred uneventful.0,
      all_uneventful deferred c.args.bit c.sample_active-reported.new.controllers is_deferred.controllers_deferred
          uneventful.1,
    )

pub returns-in-Through-clause-left : goal.returns-in-Through-clause-left
returns-in-Through-clause-left g c none =
    let before = c.resume_faulted.new.self in
    let goes = c.in-Through.ensures in
    let cs = c.step_deferred.new.controllers in
    let same = goes.controllers.same ∙ c.resume_faulted.ensures.controllers in
    let size : length c.args.ports.now ≡ length cs = c.requires.ports
    ∙ sym (members_length c.args.deferred.now c.args.bit c.args.controllers.now) ∙ ap length (sym same)
    ∙ members_length before c.args.bit cs in (
      left_on c.args.talkers.now c.resume_faulted.new.talkers c.sample_active-reported.new.talkers
          c.resume_faulted.ensures.left.0
          (left_on c.resume_faulted.new.talkers c.step_deferred.new.talkers c.sample_active-reported.new.talkers
          goes.talkers.left (left_places _ c.step_deferred.new.talkers c.sample_active-reported.new.talkers
          c.sample_active-reported.ensures.talkers)),
      left_on c.args.controllers.now c.resume_faulted.new.controllers c.sample_active-reported.new.controllers
          c.resume_faulted.ensures.left.1
          (left_on c.resume_faulted.new.controllers cs c.sample_active-reported.new.controllers goes.controllers.left
          (left_both _ cs c.sample_active-reported.new.controllers c.args.ports.now
          c.sample_active-reported.new.ports size
          c.sample_active-reported.ensures.controllers)),
    )

pub sample_active-reported-requires-in-Acknowledged-clause-talker_room :
    goal.sample_active-reported-requires-in-Acknowledged-clause-talker_room
sample_active-reported-requires-in-Acknowledged-clause-talker_room g c =
    let before = c.resume_faulted.new.self in
    room_real _ before c.args.bit c.step_deferred.new.talkers (subst (HasRoom _ c.args.bit)
    (sym (ap (materialized before c.args.bit) c.in-Acknowledged.ensures.acknowledges.1 ∙
    c.resume_faulted.ensures.talkers))
    c.requires.talker_room)

pub sample_active-reported-requires-in-Acknowledged-clause-room :
    goal.sample_active-reported-requires-in-Acknowledged-clause-room
sample_active-reported-requires-in-Acknowledged-clause-room g c =
    let before = c.resume_faulted.new.self in
    room_real _ before c.args.bit c.step_deferred.new.controllers (subst (HasRoom _ c.args.bit)
    (sym (ap (materialized before c.args.bit) c.in-Acknowledged.ensures.acknowledges.2 ∙
    c.resume_faulted.ensures.controllers))
    c.requires.room)

pub sample_active-reported-requires-in-Acknowledged-clause-port :
    goal.sample_active-reported-requires-in-Acknowledged-clause-port
sample_active-reported-requires-in-Acknowledged-clause-port g c =
    let before = c.resume_faulted.new.self in
    transmits_real g.P.TxBus.transmitting before c.args.bit c.step_deferred.new.controllers c.args.ports.now
    (subst (λ ms. TransmitsAll g.P.TxBus.transmitting ms c.args.ports.now)
    (sym (ap (materialized before c.args.bit) c.in-Acknowledged.ensures.acknowledges.2 ∙
    c.resume_faulted.ensures.controllers))
    c.requires.port)

pub returns-in-Acknowledged-clause-talkers : goal.returns-in-Acknowledged-clause-talkers
returns-in-Acknowledged-clause-talkers g c =
    let before = c.resume_faulted.new.self in
    let bit = c.args.bit in
    let t = c.step_deferred.new.talkers in
    let same = c.in-Acknowledged.ensures.acknowledges in
    let since = behind_slot c.args.level before c.step_deferred.new.self c.count_received.new.self same.0
    c.count_received.ensures.same in
    subst (λ ms. AtPlaces (NodeSamples 0 bit c.args.level c.args.faults.now) ms
    (materialized c.count_received.new.self (bit + 1) c.count_received.new.talkers))
    (ap (materialized before bit) same.1 ∙ c.resume_faulted.ensures.talkers)
    (counting_sample before c.count_received.new.self bit 0 c.args.level c.args.faults.now t
    c.sample_active-reported-in-Acknowledged.new.talkers c.count_received.new.talkers since
    (subst (AreDeferred before bit) (sym same.1) c.resume_faulted.ensures.holds.talkers_deferred)
    (subst (Unfaulted c.args.faults.now 0 bit) (sym same.1) c.resume_faulted.ensures.talkers_unfaulted)
    c.sample_active-reported-in-Acknowledged.ensures.talkers c.count_received.ensures.talkers)

pub returns-in-Acknowledged-clause-controllers : goal.returns-in-Acknowledged-clause-controllers
returns-in-Acknowledged-clause-controllers g c =
    let before = c.resume_faulted.new.self in
    let after = c.count_received.new.self in
    let bit = c.args.bit in
    let cs = c.step_deferred.new.controllers in
    let made = c.sample_active-reported-in-Acknowledged.new in
    let same = c.in-Acknowledged.ensures.acknowledges in
    let resumed = ap (materialized before bit) same.2 ∙ c.resume_faulted.ensures.controllers in
    let first : length c.step_deferred.new.talkers ≡ length c.args.talkers.now =
    ap length same.1 ∙ sym (members_length before bit c.resume_faulted.new.talkers)
    ∙ ap length c.resume_faulted.ensures.talkers ∙ members_length c.args.deferred.now bit c.args.talkers.now in
    let since = behind_slot c.args.level before c.step_deferred.new.self after same.0 c.count_received.ensures.same in
    let sends = transmits_real g.P.TxBus.transmitting before bit cs c.args.ports.now
    (subst (λ ms. TransmitsAll g.P.TxBus.transmitting ms c.args.ports.now) (sym resumed) c.requires.port) in
    subst (λ ms. AtBoth (λ k. PortSettles g.P.TxBus.bus_after g.P.TxBus.bus_asked g.P.TxBus.transmitting
    g.P.RxSink.sink_after g.P.RxSink.port_stays bit
    (sampled_level c.args.faults.now (length c.args.talkers.now + k) bit c.args.level)) ms
    (materialized after (bit + 1) c.count_received.new.controllers) c.args.ports.now made.ports) resumed
    (counting_settle g.P.TxBus.bus_after g.P.TxBus.bus_asked g.P.TxBus.transmitting g.P.RxSink.sink_after
    g.P.RxSink.port_stays before after bit (length c.args.talkers.now) c.args.level c.args.faults.now cs
    made.controllers c.count_received.new.controllers c.args.ports.now made.ports
    (λ x. g.met.P.RxSink.port_of_bus x x (g.met.P.TxBus.bus_stays_self x)) since
    (subst (AreDeferred before bit) (sym same.2) c.resume_faulted.ensures.holds.controllers_deferred)
    (subst (Unfaulted c.args.faults.now (length c.args.talkers.now) bit) (sym same.2)
    c.resume_faulted.ensures.unfaulted)
    sends
    (subst (λ n. AtBoth (λ k. IfActiveBoth (PortSettles g.P.TxBus.bus_after g.P.TxBus.bus_asked g.P.TxBus.transmitting
    g.P.RxSink.sink_after g.P.RxSink.port_stays bit (sampled_level c.args.faults.now (n + k) bit c.args.level)))
    cs made.controllers c.args.ports.now made.ports) first c.sample_active-reported-in-Acknowledged.ensures.controllers)
    c.count_received.ensures.controllers)

pub returns-in-Acknowledged-clause-is_deferred : goal.returns-in-Acknowledged-clause-is_deferred
returns-in-Acknowledged-clause-is_deferred g c =
    let before = c.resume_faulted.new.self in
    let after = c.count_received.new.self in
    let bit = c.args.bit in
    let t = c.step_deferred.new.talkers in
    let cs = c.step_deferred.new.controllers in
    let made = c.sample_active-reported-in-Acknowledged.new in
    let steps = c.sample_active-reported-in-Acknowledged.ensures in
    let counted = c.count_received.ensures in
    let same = c.in-Acknowledged.ensures.acknowledges in
    let since = behind_slot c.args.level before c.step_deferred.new.self after same.0 counted.same in
    let holds = subst (λ ms. DeferredHolds before bit c.args.plan.now ms cs) (sym same.1)
    (subst (DeferredHolds before bit c.args.plan.now c.resume_faulted.new.talkers) (sym same.2)
    c.resume_faulted.ensures.holds) in
    let size : length c.args.ports.now ≡ length cs = c.requires.ports
    ∙ sym (members_length c.args.deferred.now bit c.args.controllers.now) ∙ ap length (sym
    c.resume_faulted.ensures.controllers)
    ∙ members_length before bit c.resume_faulted.new.controllers ∙ ap length (sym same.2) in
    counting_holds before after bit c.args.level c.args.plan.now t made.talkers c.count_received.new.talkers cs
    made.controllers c.count_received.new.controllers since (left_places _ t made.talkers steps.talkers)
    (left_both _ cs made.controllers c.args.ports.now made.ports size steps.controllers)
    (within_places _ before.talkers t made.talkers steps.talkers holds.talkers_within)
    (within_both _ before.controllers cs made.controllers c.args.ports.now made.ports size steps.controllers
    holds.controllers_within) steps.talkers.size steps.controllers.size counted.talkers counted.controllers
    counted.talkers_known counted.controllers_known holds

pub returns-in-Acknowledged-clause-uneventful : goal.returns-in-Acknowledged-clause-uneventful
returns-in-Acknowledged-clause-uneventful g c none =
    let after = c.count_received.new.self in
    let made = c.sample_active-reported-in-Acknowledged.new in
    let is_deferred = returns-in-Acknowledged-clause-is_deferred g c in
    let uneventful = c.sample_active-reported-in-Acknowledged.ensures.uneventful none in (
      counting_all_uneventful after c.args.bit made.talkers c.count_received.new.talkers is_deferred.talkers_deferred
          c.count_received.ensures.talkers uneventful.0,
      counting_all_uneventful after c.args.bit made.controllers c.count_received.new.controllers
          is_deferred.controllers_deferred
          c.count_received.ensures.controllers uneventful.1,
    )

pub sample_together-reported-requires-clause-any_deferred : goal.sample_together-reported-requires-clause-any_deferred
sample_together-reported-requires-clause-any_deferred g c =
    let same = c.in-Shares.ensures.same in
    subst (λ deferred. AreDeferred deferred c.args.bit c.step_deferred.new.talkers) (sym same.0)
    (subst (AreDeferred c.resume_faulted.new.self c.args.bit) (sym same.1)
    c.resume_faulted.ensures.holds.talkers_deferred)

pub returns-in-Shares-clause-controllers : goal.returns-in-Shares-clause-controllers
returns-in-Shares-clause-controllers g c =
    let same = c.in-Shares.ensures.same in
    let first : length c.step_deferred.new.talkers ≡ length c.args.talkers.now =
    ap length same.1 ∙ sym (members_length c.resume_faulted.new.self c.args.bit c.resume_faulted.new.talkers)
    ∙ ap length c.resume_faulted.ensures.talkers ∙ members_length c.args.deferred.now c.args.bit c.args.talkers.now in
    let before : materialized c.step_deferred.new.self c.args.bit c.step_deferred.new.controllers
    ≡ materialized c.args.deferred.now c.args.bit c.args.controllers.now =
    ap (λ deferred. materialized deferred c.args.bit c.step_deferred.new.controllers) same.0
    ∙ ap (materialized c.resume_faulted.new.self c.args.bit) same.2 ∙ c.resume_faulted.ensures.controllers in
    let after = materialized c.sample_together-reported.new.deferred (c.args.bit + 1) c.sample_together-reported.new.controllers
    in
    subst (λ n. AtBoth (λ k. PortSettles g.P.TxBus.bus_after g.P.TxBus.bus_asked g.P.TxBus.transmitting
    g.P.RxSink.sink_after g.P.RxSink.port_stays c.args.bit
    (sampled_level c.args.faults.now (n + k) c.args.bit c.args.level))
    (materialized c.args.deferred.now c.args.bit c.args.controllers.now) after c.args.ports.now
    c.sample_together-reported.new.ports) first
    (subst (λ ms. AtBoth (λ k. PortSettles g.P.TxBus.bus_after g.P.TxBus.bus_asked g.P.TxBus.transmitting
    g.P.RxSink.sink_after g.P.RxSink.port_stays c.args.bit
    (sampled_level c.args.faults.now (length c.step_deferred.new.talkers + k) c.args.bit c.args.level)) ms after
    c.args.ports.now c.sample_together-reported.new.ports) before c.sample_together-reported.ensures.controllers)

pub returns-in-Shares-clause-is_deferred : goal.returns-in-Shares-clause-is_deferred
returns-in-Shares-clause-is_deferred g c =
    let made = c.sample_together-reported.new in
    let within = c.sample_together-reported.ensures.within in
    let fit = c.sample_together-reported.ensures.fit in
    none_deferred made.deferred (c.args.bit + 1) c.args.plan.now made.talkers made.controllers
    within.0 within.1 fit.0 fit.1 c.sample_together-reported.ensures.active.0 c.sample_together-reported.ensures.active.1
