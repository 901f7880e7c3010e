use Rattle.std.proofs.Common.{arith, ◌≡◌, cond, length, ap, sym, subst, ◌∙◌, ◌&&◌}
use Rattle.std.specs.List.{list_all}
use Rattle.can_station.specs.Members.{PortStarts, TalkerStarts, drives_at}
use Rattle.can_station.specs.Places.{AtBoth, AtPlaces}
use Rattle.can_station.specs.DeferredNodes.{TransmitsAll}
use Rattle.can_segment.specs.DeferredState.{materialized}
use Rattle.can_segment.proofs.Holds.{left_holds, left_deferred}
use Rattle.can_segment.proofs.DeferredState.{all_drive, controllers_start, members_length, talkers_start}
use Rattle.can_segment.proofs.DeferredState.{transmits_real}
use Rattle.can_station.proofs.PlaceSets.{within_both, within_places}
use Rattle.can_segment.proofs.Resumed.{left_both, left_on, left_places}
use Rattle.can_segment.proofs.all_nodes.start_all.Goals as goal

pub start_controllers-requires-clause-port : goal.start_controllers-requires-clause-port
start_controllers-requires-clause-port g c =
    transmits_real g.P.TxBus.transmitting c.resume_starters.new.self c.args.bit c.resume_starters.new.controllers
    c.args.ports.now
    (subst (λ ms. TransmitsAll g.P.TxBus.transmitting ms c.args.ports.now)
    (sym c.resume_starters.ensures.controllers) c.requires.port)

pub driven_by_all-requires-clause-talkers : goal.driven_by_all-requires-clause-talkers
driven_by_all-requires-clause-talkers g c = within_places _ c.resume_starters.new.self.talkers
    c.resume_starters.new.talkers
    c.start_talkers.new.members c.start_talkers.ensures c.resume_starters.ensures.holds.talkers_within

pub driven_by_all-requires-clause-controllers : goal.driven_by_all-requires-clause-controllers
driven_by_all-requires-clause-controllers g c =
    let size : length c.args.ports.now ≡ length c.resume_starters.new.controllers =
    c.requires.ports ∙ sym (members_length c.args.deferred.now c.args.bit c.args.controllers.now)
    ∙ ap length (sym c.resume_starters.ensures.controllers)
    ∙ members_length c.resume_starters.new.self c.args.bit c.resume_starters.new.controllers in
    within_both _ c.resume_starters.new.self.controllers c.resume_starters.new.controllers
    c.start_controllers.new.members c.args.ports.now
    c.start_controllers.new.ports size c.start_controllers.ensures c.resume_starters.ensures.holds.controllers_within

pub returns-clause-talkers : goal.returns-clause-talkers
returns-clause-talkers g c =
    let starters_resumed = c.resume_starters.ensures in
    subst (λ ms. AtPlaces (TalkerStarts c.args.bit c.args.plan.now) ms
    (materialized c.resume_starters.new.self c.args.bit c.start_talkers.new.members)) starters_resumed.talkers
    (talkers_start c.resume_starters.new.self c.args.bit c.args.plan.now c.resume_starters.new.talkers
    c.start_talkers.new.members
    starters_resumed.none starters_resumed.holds.talkers_deferred starters_resumed.holds.talkers_not_due
    c.start_talkers.ensures)

pub returns-clause-controllers : goal.returns-clause-controllers
returns-clause-controllers g c =
    let starters_resumed = c.resume_starters.ensures in
    let deferred = c.resume_starters.new.self in
    let size : length c.args.ports.now ≡ length c.resume_starters.new.controllers =
    c.requires.ports ∙ sym (members_length c.args.deferred.now c.args.bit c.args.controllers.now)
    ∙ ap length (sym starters_resumed.controllers) ∙ members_length deferred c.args.bit
    c.resume_starters.new.controllers in
    let sends = transmits_real g.P.TxBus.transmitting deferred c.args.bit c.resume_starters.new.controllers
    c.args.ports.now
    (subst (λ ms. TransmitsAll g.P.TxBus.transmitting ms c.args.ports.now)
    (sym starters_resumed.controllers) c.requires.port) in
    subst
    (λ ms. AtBoth (λ k. PortStarts g.P.TxBus.bus_after g.P.TxBus.bus_asked g.P.TxBus.transmitting
    g.P.TxBus.bus_stays c.args.bit) ms (materialized deferred c.args.bit c.start_controllers.new.members)
    c.args.ports.now c.start_controllers.new.ports) starters_resumed.controllers
    (controllers_start g.P.TxBus.bus_after g.P.TxBus.bus_asked g.P.TxBus.transmitting g.P.TxBus.bus_stays deferred
    c.args.bit c.resume_starters.new.controllers c.start_controllers.new.members c.args.ports.now
    c.start_controllers.new.ports
    g.met.P.TxBus.bus_stays_self starters_resumed.none starters_resumed.holds.controllers_deferred
    starters_resumed.holds.controllers_active sends size
    c.start_controllers.ensures)

pub returns-clause-driven : goal.returns-clause-driven
returns-clause-driven g c =
    let starters_resumed = c.resume_starters.ensures in
    let deferred = c.resume_starters.new.self in
    let bit = c.args.bit in
    let t = c.start_talkers.new.members in
    let after = c.start_controllers.new.members in
    let size : length c.args.ports.now ≡ length c.resume_starters.new.controllers =
    c.requires.ports ∙ sym (members_length c.args.deferred.now bit c.args.controllers.now)
    ∙ ap length (sym starters_resumed.controllers) ∙ members_length deferred bit c.resume_starters.new.controllers in
    let talkers = left_deferred deferred bit c.resume_starters.new.talkers t
    (left_places _ c.resume_starters.new.talkers t c.start_talkers.ensures) starters_resumed.holds.talkers_deferred in
    let controllers = left_deferred deferred bit c.resume_starters.new.controllers after
    (left_both _ c.resume_starters.new.controllers after c.args.ports.now c.start_controllers.new.ports size
    c.start_controllers.ensures) starters_resumed.holds.controllers_deferred in
    c.driven_by_all.ensures
    ∙ ap (λ b. b && list_all (λ m. cond m.is_deferred c.drive.result (drives_at bit m)) after)
    (all_drive deferred bit c.drive.result t c.drive.ensures talkers)
    ∙ ap (λ b. list_all (drives_at bit) (materialized deferred bit t) && b)
    (all_drive deferred bit c.drive.result after c.drive.ensures controllers)

pub returns-clause-is_deferred : goal.returns-clause-is_deferred
returns-clause-is_deferred g c =
    let starters_resumed = c.resume_starters.ensures in
    let deferred = c.resume_starters.new.self in
    let bit = c.args.bit in
    let t = c.start_talkers.new.members in
    let after = c.start_controllers.new.members in
    let size : length c.args.ports.now ≡ length c.resume_starters.new.controllers =
    c.requires.ports ∙ sym (members_length c.args.deferred.now bit c.args.controllers.now)
    ∙ ap length (sym starters_resumed.controllers) ∙ members_length deferred bit c.resume_starters.new.controllers in
    left_holds deferred bit c.args.plan.now c.resume_starters.new.talkers t c.resume_starters.new.controllers after
    (left_places _ c.resume_starters.new.talkers t c.start_talkers.ensures)
    (left_both _ c.resume_starters.new.controllers after c.args.ports.now c.start_controllers.new.ports size
    c.start_controllers.ensures)
    (λ set. within_places _ set c.resume_starters.new.talkers t c.start_talkers.ensures)
    (λ set. within_both _ set c.resume_starters.new.controllers after c.args.ports.now c.start_controllers.new.ports
    size
    c.start_controllers.ensures) (omega (arith, c.start_talkers.ensures.size))
    (omega (arith, c.start_controllers.ensures.size)) starters_resumed.holds

pub returns-clause-left : goal.returns-clause-left
returns-clause-left g c =
    let starters_resumed = c.resume_starters.ensures in
    let size : length c.args.ports.now ≡ length c.resume_starters.new.controllers =
    c.requires.ports ∙ sym (members_length c.args.deferred.now c.args.bit c.args.controllers.now)
    ∙ ap length (sym starters_resumed.controllers) ∙ members_length c.resume_starters.new.self c.args.bit
    c.resume_starters.new.controllers in (
      left_on c.args.talkers.now c.resume_starters.new.talkers c.start_talkers.new.members starters_resumed.left.0
          (left_places _ c.resume_starters.new.talkers c.start_talkers.new.members c.start_talkers.ensures),
      left_on c.args.controllers.now c.resume_starters.new.controllers c.start_controllers.new.members
          starters_resumed.left.1
          (left_both _ c.resume_starters.new.controllers c.start_controllers.new.members c.args.ports.now
          c.start_controllers.new.ports size c.start_controllers.ensures),
    )
