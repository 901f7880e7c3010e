use Rattle.std.proofs.Common.{rules, ◌≡◌, ◌+◌, ◌∷◌, [], length, arith, sym, ap, subst, ◌∙◌, length-append}
use Rattle.std.proofs.lemmas.Option.{slice_get_within}
use Rattle.can_segment.specs.Brought.{IsBrought, kinds_of}
use Rattle.can_segment.specs.Kept.{SegmentKept}
use Rattle.can_station.specs.Members.{wants_at}
use Rattle.can_station.specs.Ports.{item_of}
use Rattle.can_station.specs.DeferredNodes.{AreAlike}
use Rattle.can_segment.specs.DeferredState.{materialized}
use Rattle.can_segment.specs.Segments.{AreFrom}
use Rattle.can_station.specs.Tellings.{bit_lines}
use Rattle.can_segment.proofs.Brought.{port_brought}
use Rattle.can_segment.proofs.LinesOfNodes.{of_controller}
use Rattle.can_segment.proofs.Keeps.{run_length}
use Rattle.can_station.proofs.Places.{some_there}
use Rattle.can_segment.proofs.DeferredState.{members_length}
use Rattle.can_segment.proofs.Wholes.{from_left, from_real, from_whole, holds_alike}
use Rattle.can_segment.proofs.grow.grow.Goals as goal

pub make_bit-sampled-requires-clause-few : goal.make_bit-sampled-requires-clause-few
make_bit-sampled-requires-clause-few g c =
    let deferred = c.args.deferred.now in
    let bit = length c.args.made.now.levels.items in
    omega (
      arith,
      c.requires.holds.few,
      members_length deferred bit c.args.talkers.now,
      members_length deferred bit c.args.controllers.now,
    )

pub show_all-requires-clause-size : goal.show_all-requires-clause-size
show_all-requires-clause-size g c =
    let bit = length c.args.made.now.levels.items in
    let new = c.make_bit-sampled.new.deferred in
    let before = c.requires.holds.kept.stands in
    let behind = c.make_bit-sampled.ensures.kept.stands in
    omega (
      arith,
      c.requires.holds.size,
      before.talkers_size,
      before.controllers_size,
      behind.talkers_size,
      behind.controllers_size,
      members_length new (bit + 1) c.make_bit-sampled.new.talkers,
      members_length new (bit + 1) c.make_bit-sampled.new.controllers,
    )

pub show_all-requires-clause-talkers : goal.show_all-requires-clause-talkers
show_all-requires-clause-talkers g c none =
    let old = c.args.deferred.now in
    let counters = c.args.made.now.counters.items in
    from_left 0 c.args.talkers.now c.make_bit-sampled.new.talkers counters
    (from_whole 0 old (length c.args.made.now.levels.items) c.args.talkers.now counters
    c.requires.holds.talkers_shown) (c.make_bit-sampled.ensures.left none).0

pub show_all-requires-clause-controllers : goal.show_all-requires-clause-controllers
show_all-requires-clause-controllers g c none =
    let old = c.args.deferred.now in
    let new = c.make_bit-sampled.new.deferred in
    let bit = length c.args.made.now.levels.items in
    let counters = c.args.made.now.counters.items in
    let size : length (materialized old bit c.args.talkers.now) ≡ length c.make_bit-sampled.new.talkers =
    omega (
      arith,
      c.requires.holds.kept.stands.talkers_size,
      c.make_bit-sampled.ensures.kept.stands.talkers_size,
      members_length new (bit + 1) c.make_bit-sampled.new.talkers,
    ) in
    from_left (length c.make_bit-sampled.new.talkers) c.args.controllers.now c.make_bit-sampled.new.controllers counters
    (subst (λ first. AreFrom first c.args.controllers.now counters) size
    (from_whole _ old bit c.args.controllers.now counters c.requires.holds.controllers_shown))
    (c.make_bit-sampled.ensures.left none).1

pub regroup-requires-clause-plan : goal.regroup-requires-clause-plan
regroup-requires-clause-plan g c =
    let bit = length c.args.made.now.levels.items in
    let behind = c.make_bit-sampled.ensures.kept.stands in
    omega (
      arith,
      ap length c.as_slice.ensures.value,
      behind.talkers_size,
      members_length c.make_bit-sampled.new.deferred (bit + 1) c.make_bit-sampled.new.talkers,
    )

pub returns-clause-holds : goal.returns-clause-holds
returns-clause-holds g c =
    let made = c.make_bit-sampled.ensures in
    let old = c.args.deferred.now in
    let mid = c.make_bit-sampled.new.deferred in
    let new = c.regroup.new.self in
    let bit = length c.args.made.now.levels.items in
    let next = length c.make_bit-sampled.new.levels.items in
    let longer : bit + 1 ≡ next =
    sym (ap length made.level.1 ∙ length-append c.args.made.now.levels.items (made.level.0 ∷ [])) in
    let here : c.len.result ≡ next = search rules in
    let t1 = c.make_bit-sampled.new.talkers in
    let c1 = c.make_bit-sampled.new.controllers in
    let kept = subst (λ n. SegmentKept c.args.plan.now c.make_bit-sampled.new.levels.items
    c.make_bit-sampled.new.events.items
    (materialized mid n t1) (materialized mid n c1)) longer made.kept in
    let talkers_size = members_length mid next t1 in
    let controllers_size = members_length mid next c1 in
    let before = c.requires.holds.kept.stands in
    holds_alike c.args.plan.now (record {
      levels = c.make_bit-sampled.new.levels;
      events = c.make_bit-sampled.new.events;
      counters = c.show_all.new.counters;
    }) (materialized mid next t1)
    (materialized new next c.regroup.new.talkers)
    (materialized mid next c1) (materialized new next c.regroup.new.controllers)
    (subst (λ n. AreAlike (materialized mid n t1) (materialized new n c.regroup.new.talkers)) here
    c.regroup.ensures.talkers)
    (subst (λ n. AreAlike (materialized mid n c1) (materialized new n c.regroup.new.controllers)) here
    c.regroup.ensures.controllers) kept
    (omega (
      arith,
      c.requires.holds.few,
      before.talkers_size,
      before.controllers_size,
      kept.stands.talkers_size,
      kept.stands.controllers_size,
    )) (omega (arith, c.show_all.ensures.size, talkers_size, controllers_size))
    (from_real 0 mid next t1 c.show_all.new.counters.items c.show_all.ensures.talkers)
    (from_real (length (materialized mid next t1)) mid next c1 c.show_all.new.counters.items
    (subst (λ first. AreFrom first c1 c.show_all.new.counters.items)
    (sym talkers_size) c.show_all.ensures.controllers))

pub returns-clause-bit : goal.returns-clause-bit
returns-clause-bit g c =
    let made = c.make_bit-sampled.ensures in
    let mid = c.make_bit-sampled.new.deferred in
    let new = c.regroup.new.self in
    let bit = length c.args.made.now.levels.items in
    let next = length c.make_bit-sampled.new.levels.items in
    let longer : bit + 1 ≡ next =
    sym (ap length made.level.1 ∙ length-append c.args.made.now.levels.items (made.level.0 ∷ [])) in
    let here : c.len.result ≡ next = search rules in
    let talkers = materialized mid (bit + 1) c.make_bit-sampled.new.talkers in
    let controllers = materialized mid (bit + 1) c.make_bit-sampled.new.controllers in
    let lines = bit_lines bit talkers controllers in
    let stands = made.kept.stands in
    let alike = subst (λ n. AreAlike (materialized mid n c.make_bit-sampled.new.controllers)
    (materialized new next c.regroup.new.controllers)) (sym longer)
    (subst (λ n. AreAlike (materialized mid n c.make_bit-sampled.new.controllers)
    (materialized new n c.regroup.new.controllers)) here c.regroup.ensures.controllers) in
    record {
      level = made.level.0;
      lines = lines;
      levels_is = made.level.1;
      events_is = made.events;
      ports = λ k a m p q d e f h.
          let within = slice_get_within (materialized new next c.regroup.new.controllers) k m e in
          let x = some_there controllers k (omega (arith, within, alike.size)) in
          let planned = some_there c.args.plan.now.controllers.items k
          (omega (arith, within, alike.size, stands.controllers_size)) in
          let stood = stands.controllers_stand k planned.0 x.0 planned.1 x.1 in
          let behind : length made.kept.trace ≡ bit + 1 = sym (run_length made.kept.run) ∙ sym longer in
          subst (λ sends. IsBrought g.P.TxBus.bus_after g.P.TxBus.bus_asked g.P.TxBus.transmitting g.P.RxSink.sink_after
          g.P.RxSink.port_stays (kinds_of (length c.args.plan.now.talkers.items + k) lines) (wants_at bit a)
          (item_of sends) p q)
          (sym (alike.at k x.0 m x.1 e).sending_is)
          (port_brought g.P.TxBus.bus_after g.P.TxBus.bus_asked g.P.TxBus.transmitting g.P.RxSink.sink_after
          g.P.RxSink.port_stays bit (wants_at bit a) _ x.0 p q
          (ap (λ n. kinds_of (n + k) lines) (sym stands.talkers_size) ∙ of_controller bit talkers controllers k x.0 x.1)
          (λ early. stood.uneventful (omega (arith, behind, early, stood.on_is))) (made.port k a x.0 p q d x.1 f h));
      size = made.size;
    }
