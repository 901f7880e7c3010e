use Rattle.std.proofs.Common.{◌≡◌, ◌+◌, length, ap, subst, ◌∙◌, arith}
use Rattle.std.proofs.lemmas.Option.{slice_get_within}
use Rattle.can_station.specs.Faults.{line_level, sampled_level}
use Rattle.can_station.specs.Members.{Samples, SamplesAndSettles}
use Rattle.can_segment.specs.DeferredState.{materialized}
use Rattle.can_station.proofs.Places.{some_there}
use Rattle.can_segment.proofs.Moves.{talker_clock, controller_clock, port_moves}
use Rattle.can_segment.proofs.DeferredState.{active_at, members_length}
use Rattle.can_segment.proofs.Resumed.{left_on}
use Rattle.can_segment.proofs.all_nodes.move_nodes.Goals as goal

pub sample_all-sampled-requires-clause-talker_room : goal.sample_all-sampled-requires-clause-talker_room
sample_all-sampled-requires-clause-talker_room g c k m e active on =
    let starts = c.start_all-driven.ensures.talkers in
    let deferred = c.args.deferred.now in
    let size = members_length deferred c.args.bit c.args.talkers.now in
    let within =
    slice_get_within (materialized c.start_all-driven.new.deferred c.args.bit c.start_all-driven.new.talkers) k m e in
    let old = some_there (materialized deferred c.args.bit c.args.talkers.now) k (omega (arith, within, starts.size)) in
    let talker =
    some_there c.args.plan.now.talkers.items k (omega (arith, within, starts.size, size, c.requires.talkers)) in
    talker_clock c.args.bit _ old.0 m talker.0.queue.items
    (starts.at k old.0 m old.1 e talker.0 (rw c.as_slice-talkers_plan.ensures.value talker.1))
    (c.requires.talker_clocks k old.0 old.1 (active_at deferred c.args.bit c.args.talkers.now k old.0 old.1)) on

pub sample_all-sampled-requires-clause-room : goal.sample_all-sampled-requires-clause-room
sample_all-sampled-requires-clause-room g c k m e active on =
    let starts = c.start_all-driven.ensures.controllers in
    let deferred = c.args.deferred.now in
    let size = members_length deferred c.args.bit c.args.controllers.now in
    let within =
    slice_get_within (materialized c.start_all-driven.new.deferred c.args.bit c.start_all-driven.new.controllers) k m e
    in
    let old = some_there (materialized deferred c.args.bit c.args.controllers.now) k (omega (
      arith,
      within,
      starts.size,
    )) in
    let from = some_there c.args.ports.now k (omega (arith, within, starts.size, size, c.requires.ports)) in
    let to = some_there c.start_all-driven.new.ports k
    (omega (arith, within, starts.size, starts.size_too, size, c.requires.ports)) in
    controller_clock c.args.bit _ old.0 m (starts.at k old.0 m from.0 to.0 old.1 e from.1 to.1).member
    (c.requires.clocks k old.0 old.1 (active_at deferred c.args.bit c.args.controllers.now k old.0 old.1)) on

pub sample_all-sampled-requires-clause-port : goal.sample_all-sampled-requires-clause-port
sample_all-sampled-requires-clause-port g c k m p e f =
    let starts = c.start_all-driven.ensures.controllers in
    let deferred = c.args.deferred.now in
    let size = members_length deferred c.args.bit c.args.controllers.now in
    let within =
    slice_get_within (materialized c.start_all-driven.new.deferred c.args.bit c.start_all-driven.new.controllers) k m e
    in
    let old = some_there (materialized deferred c.args.bit c.args.controllers.now) k (omega (
      arith,
      within,
      starts.size,
    )) in
    let from = some_there c.args.ports.now k (omega (arith, within, starts.size, size, c.requires.ports)) in
    (starts.at k old.0 m from.0 p old.1 e from.1 f).transmits

pub returns-clause-nodes : goal.returns-clause-nodes
returns-clause-nodes g c =
    let starts = c.start_all-driven.ensures.controllers in
    let settles = c.sample_all-sampled.ensures.controllers in
    let deferred = c.args.deferred.now in
    let bit = c.args.bit in
    let level = c.line_level-level.result in
    let mid = c.start_all-driven.new.deferred in
    let talkers_size : length c.start_all-driven.new.talkers ≡ length c.args.plan.now.talkers.items =
    omega (
      arith,
      c.requires.talkers,
      c.start_all-driven.ensures.talkers.size,
      members_length deferred bit c.args.talkers.now,
      members_length mid bit c.start_all-driven.new.talkers,
    ) in
    let size = members_length deferred bit c.args.controllers.now in
    record {
      t1 = materialized mid bit c.start_all-driven.new.talkers;
      c1 = materialized mid bit c.start_all-driven.new.controllers;
      starts = rw c.as_slice-talkers_plan.ensures.value at c.start_all-driven.ensures.talkers;
      samples = record {
        at = λ k a b e f.
            let here : 0 + k ≡ k = omega arith in
            let own : sampled_level c.inverting-here.result.now (0 + k) bit level
            ≡ sampled_level c.args.plan.now.node_faults.items k bit level =
            ap (λ n. sampled_level c.inverting-here.result.now n bit level) here
            ∙ c.inverting-here.ensures c.args.plan.now bit c.requires.bit c.requires.faults k level in
            subst (λ l. Samples bit l a b) own (c.sample_all-sampled.ensures.talkers.at k a b e f);
        size = c.sample_all-sampled.ensures.talkers.size;
      };
      controls = record {
        starts = λ k a b ea eb.
            let within = slice_get_within (materialized deferred bit c.args.controllers.now) k a ea in
            let from = some_there c.args.ports.now k (omega (arith, within, size, c.requires.ports)) in
            let to = some_there c.start_all-driven.new.ports k
            (omega (arith, within, size, starts.size_too, c.requires.ports)) in
            (starts.at k a b from.0 to.0 ea eb from.1 to.1).member;
        settles = λ k a b ea eb.
            let within = slice_get_within (materialized mid bit c.start_all-driven.new.controllers) k a ea in
            let from = some_there c.start_all-driven.new.ports k
            (omega (arith, within, size, starts.size, starts.size_too, c.requires.ports)) in
            let to = some_there c.sample_all-sampled.new.ports k
            (omega (arith, within, size, starts.size, starts.size_too, settles.size_too, c.requires.ports)) in
            subst (λ n. SamplesAndSettles bit (sampled_level c.args.plan.now.node_faults.items (n + k) bit level) a b)
            talkers_size
            (subst (λ l. SamplesAndSettles bit l a b)
            (c.inverting-here.ensures c.args.plan.now bit c.requires.bit c.requires.faults
            (length c.start_all-driven.new.talkers + k) level)
            (settles.at k a b from.0 to.0 ea eb from.1 to.1).member);
        mid_size = starts.size;
        after_size = settles.size;
      };
      level_is = c.line_level-level.ensures c.args.plan.now bit c.requires.bit c.requires.faults
          ∙ ap (λ d. line_level c.args.plan.now.line_faults.items bit d) c.start_all-driven.ensures.driven;
    }

pub returns-clause-port : goal.returns-clause-port
returns-clause-port g c k a m p q d e f h =
    let starts = c.start_all-driven.ensures.controllers in
    let settles = c.sample_all-sampled.ensures.controllers in
    let deferred = c.args.deferred.now in
    let start = c.start_all-driven.new.deferred in
    let after = c.sample_all-sampled.new.deferred in
    let size = members_length deferred c.args.bit c.args.controllers.now in
    let within = slice_get_within (materialized after (c.args.bit + 1) c.sample_all-sampled.new.controllers) k m e in
    let mid = some_there (materialized start c.args.bit c.start_all-driven.new.controllers) k
    (omega (arith, within, settles.size)) in
    let between = some_there c.start_all-driven.new.ports k
    (omega (arith, within, size, starts.size, settles.size, starts.size_too, c.requires.ports)) in
    port_moves g.P.TxBus.bus_after g.P.TxBus.bus_asked g.P.TxBus.transmitting g.P.RxSink.sink_after g.P.TxBus.bus_stays
    g.P.RxSink.port_stays c.args.bit _ a mid.0 m p between.0 q g.met.P.RxSink.port_of_bus
    g.met.P.RxSink.port_stays_on g.met.P.RxSink.sink_stays
    (starts.at k a mid.0 p between.0 d mid.1 f between.1) (settles.at k mid.0 m between.0 q mid.1 e between.1 h)

pub returns-clause-left : goal.returns-clause-left
returns-clause-left g c none =
    let started = c.start_all-driven.ensures.left in
    let sampled = c.sample_all-sampled.ensures.left none in
    (left_on _ _ _ started.0 sampled.0, left_on _ _ _ started.1 sampled.1)
