use Rattle.std.proofs.Common.{rules, length, arith, sym, ap, subst, refl, ◌≡◌, ◌∙◌}
use Rattle.std.proofs.lemmas.List.{length-map}
use Rattle.can_segment.specs.declared.record.Record.{Record}
use Rattle.can_station.specs.Ports.{item_of}
use Rattle.can_station.specs.CurrentFaults.{IsCurrent}
use Rattle.can_station.specs.Fresh.{AreFresh}
use Rattle.can_segment.specs.DeferredState.{materialized}
use Rattle.can_segment.specs.Segments.{SegmentHolds}
use Rattle.can_segment.proofs.Fresh.{fresh_active, kept_fresh, idle_fresh}
use Rattle.can_segment.proofs.Holds.{none_deferred}
use Rattle.can_segment.proofs.Resumed.{none_deferred_at}
use Rattle.can_segment.proofs.Wholes.{holds_active}
use Rattle.can_segment.proofs.segment.Segment.open.Goals as goal

pub invariant_of-result : goal.invariant_of-result
invariant_of-result c =
    let talkers = c.in_ok-talkers.talkers.items in
    let controllers = c.in_ok-controllers.controllers.items in
    let fresh : AreFresh (λ talker. talker.on) c.args.plan.talkers.items talkers =
    rw c.as_slice.ensures.value at c.in_ok-talkers.ensures in
    let fresh_too : AreFresh (λ controller. controller.on) c.args.plan.controllers.items controllers =
    rw c.as_slice-2.ensures.value at c.in_ok-controllers.ensures in
    let active = fresh_active (λ talker. talker.on) c.args.plan.talkers.items talkers fresh in
    let active_too = fresh_active (λ controller. controller.on) c.args.plan.controllers.items controllers fresh_too in
    let kept = kept_fresh c.args.plan talkers controllers fresh fresh_too in
    let made : Record =
    record { levels = c.new-2.result; events = c.new-3.result; counters = c.show_all.new.counters } in
    let held : SegmentHolds c.args.plan made talkers controllers = record {
      kept = rw (c.new-2.ensures.items, c.new-3.ensures.items) kept;
      few = omega (arith, c.requires, kept.stands.talkers_size, kept.stands.controllers_size);
      size = rw (c.as_slice-5.ensures.value, c.as_slice-6.ensures.value) at c.show_all.ensures.size;
      talkers_shown = rw c.as_slice-5.ensures.value at c.show_all.ensures.talkers;
      controllers_shown = rw (c.as_slice-5.ensures.value, c.as_slice-6.ensures.value) at c.show_all.ensures.controllers;
    } in (
      holds_active c.args.plan made c.none-deferred.result (length made.levels.items) talkers controllers active
          active_too
          held,
      subst (λ n. IsCurrent c.args.plan n c.in_ok-faults.faults) (sym (ap length c.new-2.ensures.items))
          c.in_ok-faults.ensures,
      none_deferred c.none-deferred.result (length made.levels.items) c.args.plan.talkers.items talkers controllers
          (search rules) (search rules)
          (omega (arith, held.few)) (omega (arith, held.few))
          active active_too,
      λ before. absurd (omega (arith, before)),
    )

pub returns : goal.returns
returns c =
    let controllers = c.in_ok-controllers.controllers.items in
    let fresh : AreFresh (λ controller. controller.on) c.args.plan.controllers.items controllers =
    rw c.as_slice-2.ensures.value at c.in_ok-controllers.ensures in
    let same : materialized c.none-deferred.result (length c.new-2.result.items) controllers ≡ controllers =
    none_deferred_at c.none-deferred.result.shared_receiver (length c.new-2.result.items) controllers
    (fresh_active (λ controller. controller.on) c.args.plan.controllers.items controllers fresh) in
    record {
      plan_is = refl;
      no_levels = c.new-2.ensures.items;
      no_events = c.new-3.ensures.items;
      one_each = rw same (length-map controllers (λ member. item_of member.station.sending) ∙ fresh.size);
      idle = rw same (idle_fresh (λ controller. controller.on) c.args.plan.controllers.items controllers fresh);
    }
