use Rattle.std.proofs.Common.{rules, length-append, ◌≡◌, ◌+◌, ◌<◌, ◌≤◌, ◌++◌, ◌∷◌, [], length, slice_get, refl, arith, sym}
use Rattle.std.proofs.Common.{ap, subst, ◌∙◌}
use Rattle.can_station.specs.CurrentFaults.{IsCurrent}
use Rattle.can_segment.specs.UneventfulBits.{GrowsUneventfully}
use Rattle.can_segment.specs.DeferredState.{materialized}
use Rattle.can_segment.specs.Segments.{sending_of_all, wants_next}
use Rattle.can_segment.proofs.Keeps.{controller_clocks, talker_clocks}
use Rattle.can_segment.proofs.UneventfulBits.{grown_holds, grown_deferred}
use Rattle.can_segment.proofs.Resumed.{found_active}
use Rattle.can_segment.proofs.Shown.{none_wanted, put_back}
use Rattle.can_segment.proofs.SingleBit.{sending_alone, wishes_alone}
use Rattle.can_segment.proofs.segment.Segment.uneventful_bit.Goals as goal

pub grow_uneventfully-requires-clause-talker_room : goal.grow_uneventfully-requires-clause-talker_room
grow_uneventfully-requires-clause-talker_room c k m e active on =
    let inside = c.self.inside in
    let deferred = inside.deferred in
    let levels = inside.made.levels.items in
    let bit = length levels in
    talker_clocks inside.plan levels inside.made.events.items (materialized deferred bit inside.talkers.items)
    (materialized deferred bit inside.controllers.items) bit _ c.self.invariant.0.kept refl (search rules) k m
    (found_active deferred.shared_receiver bit inside.talkers.items k m
    (ap (λ ms. slice_get ms k) (sym c.as_mut_slice.ensures.value) ∙ e) active) on

pub grow_uneventfully-requires-clause-room : goal.grow_uneventfully-requires-clause-room
grow_uneventfully-requires-clause-room c k m e active on =
    let inside = c.self.inside in
    let deferred = inside.deferred in
    let levels = inside.made.levels.items in
    let bit = length levels in
    controller_clocks inside.plan levels inside.made.events.items (materialized deferred bit inside.talkers.items)
    (materialized deferred bit inside.controllers.items) bit _ c.self.invariant.0.kept refl (search rules) k m
    (found_active deferred.shared_receiver bit inside.controllers.items k m
    (ap (λ ms. slice_get ms k) (sym c.as_mut_slice-2.ensures.value) ∙ e) active) on

pub invariant_of-self : goal.invariant_of-self
invariant_of-self c =
    let inside = c.self.inside in
    let none = c.grow_uneventfully.ensures.none (search rules) in
    let talkers = put_back inside.talkers.len c.grow_uneventfully.new.talkers inside.talkers.items
    (omega (arith, c.as_mut_slice.ensures.len, ap length c.as_mut_slice.ensures.value, ap length none.2))
    (omega (arith, ap length c.as_mut_slice.ensures.value, ap length none.2))
    ∙ none.2 ∙ c.as_mut_slice.ensures.value in
    let controllers =
    put_back inside.controllers.len c.grow_uneventfully.new.controllers inside.controllers.items
    (omega (arith, c.as_mut_slice-2.ensures.len, ap length c.as_mut_slice-2.ensures.value, ap length none.3))
    (omega (arith, ap length c.as_mut_slice-2.ensures.value, ap length none.3))
    ∙ none.3 ∙ c.as_mut_slice-2.ensures.value in
    rw (talkers, controllers, none.0, none.1) c.self.invariant

pub invariant_of-self-2 : goal.invariant_of-self-2
invariant_of-self-2 c =
    let inside = c.self.inside in
    let deferred = inside.deferred in
    let new = c.grow_uneventfully.new.deferred in
    let bit = length inside.made.levels.items in
    let next = length c.grow_uneventfully.new.made.levels.items in
    let reported = c.grow_uneventfully.ensures.uneventful (search rules) in
    let grown = subst (λ ms. GrowsUneventfully inside.faults inside.made c.grow_uneventfully.new.made deferred new
    inside.talkers.items c.grow_uneventfully.new.talkers ms c.grow_uneventfully.new.controllers)
    c.as_mut_slice-2.ensures.value
    (subst (λ ms. GrowsUneventfully inside.faults inside.made c.grow_uneventfully.new.made deferred new ms
    c.grow_uneventfully.new.talkers
    c.as_mut_slice-2.result.now c.grow_uneventfully.new.controllers) c.as_mut_slice.ensures.value reported) in
    let t_size = grown.sends.talkers.size in
    let c_size = grown.sends.controllers.size in
    let controllers = put_back inside.controllers.len c.grow_uneventfully.new.controllers inside.controllers.items
    (omega (arith, c.as_mut_slice-2.ensures.len, ap length c.as_mut_slice-2.ensures.value, c_size)) (sym c_size) in
    let talkers = put_back inside.talkers.len c.grow_uneventfully.new.talkers inside.talkers.items
    (omega (arith, c.as_mut_slice.ensures.len, ap length c.as_mut_slice.ensures.value, t_size)) (sym t_size) in
    let held = c.self.invariant in
    let still : bit < inside.plan.bits = search rules in
    let holds = grown_holds inside.plan inside.faults inside.made c.grow_uneventfully.new.made deferred new
    inside.talkers.items
    c.grow_uneventfully.new.talkers inside.controllers.items c.grow_uneventfully.new.controllers grown held.0 still
    held.1
    held.2 in
    let is_deferred = grown_deferred inside.plan inside.faults inside.made c.grow_uneventfully.new.made deferred new
    inside.talkers.items
    c.grow_uneventfully.new.talkers inside.controllers.items c.grow_uneventfully.new.controllers grown held.2 in
    let here : c.len-made.result ≡ bit = search rules in
    let longer : c.len-made.result + 1 ≡ next =
    omega (arith, here, ap length grown.levels_is, length-append inside.made.levels.items (grown.level ∷ [])) in
    let passed : inside.idle_until ≤ bit = rw (← c.self.view_is) at c.requires in
    let stood = subst (λ n. IsCurrent inside.plan n inside.faults) (sym here) held.1 in (
      rw (talkers, controllers) holds,
      subst (λ n. IsCurrent inside.plan n c.pass.new.self) longer
          (c.pass.ensures.current inside.plan stood),
      rw (talkers, controllers) is_deferred,
      λ before. absurd (omega (arith, before, longer, here, passed)),
    )

pub returns-clause-made : goal.returns-clause-made
returns-clause-made c was_made =
    let inside = c.self.inside in
    let deferred = inside.deferred in
    let new = c.grow_uneventfully.new.deferred in
    let bit = length inside.made.levels.items in
    let next = length c.grow_uneventfully.new.made.levels.items in
    let reported = c.grow_uneventfully.ensures.uneventful (search rules) in
    let grown = subst (λ ms. GrowsUneventfully inside.faults inside.made c.grow_uneventfully.new.made deferred new
    inside.talkers.items c.grow_uneventfully.new.talkers ms c.grow_uneventfully.new.controllers)
    c.as_mut_slice-2.ensures.value
    (subst (λ ms. GrowsUneventfully inside.faults inside.made c.grow_uneventfully.new.made deferred new ms
    c.grow_uneventfully.new.talkers
    c.as_mut_slice-2.result.now c.grow_uneventfully.new.controllers) c.as_mut_slice.ensures.value reported) in
    let c_size = grown.sends.controllers.size in
    let controllers = put_back inside.controllers.len c.grow_uneventfully.new.controllers inside.controllers.items
    (omega (arith, c.as_mut_slice-2.ensures.len, ap length c.as_mut_slice-2.ensures.value, c_size)) (sym c_size) in
    let longer : next ≡ bit + 1 =
    ap length grown.levels_is ∙ length-append inside.made.levels.items (grown.level ∷ []) in
    let is_deferred = c.self.invariant.2 in
    record {
      level = grown.level;
      plan_is = ap (λ s. s.plan) c.self.view_is;
      levels_is = grown.levels_is ∙ ap (λ s. s.levels ++ grown.level ∷ []) c.self.view_is;
      events_is = ap (λ v. v.items) grown.events_is ∙ ap (λ s. s.events) c.self.view_is;
      counters_is = ap (λ v. v.items) grown.counters_is ∙ ap (λ s. s.counters) c.self.view_is;
      sending_is = ap (λ ms. sending_of_all (materialized new next ms)) controllers
          ∙ ap (λ n. sending_of_all (materialized new n c.grow_uneventfully.new.controllers)) longer
          ∙ sending_alone inside.plan.talkers.items bit grown.level deferred new inside.talkers.items
          c.grow_uneventfully.new.talkers inside.controllers.items c.grow_uneventfully.new.controllers grown.sends
          is_deferred
          ∙ ap (λ s. s.sending) c.self.view_is;
      none_wants = λ k. ap (λ s. wants_next s k) (sym c.self.view_is)
          ∙ none_wanted bit (materialized deferred bit inside.controllers.items)
          (wishes_alone inside.plan.talkers.items bit grown.level deferred new inside.talkers.items
          c.grow_uneventfully.new.talkers inside.controllers.items c.grow_uneventfully.new.controllers grown.sends
          is_deferred) k;
    }
