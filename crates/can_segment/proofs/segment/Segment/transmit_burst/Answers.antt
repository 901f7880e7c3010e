use Rattle.std.proofs.Common.{rules, ◌≡◌, length, slice_get, ◌≤◌, ◌++◌, arith, sym, ap, refl, subst, length-append, ◌∙◌}
use Rattle.can_segment.specs.UneventfulBits.{MakeUneventfulBits}
use Rattle.can_segment.specs.UneventfulBits.MakeUneventfulBits.{no_bit}
use Rattle.can_segment.specs.DeferredState.{materialized}
use Rattle.can_segment.proofs.Keeps.{controller_clocks, talker_clocks}
use Rattle.can_segment.proofs.UneventfulBursts.{ran_uneventfully, value_of}
use Rattle.can_segment.proofs.Shown.{put_back}
use Rattle.can_segment.proofs.Resumed.{found_active}
use Rattle.can_segment.proofs.segment.Segment.transmit_burst.Goals as goal

pub transmit_burst-requires-clause-talker_room : goal.transmit_burst-requires-clause-talker_room
transmit_burst-requires-clause-talker_room c k m e active on =
    let inside = c.self.inside in
    let deferred = inside.deferred in
    let levels = inside.made.levels.items in
    let bit = length levels in
    talker_clocks inside.plan levels inside.made.events.items (materialized deferred bit inside.talkers.items)
    (materialized deferred bit inside.controllers.items) bit _ c.self.invariant.0.kept refl (search rules) k m
    (found_active deferred.shared_receiver bit inside.talkers.items k m
    (ap (λ ms. slice_get ms k) (sym c.as_mut_slice.ensures.value) ∙ e) active) on

pub transmit_burst-requires-clause-room : goal.transmit_burst-requires-clause-room
transmit_burst-requires-clause-room c k m e active on =
    let inside = c.self.inside in
    let deferred = inside.deferred in
    let levels = inside.made.levels.items in
    let bit = length levels in
    controller_clocks inside.plan levels inside.made.events.items (materialized deferred bit inside.talkers.items)
    (materialized deferred bit inside.controllers.items) bit _ c.self.invariant.0.kept refl (search rules) k m
    (found_active deferred.shared_receiver bit inside.controllers.items k m
    (ap (λ ms. slice_get ms k) (sym c.as_mut_slice-2.ensures.value) ∙ e) active) on

pub returns-then-most-eq0-clause-bits : goal.returns-then-most-eq0-clause-bits
returns-then-most-eq0-clause-bits c = no_bit

pub invariant_of-self : goal.invariant_of-self
invariant_of-self c =
    let inside = c.self.inside in
    let made = inside.made in
    let bit = length made.levels.items in
    let here : c.len-made.result ≡ bit = search rules in
    let ran = ran_uneventfully inside.plan inside.faults made.levels.items made.events.items made.counters.items
    c.transmit_burst.ensures.0 inside.deferred c.transmit_burst.new.deferred c.as_mut_slice.result.now
    inside.talkers.items
    c.transmit_burst.new.talkers c.as_mut_slice-2.result.now inside.controllers.items c.transmit_burst.new.controllers
    inside.idle_until c.faultless_until-end.result
    (record { holds = c.self.invariant.0; stands = c.self.invariant.1; is_deferred = c.self.invariant.2 })
    (c.faultless_until-end.ensures.uneventful inside.plan)
    (omega (arith, c.faultless_until-end.ensures.limit, c.min.ensures))
    (λ some. omega (arith, some, here, c.transmit_burst.ensures.1, c.min-2.ensures, c.saturating_sub-most.ensures))
    c.as_mut_slice.ensures.value c.as_mut_slice-2.ensures.value c.transmit_burst.ensures.3 in
    let talkers = put_back inside.talkers.len c.transmit_burst.new.talkers inside.talkers.items
    (omega (arith, c.as_mut_slice.ensures.len, ap length c.as_mut_slice.ensures.value, ran.talkers_size))
    (sym ran.talkers_size) in
    let controllers = put_back inside.controllers.len c.transmit_burst.new.controllers inside.controllers.items
    (omega (arith, c.as_mut_slice-2.ensures.len, ap length c.as_mut_slice-2.ensures.value, ran.controllers_size))
    (sym ran.controllers_size) in
    let behind = ran.between in
    let passed : inside.idle_until ≤ bit = rw (← c.self.view_is) at c.requires in
    let longer = length-append made.levels.items c.transmit_burst.ensures.0 in
    let levels = c.transmit_burst.ensures.2 in (
      rw (talkers, controllers, levels) behind.holds,
      rw levels behind.stands,
      rw (talkers, controllers, levels) behind.is_deferred,
      λ before. absurd (omega (arith, before, passed, longer, ap length levels)),
    )

pub returns-clause-bits : goal.returns-clause-bits
returns-clause-bits c =
    let inside = c.self.inside in
    let made = inside.made in
    let bit = length made.levels.items in
    let here : c.len-made.result ≡ bit = search rules in
    let ran = ran_uneventfully inside.plan inside.faults made.levels.items made.events.items made.counters.items
    c.transmit_burst.ensures.0 inside.deferred c.transmit_burst.new.deferred c.as_mut_slice.result.now
    inside.talkers.items
    c.transmit_burst.new.talkers c.as_mut_slice-2.result.now inside.controllers.items c.transmit_burst.new.controllers
    inside.idle_until c.faultless_until-end.result
    (record { holds = c.self.invariant.0; stands = c.self.invariant.1; is_deferred = c.self.invariant.2 })
    (c.faultless_until-end.ensures.uneventful inside.plan)
    (omega (arith, c.faultless_until-end.ensures.limit, c.min.ensures))
    (λ some. omega (arith, some, here, c.transmit_burst.ensures.1, c.min-2.ensures, c.saturating_sub-most.ensures))
    c.as_mut_slice.ensures.value c.as_mut_slice-2.ensures.value c.transmit_burst.ensures.3 in
    let controllers = put_back inside.controllers.len c.transmit_burst.new.controllers inside.controllers.items
    (omega (arith, c.as_mut_slice-2.ensures.len, ap length c.as_mut_slice-2.ensures.value, ran.controllers_size))
    (sym ran.controllers_size) in
    let behind = value_of inside.plan (made.levels.items ++ c.transmit_burst.ensures.0) made.events.items
    made.counters.items
    c.transmit_burst.new.deferred c.transmit_burst.new.controllers inside.idle_until in
    rw (controllers, c.transmit_burst.ensures.2) (subst (λ s. MakeUneventfulBits s behind) c.self.view_is ran.bits)
