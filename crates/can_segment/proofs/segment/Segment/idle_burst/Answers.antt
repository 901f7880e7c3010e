use Rattle.std.proofs.Common.{rules, ◌≡◌, ◌<◌, ◌≤◌, ◌+◌, true, length, arith, subst}
use Rattle.std.proofs.lemmas.List.{length-replicate}
use Rattle.can_segment.specs.IdleUntil.{IdlesUntil}
use Rattle.can_segment.specs.Levels.{recessive_levels}
use Rattle.can_segment.specs.UneventfulBits.{MakeIdleBits}
use Rattle.can_segment.specs.UneventfulBits.MakeIdleBits.{no_idle_bit}
use Rattle.can_segment.proofs.IdleBits.{idle_burst}
use Rattle.can_segment.proofs.IdleBursts.{are_recessive}
use Rattle.can_segment.proofs.UneventfulBursts.{Between, value_of}
use Rattle.can_segment.proofs.segment.Segment.idle_burst.Goals as goal
use Rattle.can_segment.proofs.segment.Segment.idle_burst.Goals.{After-extend_recessive, then-made-self, else-made-self}

pub returns-then-most-eq0-clause-bits : goal.returns-then-most-eq0-clause-bits
returns-then-most-eq0-clause-bits c = no_idle_bit

-- until when the bus idles, known from a call before or found in this one
idles : (c : After-extend_recessive) → IdlesUntil c.if-made-self.until c.self.inside.plan c.self.inside.made
    c.self.inside.faults c.self.inside.deferred c.self.inside.talkers.items c.self.inside.controllers.items
idles c =
    let inside = c.self.inside in
    let here : c.len-made.result ≡ length inside.made.levels.items = search rules in
    let later : c.len-made.result < c.if-made-self.until =
    omega (arith, c.if-most-eq0.false, c.min.ensures, c.saturating_sub-most.ensures) in
    elim c.if-made-self.branch [
      | then-made-self w ↦ rw w.until-is (c.self.invariant.3 (omega (arith, later, here, w.until-is)))
      | else-made-self w ↦
          let known = rw (w.as_slice.ensures.value, w.as_slice-else-made-self.ensures.value) at
          w.idle_until-until.ensures (omega (arith, later, w.until-is)) in
          rw w.until-is known
    ]

-- what stands behind these bits, and that they were made one after another
ran : (c : After-extend_recessive) →
    Between c.self.inside.plan c.self.inside.faults c.extend_recessive.new.self.items c.self.inside.made.events.items
    c.self.inside.made.counters.items c.self.inside.deferred c.self.inside.talkers.items c.self.inside.controllers.items
    × MakeIdleBits (value_of c.self.inside.plan c.self.inside.made.levels.items c.self.inside.made.events.items
    c.self.inside.made.counters.items c.self.inside.deferred c.self.inside.controllers.items c.self.inside.idle_until)
    (value_of c.self.inside.plan c.extend_recessive.new.self.items c.self.inside.made.events.items
    c.self.inside.made.counters.items c.self.inside.deferred c.self.inside.controllers.items c.if-made-self.until)
ran c =
    let inside = c.self.inside in
    let made = inside.made in
    let until = c.if-made-self.until in
    let here : c.len-made.result ≡ length made.levels.items = search rules in
    let idle = idles c in
    let count = c.saturating_sub-most.result in
    let size = length-replicate count true in
    let within : length made.levels.items + length (recessive_levels count) ≤ until = omega (
      arith,
      here,
      size,
      c.min.ensures,
      c.saturating_sub-most.ensures,
      c.if-most-eq0.false,
    ) in
    rw c.extend_recessive.ensures.items (idle_burst inside.plan inside.faults made.levels.items made.events.items
    made.counters.items (recessive_levels count) inside.deferred until inside.talkers.items inside.controllers.items
    inside.idle_until until (are_recessive count) idle.idle idle.within
    (record { holds = c.self.invariant.0; stands = c.self.invariant.1; is_deferred = c.self.invariant.2 })
    idle.faultless (λ some. within)
    (λ none. absurd (omega (arith, none, size, c.if-most-eq0.false))))

pub invariant_of-self : goal.invariant_of-self
invariant_of-self c =
    let behind = (ran c).0 in
    let idle = idles c in (
      behind.holds,
      behind.stands,
      behind.is_deferred,
      λ before. record {
        idle = idle.idle;
        faultless = idle.faultless;
        within = idle.within;
        room = omega (arith, idle.room, c.extend_recessive.ensures.capacity);
      },
    )

pub returns-clause-bits : goal.returns-clause-bits
returns-clause-bits c =
    let inside = c.self.inside in
    let behind = value_of inside.plan c.extend_recessive.new.self.items inside.made.events.items
    inside.made.counters.items inside.deferred inside.controllers.items c.if-made-self.until in
    subst (λ s. MakeIdleBits s behind) c.self.view_is (ran c).1
