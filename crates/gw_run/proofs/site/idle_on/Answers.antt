use Rattle.std.proofs.Common.{rules, ◌≤◌, length, refl, arith, inl, inr}
use Rattle.bx_controller.specs.Ports.{SinkStands, bus_leaves-self, port_of_bus}
use Rattle.bx_core.specs.Stands.{BusKeeps, bus_keeps-self}
use Rattle.can_segment.proofs.IdleBits.{left_idle}
use Rattle.can_segment.specs.UneventfulBits.MakeUneventfulBits.{no_bit}
use Rattle.gw_site.proofs.Sites.{leave-self, site_quietly}
use Rattle.gw_run.specs.Ports.{BusDid, PortLeaves, on_bus}
use Rattle.gw_run.proofs.site.idle_on.Goals as goal

pub returns-clause-idles : goal.returns-clause-idles
returns-clause-idles c =
    let site = c.args.site.now in
    let left = left_idle c.idle_bits.ensures.bits in
    let idled = c.idle_bits.new.self in
    let few : length idled.levels ≤ c.args.until = search rules in
    record {
      moves = record {
        holds = site_quietly BusDid on_bus SinkStands site.segment idled site.ports.items left c.requires.holds;
        plan_is = left.plan_is;
        ports = leave-self PortLeaves site.ports.items
            (λ x. port_of_bus BusKeeps x x (bus_leaves-self BusKeeps bus_keeps-self x));
      };
      ports_are = refl;
      ahead = (length idled.levels, few, record { before = idled; made_is = refl; quiet = no_bit });
      longer = left.longer;
      at_most = λ bits until before. omega (arith, few, until);
    }

pub returns-then-not-none_waits-clause-reaches : goal.returns-then-not-none_waits-clause-reaches
returns-then-not-none_waits-clause-reaches c reaches = elim reaches [
  | inl far ↦ far
  | inr idle ↦ absurd (c.none_waits.ensures.some (search rules) (rw (← c.as_slice.ensures.value) at idle.0))
]

pub returns-clause-reaches : goal.returns-clause-reaches
returns-clause-reaches c reaches = elim reaches [
  | inl far ↦ omega (arith, far, (left_idle c.idle_bits.ensures.bits).longer)
  | inr idle ↦ c.idle_bits.ensures.idle idle.1
]
