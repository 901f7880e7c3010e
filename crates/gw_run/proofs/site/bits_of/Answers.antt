use Rattle.std.proofs.Common.{rules, ◌<◌, ◌≤◌, length, refl, sym, ap, subst, arith, ◌∙◌}
use Rattle.can_segment.proofs.Shown.{put_back}
use Rattle.gw_site.proofs.Sites.{leave-self, site_quietly}
use Rattle.bx_controller.specs.Ports.{bus_leaves-self, port_of_bus}
use Rattle.bx_core.specs.Stands.{BusKeeps, bus_keeps-self}
use Rattle.gw_run.specs.Ports.{BusDid, PortLeaves, on_bus}
use Rattle.gw_run.specs.Sites.{SiteHolds, PortsLeave}
use Rattle.bx_controller.specs.Ports.{SinkStands}
use Rattle.can_segment.proofs.UneventfulBits.{left_uneventfully}
use Rattle.gw_run.proofs.Ahead.{ahead_on, moves_on}
use Rattle.gw_run.proofs.site.bits_of.Goals as goal

pub loop-site-init : goal.loop-site-init
loop-site-init g c = (
  record {
    holds = c.requires.holds;
    plan_is = refl;
    ports = leave-self PortLeaves c.args.site.now.ports.items
        (λ x. port_of_bus BusKeeps x x (bus_leaves-self BusKeeps bus_keeps-self x));
  },
  c.requires.at_most,
  c.requires.ahead,
)

pub make_bit-requires-clause-holds : goal.make_bit-requires-clause-holds
make_bit-requires-clause-holds g c = subst (λ ports. SiteHolds c.idle_on.new.site.segment ports)
    (sym c.as_mut_slice.ensures.value) c.idle_on.ensures.idles.moves.holds

pub loop-site-preserved : goal.loop-site-preserved
loop-site-preserved g c =
    let made = c.in_ok-make_bit.ensures in
    let quiet = c.uneventful_bits.ensures in
    let passed = left_uneventfully quiet.bits in
    let site = c.idle_on.new.site in
    let ports = site.ports in
    let before = moves_on c.args.site.now c.loop-site.site site c.loop-site.invariant.0 c.idle_on.ensures.idles.moves
    in
    let left = subst (λ from. PortsLeave from c.make_bit.new.ports) c.as_mut_slice.ensures.value made.ports in
    let back = put_back ports.len c.make_bit.new.ports ports.items
    (omega (arith, c.as_mut_slice.ensures.len, ap length c.as_mut_slice.ensures.value, left.size))
    (sym left.size) in
    let holds = subst (λ all. SiteHolds c.make_bit.new.segment all) (sym back) made.holds in (
      moves_on c.args.site.now site _ before (record {
        holds = site_quietly BusDid on_bus SinkStands c.make_bit.new.segment c.uneventful_bits.new.self _ passed holds;
        plan_is = passed.plan_is ∙ made.plan;
        ports = subst (λ all. PortsLeave ports.items all) (sym back) left;
      }),
      search rules,
      (
        length c.make_bit.new.segment.levels,
        search rules,
        record { before = c.make_bit.new.segment; made_is = refl; quiet = quiet.bits },
      ),
    )

pub loop-site-smaller : goal.loop-site-smaller
loop-site-smaller g c =
    let less : length c.idle_on.new.site.segment.levels < c.args.until = search rules in
    let passed = left_uneventfully c.uneventful_bits.ensures.bits in
    let before = c.idle_on.ensures.idles.longer in
    omega (arith, less, before, passed.longer, c.in_ok-make_bit.ensures.longer)

pub returns : goal.returns
returns g c =
    let held = c.idle_on.ensures.idles in
    let far : c.args.until ≤ length c.idle_on.new.site.segment.levels = search rules in
    record {
      moves = moves_on c.args.site.now c.loop-site.site c.idle_on.new.site c.loop-site.invariant.0 held.moves;
      ahead = ahead_on held.ahead.0 c.args.until c.idle_on.new.site.segment held.ahead.1 far held.ahead.2;
      at_most = held.at_most c.args.bits c.requires.until c.loop-site.invariant.1;
    }
