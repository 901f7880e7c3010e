use Rattle.std.proofs.Common.{ap, arith, ◌∙◌}
use Rattle.can_station.specs.declared.plan.SegmentPlan.{SegmentPlan}
use Rattle.can_segment.proofs.UneventfulBits.{left_uneventfully}
use Rattle.gw_site.proofs.Sites.{site_quietly}
use Rattle.gw_site.proofs.site.make_bits.Goals as goal

pub returns-clause-holds : goal.returns-clause-holds
returns-clause-holds g c = site_quietly g.P.TxBus.bus_after g.P.TxBus.transmitting g.P.RxSink.sink_after
    c.make_bit.new.segment c.uneventful_bits.new.self c.make_bit.new.ports
    (left_uneventfully c.uneventful_bits.ensures.bits) c.in_ok-make_bit.ensures.holds

pub returns-clause-plan : goal.returns-clause-plan
returns-clause-plan g c = (left_uneventfully c.uneventful_bits.ensures.bits).plan_is ∙ c.in_ok-make_bit.ensures.plan

pub returns-clause-longer : goal.returns-clause-longer
returns-clause-longer g c =
    (let left = left_uneventfully c.uneventful_bits.ensures.bits in omega (arith, left.longer, c.in_ok-make_bit.ensures.longer))

pub returns-clause-within : goal.returns-clause-within
returns-clause-within g c =
    let left = left_uneventfully c.uneventful_bits.ensures.bits in
    let here = ap (λ (plan : SegmentPlan). plan.bits) c.in_ok-make_bit.ensures.plan in
    let behind = ap (λ (plan : SegmentPlan). plan.bits) left.plan_is in
    omega (arith, here, behind, c.requires.still, c.in_ok-make_bit.ensures.longer, c.uneventful_bits.ensures.still)

pub returns-clause-quiet : goal.returns-clause-quiet
returns-clause-quiet g c = record {
  after_one = c.make_bit.new.segment;
  one = c.in_ok-make_bit.ensures.bit;
  quiet = c.uneventful_bits.ensures.bits;
}
