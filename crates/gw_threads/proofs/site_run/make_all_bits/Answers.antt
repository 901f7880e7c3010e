use Rattle.std.proofs.Common.{length, ap, arith, refl, subst, sym, ◌-◌, ◌∙◌}
use Rattle.gw_site.proofs.Sites.{leave-self, leave-on}
use Rattle.gw_threads.proofs.Seats.{looked_on, may_go_on, may_stay, may_tick, same-self, same-on, ticked_on}
use Rattle.gw_threads.specs.Clocks.{MayGo}
use Rattle.gw_threads.specs.declared.views.Pace.{Pace}
use Rattle.gw_threads.proofs.site_run.make_all_bits.Goals as goal

pub loop-made-init : goal.loop-made-init
loop-made-init g c = (
  c.requires.new.holds,
  refl,
  ap length c.requires.new.no_levels,
  leave-self g.P.RxSink.port_stays c.args.ports.now
      (λ x. g.met.P.RxSink.port_of_bus x x (g.met.P.TxBus.bus_stays_self x)),
  c.requires.clock,
  may_stay c.args.clock.now,
  omega arith,
)

pub wait_for_others-requires : goal.wait_for_others-requires
wait_for_others-requires g c =
    subst (MayGo c.loop-made.limit) (sym (c.is_stopped.ensures.unset c.if-is_stopped.false)) c.loop-made.invariant.5

pub tick-requires : goal.tick-requires
tick-requires g c =
    let l = c.loop-made in
    let looked = same-on l.clock c.is_stopped.new.self c.wait_for_others.new.clock
    (same-self l.clock c.is_stopped.new.self (c.is_stopped.ensures.unset c.if-is_stopped.false)) c.in_ok-limit.ensures.same in
    let at = looked_on c.args.pace l.made l.clock c.wait_for_others.new.clock looked l.invariant.4 in
    may_tick c.args.pace l.made c.in-Ok.now c.in_ok-limit.limit c.wait_for_others.new.clock at c.in_ok-limit.ensures.go
    (omega (arith, c.in-Ok.ensures.longer, l.invariant.2, c.in-Ok.ensures.made))
    (omega (arith, c.in-Ok.ensures.made, c.in-Ok.ensures.most))

pub loop-made-preserved : goal.loop-made-preserved
loop-made-preserved g c =
    let l = c.loop-made in
    let was = l.invariant in
    let looked = same-on l.clock c.is_stopped.new.self c.wait_for_others.new.clock
    (same-self l.clock c.is_stopped.new.self (c.is_stopped.ensures.unset c.if-is_stopped.false)) c.in_ok-limit.ensures.same in
    let at = looked_on c.args.pace l.made l.clock c.wait_for_others.new.clock looked was.4 in (
      c.in-Ok.ensures.holds,
      c.in-Ok.ensures.plan ∙ was.1,
      sym c.in-Ok.ensures.made,
      leave-on g.P.RxSink.port_stays c.args.ports.now l.ports c.make_bits.new.ports
          (λ x y z. g.met.P.RxSink.port_stays_on x y z) was.3 c.in-Ok.ensures.ports,
      ticked_on c.args.pace l.made c.in-Ok.now c.wait_for_others.new.clock c.tick.new.self c.tick.ensures.same
          c.tick.ensures.ticked (omega (arith, c.in-Ok.ensures.longer, was.2, c.in-Ok.ensures.made)) at,
      may_go_on c.in_ok-limit.limit (c.in-Ok.now - l.made) c.wait_for_others.new.clock c.tick.new.self
          c.tick.ensures.same c.tick.ensures.ticked c.in_ok-limit.ensures.go,
      omega (arith, c.in-Ok.ensures.made, c.in-Ok.ensures.most, c.in_ok-limit.ensures.go.most, ap (λ (p : Pace). p.bits) at.pace_is),
    )
