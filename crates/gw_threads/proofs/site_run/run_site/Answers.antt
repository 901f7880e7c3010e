use Rattle.std.proofs.Common.{◌≡◌, length, ap, arith, subst, sym, ◌∙◌}
use Rattle.gw_site.specs.Sites.{SegmentRuns}
use Rattle.can_segment.proofs.Shown.{put_back}
use Rattle.gw_threads.proofs.site_run.run_site.Goals as goal

pub returns-in-Ok-clause-runs : goal.returns-in-Ok-clause-runs
returns-in-Ok-clause-runs g c =
    let runs = c.in-Ok.ensures.runs in
    let ports = c.args.site.ports in
    let size : length c.make_all_bits-made.new.ports ≡ length ports.items =
    runs.ports.size ∙ ap length c.as_mut_slice.ensures.value in
    let back = put_back ports.len c.make_all_bits-made.new.ports ports.items
    (omega (arith, c.as_mut_slice.ensures.len, ap length c.as_mut_slice.ensures.value, size)) (sym size) in
    rw back
    (subst (λ from. SegmentRuns g.P.TxBus.bus_after g.P.TxBus.transmitting g.P.RxSink.sink_after
    g.P.RxSink.port_stays c.args.site.segment c.make_all_bits-made.new.segment from
    c.make_all_bits-made.new.ports) c.as_mut_slice.ensures.value runs)
