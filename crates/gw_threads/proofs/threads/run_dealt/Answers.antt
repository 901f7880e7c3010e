-- The workers' seats come back to the pool, and with them all batons.
use Rattle.std.proofs.Common.{◌≡◌, ◌-◌, length, sym, ap, arith, subst, OnOk, ◌∙◌}
use Rattle.bx_core.specs.Lists.{Each}
use Rattle.gw_site.specs.Pairs.{Pairs}
use Rattle.gw_site.specs.Sites.{SiteRuns}
use Rattle.gw_pool.specs.Couriers.{CourierRuns}
use Rattle.gw_pool.specs.Pool.{account, IsOwed, IsWorkerSeat}
use Rattle.gw_pool.proofs.Joins.{pairs-on}
use Rattle.gw_threads.specs.Clocks.{HasPaced, pace_of}
use Rattle.gw_threads.specs.Retired.{AreRetired}
use Rattle.gw_threads.proofs.Retiring.{each_kept, owed_back, all_parts}
use Rattle.gw_threads.proofs.threads.run_dealt.Goals as goal

pub retire_all-requires-clause-back : goal.retire_all-requires-clause-back
retire_all-requires-clause-back g c =
    let s = c.start_all-started in
    each_kept (λ thread one. IsWorkerSeat thread.handle.promise.start.value.queue one) (IsWorkerSeat s.new.pool.queue)
    (λ thread. IsWorkerSeat c.in_ok-pool.pool.queue thread.handle.promise.start.value)
    s.new.worker_threads.items c.in_ok-made_seats-2.field-0.items
    (λ thread one start kept. record {
      queue_is = kept.queue_is ∙ start.queue_is ∙ sym s.ensures.queue;
      part = kept.part;
      even = kept.even;
    })
    (subst
    (λ r. OnOk r (Each (λ thread. IsWorkerSeat c.in_ok-pool.pool.queue thread.handle.promise.start.value)
    s.new.worker_threads.items)) c.in_ok-started.was s.ensures.workers)
    c.in_ok-made_seats-2.ensures.all

pub collect_all-requires-clause-parts : goal.collect_all-requires-clause-parts
collect_all-requires-clause-parts g c =
    let s = c.start_all-started in
    let rest =
    subst
    (λ r. OnOk r (s.new.pool.account ≡ account (c.in_ok-pool.pool.account.parts - c.args.workers)
    c.in_ok-pool.pool.account.put c.in_ok-pool.pool.account.taken)) c.in_ok-started.was s.ensures.rest in
    let all =
    subst (λ r. OnOk r (length s.new.worker_threads.items ≡ c.args.workers)) c.in_ok-started.was s.ensures.all in
    let back = subst (λ n. AreRetired n s.new.pool.account c.retire_all.new.pool.account)
    (c.in_ok-made_seats-2.ensures.all.size ∙ all) c.retire_all.ensures.back in
    all_parts (length c.args.couriers.items) c.args.workers c.in_ok-pool.pool.account s.new.pool.account
    c.retire_all.new.pool.account c.in_ok-pool.ensures.pool rest c.requires.few_workers back

pub collect_all-requires-clause-left : goal.collect_all-requires-clause-left
collect_all-requires-clause-left g c =
    let s = c.start_all-started in
    let rest =
    subst
    (λ r. OnOk r (s.new.pool.account ≡ account (c.in_ok-pool.pool.account.parts - c.args.workers)
    c.in_ok-pool.pool.account.put c.in_ok-pool.pool.account.taken)) c.in_ok-started.was s.ensures.rest in
    let all =
    subst (λ r. OnOk r (length s.new.worker_threads.items ≡ c.args.workers)) c.in_ok-started.was s.ensures.all in
    let back = subst (λ n. AreRetired n s.new.pool.account c.retire_all.new.pool.account)
    (c.in_ok-made_seats-2.ensures.all.size ∙ all) c.retire_all.ensures.back in
    subst (λ n. IsOwed n c.retire_all.new.pool.account) (sym (ap length c.requires.dealt))
    (owed_back (length c.args.couriers.items) c.args.workers c.in_ok-pool.pool.account s.new.pool.account
    c.retire_all.new.pool.account c.in_ok-pool.ensures.pool rest back)

pub returns-clause-sites : goal.returns-clause-sites
returns-clause-sites g c =
    let Run = SiteRuns g.P.TxBus.bus_after g.P.TxBus.transmitting g.P.RxSink.sink_after g.P.RxSink.port_stays in
    let s = c.start_all-started in
    pairs-on (λ k site thread. thread.handle.promise.start.value ≡ site) (λ k thread one. Run thread.handle.promise.start.value one)
    (λ k. Run) c.args.sites.items s.new.site_threads.items c.in_ok-made_sites-2.made_sites.items
    (λ k site thread one start kept. subst (λ v. Run v one) start kept)
    (subst
    (λ r. OnOk r (Pairs (λ k site thread. thread.handle.promise.start.value ≡ site) c.args.sites.items
    s.new.site_threads.items)) c.in_ok-started.was s.ensures.sites)
    c.in_ok-made_sites-2.ensures.all

pub returns-clause-couriers : goal.returns-clause-couriers
returns-clause-couriers g c =
    subst (λ dealt. Pairs (λ k. CourierRuns {G = g.row.G.Denot} g.S.RouteTx.route_after g.S.RouteTx.stays) dealt
    c.collect_all.result.items) c.requires.dealt c.collect_all.ensures

pub returns-clause-paced : goal.returns-clause-paced
returns-clause-paced g c =
    let s = c.start_all-started in
    let size : c.len.result ≡ length c.args.sites.items = omega (arith, c.len.ensures) in
    subst (λ n. HasPaced (pace_of n c.args.slack c.args.bits) c.args.workers s.new.clock) size
    (subst (λ p. HasPaced p c.args.workers s.new.clock) c.pace_of-pace.ensures
    (subst (λ r. OnOk r (HasPaced c.pace_of-pace.result c.args.workers s.new.clock)) c.in_ok-started.was
    s.ensures.paced))
