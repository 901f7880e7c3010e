-- As long as batons are left, those that were taken stand in their places.
use Rattle.std.proofs.Common.{◌<◌, [], ◌∷◌, ◌++◌, Some, length, slice_get, refl, sym, ap, subst}
use Rattle.std.proofs.Common.{◌∙◌, arith}
use Rattle.std.proofs.lemmas.List.{length-set}
use Rattle.gw_pool.specs.declared.account.Account.{Account}
use Rattle.gw_pool.specs.Pool.{weigh}
use Rattle.gw_pool.specs.Couriers.{CourierRuns}
use Rattle.gw_pool.proofs.Back.{AreBackBy, one_back, all_back}
use Rattle.gw_pool.proofs.Fair.{weigh-append}
use Rattle.gw_pool.proofs.collecting.take_all.Goals as goal

pub loop-baton-init : goal.loop-baton-init
loop-baton-init g c = (
  tt,
  tt,
  c.requires.parts,
  refl,
  c.requires.size,
  ([], (λ h. omega arith), (λ k x there some. absurd (omega (arith, some)))),
)

pub loop-baton-preserved : goal.loop-baton-preserved
loop-baton-preserved g c =
    let Back = CourierRuns {G = g.row.G.Denot} g.S.RouteTx.route_after g.S.RouteTx.stays in
    let l = c.loop-baton in
    let got = l.invariant.5 in
    let place = c.place-place.result in
    let taken = c.in-Some-collect.ensures.taken in
    let within : place < length l.slots = omega (arith, c.place-place.ensures.within, l.invariant.4) in (
      tt,
      tt,
      ap (λ (v : Account). v.parts) taken,
      ap (λ (v : Account). v.put) taken ∙ l.invariant.3,
      ap length c.set_slot.ensures ∙ length-set l.slots place (Some c.end.result) ∙ l.invariant.4,
      (
        got.0 ++ place ∷ [],
        (λ h. let more = ap (λ (v : Account). weigh h v.taken) taken in
            let same = ap h c.place-place.ensures.place in
            omega (
              arith,
              more,
              same,
              got.1 h,
              weigh-append h l.seat.account.taken (c.in-Some-collect.baton.place ∷ []),
              weigh-append h got.0 (place ∷ []),
            )),
        subst (λ slots. AreBackBy Back g.J.Dealing.dealt slots (got.0 ++ place ∷ [])) (sym c.set_slot.ensures)
            (one_back Back g.J.Dealing.dealt l.slots got.0 place c.end.result within
            (λ start there. c.end.ensures start (ap (slice_get g.J.Dealing.dealt) (sym c.place-place.ensures.place)
            ∙ there)) got.2),
      ),
    )

pub returns-in_default : goal.returns-in_default
returns-in_default g c =
    let l = c.loop-baton in
    let got = l.invariant.5 in
    all_back (CourierRuns {G = g.row.G.Denot} g.S.RouteTx.route_after g.S.RouteTx.stays) g.J.Dealing.dealt l.slots got.0
    l.invariant.4
    (λ h. let all = c.in_default.ensures.all h in
    let put = ap (weigh h) l.invariant.3 in
    omega (arith, all, put, got.1 h, c.requires.left h)) got.2
