use Rattle.std.proofs.Common.{◌≡◌, ◌++◌, ◌∷◌, [], length, slice_get, append_assoc, length-append, refl, sym}
use Rattle.std.proofs.Common.{ap, subst, arith, ◌∙◌}
use Rattle.std.specs.Vec.Iter.{into_iter_items}
use Rattle.gw_site.proofs.Pairs.{pairs_more}
use Rattle.gw_site.specs.Pairs.{Pairs}
use Rattle.gw_threaded.specs.Parts.{IsLaneFrom}
use Rattle.gw_threaded.proofs.Walks.{come_more, come_none}
use Rattle.gw_threaded.proofs.parting.meet.Goals as goal

pub loop-courier-init : goal.loop-courier-init
loop-courier-init g c = (
  refl,
  refl,
  subst (Pairs _ []) (sym c.in_ok-lanes.ensures.items)
      (record { at = λ k courier lane e f. absurd (cc e); size = refl }),
  come_none c.args.seats.now,
)

pub loop-courier-preserved : goal.loop-courier-preserved
loop-courier-preserved g c =
    let l = c.loop-courier in
    let more = length-append l.yielded (c.in-Some.courier ∷ []) in
    let here : l.place ≡ length l.yielded = l.invariant.1 in (
      append_assoc l.yielded (c.in-Some.courier ∷ []) (into_iter_items c.next.new.self)
          ∙ ap (λ rest. l.yielded ++ rest) (sym c.in-Some.ensures.steps.0) ∙ l.invariant.0,
      omega (arith, here, more),
      subst (Pairs (IsLaneFrom c.args.leads.now) (l.yielded ++ c.in-Some.courier ∷ [])) (sym c.in_ok-push_one.ensures)
          (pairs_more (IsLaneFrom c.args.leads.now) l.yielded l.lanes.items c.in-Some.courier _
          (record { hand_is = refl; lead_is = ap (slice_get c.args.leads.now) (sym here) ∙ c.lead_at-lead.ensures })
          l.invariant.2),
      come_more l.yielded c.in-Some.courier c.args.seats.now l.seats c.put.new.seats
          (ap (slice_get c.put.new.seats) (sym here) ∙ c.put.ensures.there)
          (λ j ne. c.put.ensures.others j (λ e. ne (e ∙ here))) c.put.ensures.size l.invariant.3,
    )
