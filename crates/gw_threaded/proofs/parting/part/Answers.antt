use Rattle.std.proofs.Common.{rules, ◌≡◌, ◌++◌, ◌∷◌, [], length, slice_get, append_assoc}
use Rattle.std.proofs.Common.{length-append, refl, sym, ap, subst, arith, ◌∙◌}
use Rattle.std.proofs.lemmas.Iterator.Adapters.{YieldsList-from_vec}
use Rattle.std.proofs.lemmas.Iterator.Consumers.{YieldsList-end}
use Rattle.std.proofs.lemmas.Option.{slice_get_within}
use Rattle.std.specs.Vec.Iter.{into_iter_items}
use Rattle.gw_site.proofs.Pairs.{pairs_more}
use Rattle.gw_site.specs.Pairs.{Pairs}
use Rattle.gw_threaded.specs.Parts.{lead_of, HaveParted, IsCourierOf, LeavesBehind}
use Rattle.gw_threaded.proofs.Walks.{same_above, still_there, walked_all, walked_room}
use Rattle.gw_threaded.proofs.parting.part.Goals as goal

pub loop-lane-init : goal.loop-lane-init
loop-lane-init g c = (
  refl,
  refl,
  subst (Pairs _ []) (sym c.in_ok-leads.ensures.items) (record { at = λ k lane lead e f. absurd (cc e); size = refl }),
  subst (Pairs _ []) (sym c.in_ok-couriers.ensures.items)
      (record { at = λ k lane courier e f. absurd (cc e); size = refl }),
  λ place above. refl,
  λ place above. refl,
  refl,
  refl,
)

pub take-side-requires-clause-full : goal.take-side-requires-clause-full
take-side-requires-clause-full g c =
    let l = c.loop-lane in
    let room = walked_room l.yielded c.in-Some.lane (into_iter_items c.next.new.self)
    (into_iter_items l.lane-iterator) c.args.lanes.items (l.invariant.0
    ∙ c.into_iter-lane-iterator.ensures.into_iter_gives.0) c.in-Some.ensures.steps.0 in
    still_there (length c.args.lanes.items) l.place c.args.seats.now l.seats c.requires.sides
    (omega (arith, room, l.invariant.1)) l.invariant.4

pub take-side-requires-clause-within : goal.take-side-requires-clause-within
take-side-requires-clause-within g c =
    let l = c.loop-lane in
    let room = walked_room l.yielded c.in-Some.lane (into_iter_items c.next.new.self)
    (into_iter_items l.lane-iterator) c.args.lanes.items (l.invariant.0
    ∙ c.into_iter-lane-iterator.ensures.into_iter_gives.0) c.in-Some.ensures.steps.0 in
    let side = still_there (length c.args.lanes.items) l.place c.args.seats.now l.seats c.requires.sides
    (omega (arith, room, l.invariant.1)) l.invariant.4 in
    slice_get_within l.seats l.place _ side.1

pub take-gate-requires-clause-full : goal.take-gate-requires-clause-full
take-gate-requires-clause-full g c =
    let l = c.loop-lane in
    let room = walked_room l.yielded c.in-Some.lane (into_iter_items c.next.new.self)
    (into_iter_items l.lane-iterator) c.args.lanes.items (l.invariant.0
    ∙ c.into_iter-lane-iterator.ensures.into_iter_gives.0) c.in-Some.ensures.steps.0 in
    still_there (length c.args.lanes.items) l.place c.args.gates.now l.gates c.requires.gates
    (omega (arith, room, l.invariant.1)) l.invariant.5

pub take-gate-requires-clause-within : goal.take-gate-requires-clause-within
take-gate-requires-clause-within g c =
    let l = c.loop-lane in
    let room = walked_room l.yielded c.in-Some.lane (into_iter_items c.next.new.self)
    (into_iter_items l.lane-iterator) c.args.lanes.items (l.invariant.0
    ∙ c.into_iter-lane-iterator.ensures.into_iter_gives.0) c.in-Some.ensures.steps.0 in
    let gate = still_there (length c.args.lanes.items) l.place c.args.gates.now l.gates c.requires.gates
    (omega (arith, room, l.invariant.1)) l.invariant.5 in
    slice_get_within l.gates l.place _ gate.1

pub loop-lane-preserved : goal.loop-lane-preserved
loop-lane-preserved g c =
    let l = c.loop-lane in
    let more = length-append l.yielded (c.in-Some.lane ∷ []) in
    let here : l.place ≡ length l.yielded = l.invariant.1 in (
      append_assoc l.yielded (c.in-Some.lane ∷ []) (into_iter_items c.next.new.self)
          ∙ ap (λ rest. l.yielded ++ rest) (sym c.in-Some.ensures.steps.0) ∙ l.invariant.0,
      omega (arith, here, more),
      subst (Pairs (λ k lane lead. lead ≡ lead_of lane) (l.yielded ++ c.in-Some.lane ∷ []))
          (sym c.in_ok-push_one.ensures)
          (pairs_more (λ k lane lead. lead ≡ lead_of lane) l.yielded l.leads.items c.in-Some.lane _ refl l.invariant.2),
      subst (Pairs (IsCourierOf c.args.seats.now c.args.gates.now) (l.yielded ++ c.in-Some.lane ∷ []))
          (sym c.in_ok-push_one-2.ensures)
          (pairs_more (IsCourierOf c.args.seats.now c.args.gates.now) l.yielded l.couriers.items c.in-Some.lane _
          (record {
            hand_is = refl;
            side_there = ap (slice_get c.args.seats.now) (sym here) ∙ sym (l.invariant.4 l.place (omega arith))
                ∙ c.take-side.ensures.was;
            gate_there = ap (slice_get c.args.gates.now) (sym here) ∙ sym (l.invariant.5 l.place (omega arith))
                ∙ c.take-gate.ensures.was;
          }) l.invariant.3),
      same_above l.place c.args.seats.now l.seats c.take-side.new.seats c.take-side.ensures.others l.invariant.4,
      same_above l.place c.args.gates.now l.gates c.take-gate.new.seats c.take-gate.ensures.others l.invariant.5,
      c.take-side.ensures.size ∙ l.invariant.6,
      c.take-gate.ensures.size ∙ l.invariant.7,
    )

pub returns-clause-parted : goal.returns-clause-parted
returns-clause-parted g c =
    let l = c.loop-lane in
    let whole = walked_all l.yielded (into_iter_items l.lane-iterator) c.args.lanes.items
    (l.invariant.0 ∙ c.into_iter-lane-iterator.ensures.into_iter_gives.0)
    (YieldsList-end (YieldsList-from_vec {s = c.into_iter-lane-iterator.result} c.args.lanes.items (search rules)
    (search rules)) l.yielded l.lane-iterator l.yielded_by c.next.result c.next.new.self c.in-None.is
    c.next.ensures.steps).1 in
    subst (λ lanes. HaveParted c.args.seats.now c.args.gates.now lanes l.leads.items l.couriers.items) whole
    (record { leads_are = l.invariant.2; couriers_are = l.invariant.3 })

pub returns-clause-leaves : goal.returns-clause-leaves
returns-clause-leaves g c =
    let l = c.loop-lane in
    let whole = walked_all l.yielded (into_iter_items l.lane-iterator) c.args.lanes.items
    (l.invariant.0 ∙ c.into_iter-lane-iterator.ensures.into_iter_gives.0)
    (YieldsList-end (YieldsList-from_vec {s = c.into_iter-lane-iterator.result} c.args.lanes.items (search rules)
    (search rules)) l.yielded l.lane-iterator l.yielded_by c.next.result c.next.new.self c.in-None.is
    c.next.ensures.steps).1 in
    subst (λ lanes. LeavesBehind (length lanes) c.args.seats.now l.seats) whole
    (subst (λ n. LeavesBehind n c.args.seats.now l.seats) l.invariant.1
    (record { others = l.invariant.4; size = l.invariant.6 }))
