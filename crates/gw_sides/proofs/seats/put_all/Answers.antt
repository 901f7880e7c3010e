use Rattle.std.proofs.Common.{◌≡◌, ◌<◌, ◌++◌, ◌∷◌, [], Some, length, slice_get, append_assoc, length-append, refl}
use Rattle.std.proofs.Common.{sym, ap, arith, ◌∙◌}
use Rattle.std.specs.Vec.Iter.{into_iter_items}
use Rattle.gw_opening.specs.Openings.{routes_at}
use Rattle.gw_sides.specs.Seats.{seat_of}
use Rattle.gw_sides.proofs.SeatLaws.{holds_more, leaves_more, leaves-self}
use Rattle.gw_sides.proofs.seats.put_all.Goals as goal

pub loop-side-init : goal.loop-side-init
loop-side-init g c = (
  refl,
  refl,
  omega (arith, c.requires.few, ap length c.into_iter-side-iterator.ensures.into_iter_gives.0),
  record { at = λ n side e. absurd (cc e) },
  leaves-self c.args.script.now c.args.controller c.args.seats.now,
)

pub loop-side-preserved : goal.loop-side-preserved
loop-side-preserved g c =
    let l = c.loop-side in
    let s = c.args.script.now in
    let d = c.args.controller in
    let whole = ap length l.invariant.0 in
    let rest = ap length c.in-Some.ensures.steps.0 in
    let less : length l.yielded < routes_at s d =
    omega (arith, whole, rest, length-append l.yielded (into_iter_items l.side-iterator), l.invariant.2) in
    let place : c.seat_of.result ≡ seat_of s d (length l.yielded) =
    c.seat_of.ensures.value ∙ ap (seat_of s d) l.invariant.1 in
    let there : slice_get c.put.new.seats (seat_of s d (length l.yielded)) ≡ Some (Some c.in-Some.side) =
    ap (slice_get c.put.new.seats) (sym place) ∙ c.put.ensures.there in (
      append_assoc l.yielded (c.in-Some.side ∷ []) (into_iter_items c.next.new.self)
          ∙ ap (λ rest. l.yielded ++ rest) (sym c.in-Some.ensures.steps.0) ∙ l.invariant.0,
      omega (arith, l.invariant.1, length-append l.yielded (c.in-Some.side ∷ [])),
      l.invariant.2,
      holds_more s d l.yielded c.in-Some.side l.seats c.put.new.seats less there
          (λ k ne. c.put.ensures.others k (λ e. ne (e ∙ place))) l.invariant.3,
      leaves_more s d (length l.yielded) c.args.seats.now l.seats c.put.new.seats less
          (λ k ne. c.put.ensures.others k (λ e. ne (e ∙ place))) c.put.ensures.size l.invariant.4,
    )
