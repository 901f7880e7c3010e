use Rattle.std.proofs.Common.{◌≡◌, ◌<◌, ◌∷◌, [], Some, length, slice_get, length-append, refl, sym, ap, subst}
use Rattle.std.proofs.Common.{arith, ◌∙◌}
use Rattle.gw_opening.specs.Openings.{routes_at}
use Rattle.gw_sides.specs.Seats.{seat_of, HoldsAll}
use Rattle.gw_sides.proofs.SeatLaws.{holds_pushed, leaves_more, leaves-self, untaken_more}
use Rattle.gw_sides.proofs.seats.take_all.Goals as goal

pub loop-number-init : goal.loop-number-init
loop-number-init g c = (
  ap length c.in_ok-sides.ensures.items,
  subst (λ sides. HoldsAll c.args.script.now c.args.controller sides c.args.seats.now) (sym c.in_ok-sides.ensures.items)
      (record { at = λ n side e. absurd (cc e) }),
  leaves-self c.args.script.now c.args.controller c.args.seats.now,
  λ n above less. refl,
)

pub take-side-requires-clause-full : goal.take-side-requires-clause-full
take-side-requires-clause-full g c =
    let l = c.loop-number in
    let s = c.args.script.now in
    let full = c.requires.full l.number (omega (arith, c.loop-number-test.true)) in (
      full.0,
      ap (slice_get l.seats) c.seat_of.ensures.value
          ∙ l.invariant.3 l.number (omega arith) (omega (arith, c.loop-number-test.true, c.requires.few)) ∙ full.1,
    )

pub loop-number-preserved : goal.loop-number-preserved
loop-number-preserved g c =
    let l = c.loop-number in
    let s = c.args.script.now in
    let d = c.args.controller in
    let less : l.number < routes_at s d = omega (arith, c.loop-number-test.true, c.requires.few) in
    let place = c.seat_of.ensures.value in
    let was : slice_get c.args.seats.now (seat_of s d l.number) ≡ Some (Some c.take-side.result) =
    sym (l.invariant.3 l.number (omega arith) less) ∙ ap (slice_get l.seats) (sym place) ∙ c.take-side.ensures.was in
    let there = ap (λ n. slice_get c.args.seats.now (seat_of s d n)) l.invariant.0 ∙ was in (
      omega (
        arith,
        ap length c.in_ok-push_one.ensures,
        length-append l.sides.items (c.take-side.result ∷ []),
        l.invariant.0,
      ),
      subst (λ sides. HoldsAll s d sides c.args.seats.now) (sym c.in_ok-push_one.ensures)
          (holds_pushed s d l.sides.items c.take-side.result c.args.seats.now there l.invariant.1),
      leaves_more s d l.number c.args.seats.now l.seats c.take-side.new.seats less
          (λ k ne. c.take-side.ensures.others k (λ e. ne (e ∙ place))) c.take-side.ensures.size l.invariant.2,
      untaken_more s d l.number c.args.seats.now l.seats c.take-side.new.seats less
          (λ k ne. c.take-side.ensures.others k (λ e. ne (e ∙ place))) l.invariant.3,
    )
