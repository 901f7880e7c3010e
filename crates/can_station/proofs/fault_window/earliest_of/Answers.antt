use Rattle.std.proofs.Common.{rules, ◌≡◌, ◌-◌, ◌+◌, ◌<◌, get_or, length, subst, sym, arith}
use Rattle.std.proofs.lemmas.Option.{slice_get-get_or, slice_get_within}
use Rattle.can_station.specs.declared.fault_window.BitRange.{BitRange}
use Rattle.can_station.proofs.Earliest.{EarliestFrom, earliest_more}
use Rattle.can_station.proofs.fault_window.earliest_of.Goals as goal

pub loop-place-init : goal.loop-place-init
loop-place-init c = record {
  size = search rules;
  at = λ k j noted range from order e f. absurd (let within = slice_get_within c.args.ranges.now j range f in
      omega (arith, within, from, order));
  least_is = λ j range from f. absurd (let within = slice_get_within c.args.ranges.now j range f in
      omega (arith, within, from));
}

pub loop-place-preserved : goal.loop-place-preserved
loop-place-preserved c =
    let place = c.loop-place.place - 1 in
    let ranges = c.args.ranges.now in
    let next : place + 1 ≡ c.loop-place.place = omega (arith, c.loop-place-test.true) in
    let none : BitRange = record { bit = 0; until = 0 } in
    let room : place < length ranges = omega (arith, c.loop-place.auto.place, c.loop-place-test.true) in
    earliest_more place ranges c.loop-place.earliest.items c.loop-place.least c.min-least.result
    (get_or ranges place none) room (slice_get-get_or ranges place none room)
    (omega (arith, c.min-least.ensures)) (omega (arith, c.min-least.ensures))
    (subst (λ p. EarliestFrom p ranges c.loop-place.earliest.items c.loop-place.least) (sym next)
    c.loop-place.invariant)

pub returns : goal.returns
returns c = record {
  size = c.loop-place.invariant.size;
  at = λ k j least range order e f. c.loop-place.invariant.at k j least range (omega (arith, c.loop-place-test.false)) order e f;
}
