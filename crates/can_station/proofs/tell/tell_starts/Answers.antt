use Rattle.std.proofs.Common.{ap, sym, ◌+◌, get_or, ◌∙◌, ◌++◌, arith, append_assoc}
use Rattle.std.proofs.lemmas.List.{append-nil}
use Rattle.can_station.specs.Lines.{lines}
use Rattle.can_station.specs.Tellings.{start_of}
use Rattle.can_station.proofs.Tellings.{reported-nil, reported_next}
use Rattle.can_station.proofs.tell.tell_starts.Goals as goal

pub loop-place-init : goal.loop-place-init
loop-place-init c = record {
  value = sym (ap (λ es. c.args.events.now.items ++ es) (reported-nil start_of c.args.bit c.args.first)
      ∙ append-nil c.args.events.now.items);
  len = omega arith;
  capacity = omega arith;
}

pub loop-place-preserved : goal.loop-place-preserved
loop-place-preserved c =
    let more = lines c.args.bit (c.args.first + c.loop-place.place)
    (start_of (get_or c.args.members.now c.loop-place.place c.index-members-place.result).action) in
    record {
      value = c.tell_start.ensures.value ∙ ap (λ es. es ++ more) c.loop-place.invariant.value
          ∙ append_assoc c.args.events.now.items _ more
          ∙ ap (λ es. c.args.events.now.items ++ es)
          (sym (reported_next start_of c.args.bit c.args.first c.args.members.now c.loop-place.place
          c.index-members-place.result (omega (arith, c.loop-place-test.true))));
      len = omega (arith, c.tell_start.ensures.len, c.loop-place.invariant.len);
      capacity = omega (arith, c.tell_start.ensures.capacity, c.loop-place.invariant.capacity);
    }
