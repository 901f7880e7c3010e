-- What filling a hand keeps.
use Rattle.std.proofs.Common.{◌<◌, length, refl, ◌∙◌}
use Rattle.bx_rx.specs.declared.rx_frame.RxFrame.{RxFrame}
use Rattle.gw_route.specs.RouteHand.{HandValue, HasPast, room_in}
use Rattle.gw_route.specs.Turn.{FillKeeps, none_given, taken_out}
use Rattle.gw_route.proofs.Matches.{matches-asked, matches-taken}
use Rattle.gw_route.proofs.Turns.{logs-taken}

pub keeps-all : (h : HandValue) → FillKeeps h h
keeps-all h = record {
  matches = λ past l. l;
  log = λ l. l;
  queue_is = refl;
  turns_is = refl;
  aborts_is = refl;
  aborted_is = refl;
  rewrites_is = refl;
}

pub keeps-asked : (h : HandValue) → FillKeeps h (none_given h)
keeps-asked h = record {
  matches = λ past l. matches-asked h past l;
  log = λ l. l;
  queue_is = refl;
  turns_is = refl;
  aborts_is = refl;
  aborted_is = refl;
  rewrites_is = refl;
}

pub keeps-taken : (h : HandValue) (x : RxFrame) → length h.in_hand < room_in h.queue → FillKeeps h (taken_out h x)
keeps-taken h x less = record {
  matches = λ past l. matches-taken h past x less l;
  log = λ l. logs-taken h x l;
  queue_is = refl;
  turns_is = refl;
  aborts_is = refl;
  aborted_is = refl;
  rewrites_is = refl;
}

pub keeps-then : (a b c : HandValue) → FillKeeps a b → FillKeeps b c → FillKeeps a c
keeps-then a b c first then = record {
  matches = λ past l. then.matches past (first.matches past l);
  log = λ l. then.log (first.log l);
  queue_is = then.queue_is ∙ first.queue_is;
  turns_is = then.turns_is ∙ first.turns_is;
  aborts_is = then.aborts_is ∙ first.aborts_is;
  aborted_is = then.aborted_is ∙ first.aborted_is;
  rewrites_is = then.rewrites_is ∙ first.rewrites_is;
}

pub past-kept : (a b : HandValue) → FillKeeps a b → HasPast a → HasPast b
past-kept a b keeps has = (has.0, keeps.matches has.0 has.1)
