-- The seat holds every place, and what it knows is tied to what waits.
use Rattle.std.proofs.Common.{◌≡◌, ◌-◌, ◌∙◌, ◌++◌, map, length, sym, ap, subst}
use Rattle.atomic_table.specs.Table.{Me}
use Rattle.bx_core.specs.Ties.{AllTied, NothingBeyond, as_left}
use Rattle.bx_shared.specs.declared.said.Said.{Said}
use Rattle.bx_shared.specs.declared.view.View.{View}
use Rattle.bx_shared.specs.Steps.{bus_of}
use Rattle.bx_shared.specs.Seats.{BusPlace}
use Rattle.bx_shared.specs.SeatParts.{bus_view}
use Rattle.bx_shared.specs.Sides.{BusAfter, RouteAfter}
use Rattle.bx_shared.specs.Closing.{AreAllIdle, AreAccounted, Ends, HasEnded, routes_of, waiting_in}
use Rattle.bx_shared.proofs.Leaving.{begins_left, few_wait}
use Rattle.bx_shared.proofs.Tying.{parts_of, all_idle, all_tied, accounted, ended, nothing_beyond, if_ok_more}
use Rattle.bx_shared.proofs.closing.end.Goals as goal

pub seal-word-requires-clause-all : goal.seal-word-requires-clause-all
seal-word-requires-clause-all c =
    let rs = c.bus.inside.seat.me.0.routes in
    let l = c.args.sides.items in
    let size = c.requires.all ∙ ap (λ (b : BusPlace). 8 - length b.routes) (sym c.bus.view_is) in
    subst (λ (m : Me Said View). AreAllIdle m.0.routes) (sym c.join_all.ensures.joined)
    (all_idle rs l c.bus.invariant.others size (λ k s e. (c.requires.sides k s e).route_is) c.join_all.ensures.idle)

pub leave-requires-clause-remains : goal.leave-requires-clause-remains
leave-requires-clause-remains c =
    let rs = c.bus.inside.seat.me.0.routes in
    let l = c.args.sides.items in
    let es = waiting_in c.seal-word.new.seat.me in
    let word = c.seal-word.result in
    let size = c.requires.all ∙ ap (λ (b : BusPlace). 8 - length b.routes) (sym c.bus.view_is) in
    let ends = subst (λ (m : Me Said View). Ends (bus_of m) m.0.routes es word) c.join_all.ensures.joined
    c.seal-word.ensures.ends in
    begins_left (bus_of c.bus.inside.seat.me) (rs ++ parts_of l) es word ends
    (all_idle rs l c.bus.invariant.others size (λ k s e. (c.requires.sides k s e).route_is) c.join_all.ensures.idle)

pub leave-requires-clause-few : goal.leave-requires-clause-few
leave-requires-clause-few c = few_wait (bus_of c.join_all.new.seat.me) c.join_all.new.seat.me.0.routes
    (waiting_in c.seal-word.new.seat.me) c.seal-word.result c.seal-word.ensures.ends

pub returns-clause-tied : goal.returns-clause-tied
returns-clause-tied c =
    let l = c.args.sides.items in
    let es = waiting_in c.seal-word.new.seat.me in
    let word = c.seal-word.result in
    let b = bus_view c.bus.inside in
    let ends = subst (λ (m : Me Said View). Ends (bus_of m) m.0.routes es word) c.join_all.ensures.joined
    c.seal-word.ensures.ends in
    if_ok_more (λ left. left.items ≡ map as_left es)
    (λ left. AllTied BusAfter RouteAfter c.args.bus.txfp c.args.bus l left.items) c.leave.result
    (λ left told. subst (λ (x : BusPlace). AllTied BusAfter RouteAfter x.txfp x l left.items) c.bus.view_is
    (all_tied b l es word left.items ends told c.bus.invariant.priority (λ k s e. (c.requires.sides k s e).route_is)))
    c.leave.ensures.told

pub returns-clause-beyond : goal.returns-clause-beyond
returns-clause-beyond c =
    let l = c.args.sides.items in
    let es = waiting_in c.seal-word.new.seat.me in
    let word = c.seal-word.result in
    let b = bus_view c.bus.inside in
    let ends = subst (λ (m : Me Said View). Ends (bus_of m) m.0.routes es word) c.join_all.ensures.joined
    c.seal-word.ensures.ends in
    if_ok_more (λ left. left.items ≡ map as_left es)
    (λ left. NothingBeyond BusAfter (routes_of c.args.bus) c.args.bus left.items) c.leave.result
    (λ left told. subst (λ (x : BusPlace). NothingBeyond BusAfter (routes_of x) x left.items) c.bus.view_is
    (nothing_beyond b l es word left.items ends told c.bus.invariant.others)) c.leave.ensures.told

pub returns-clause-accounted : goal.returns-clause-accounted
returns-clause-accounted c =
    let l = c.args.sides.items in
    let es = waiting_in c.seal-word.new.seat.me in
    let word = c.seal-word.result in
    let b = bus_view c.bus.inside in
    let ends = subst (λ (m : Me Said View). Ends (bus_of m) m.0.routes es word) c.join_all.ensures.joined
    c.seal-word.ensures.ends in
    if_ok_more (λ left. left.items ≡ map as_left es) (λ left. AreAccounted c.args.bus l left.items) c.leave.result
    (λ left told. subst (λ (x : BusPlace). AreAccounted x l left.items) c.bus.view_is
    (accounted b l es word left.items ends told c.bus.invariant.priority (λ k s e. (c.requires.sides k s e).route_is)))
    c.leave.ensures.told

pub returns-clause-ended : goal.returns-clause-ended
returns-clause-ended c =
    let rs = c.bus.inside.seat.me.0.routes in
    let l = c.args.sides.items in
    let es = waiting_in c.seal-word.new.seat.me in
    let word = c.seal-word.result in
    let b = bus_view c.bus.inside in
    let size = c.requires.all ∙ ap (λ (x : BusPlace). 8 - length x.routes) (sym c.bus.view_is) in
    let ends = subst (λ (m : Me Said View). Ends (bus_of m) m.0.routes es word) c.join_all.ensures.joined
    c.seal-word.ensures.ends in
    let idle = all_idle rs l c.bus.invariant.others size (λ k s e. (c.requires.sides k s e).route_is)
    c.join_all.ensures.idle in
    if_ok_more (λ left. left.items ≡ map as_left es) (λ left. HasEnded c.args.bus l left.items) c.leave.result
    (λ left told. subst (λ (x : BusPlace). HasEnded x l left.items) c.bus.view_is
    (ended b l es word left.items ends told c.bus.invariant.priority idle))
    c.leave.ensures.told
