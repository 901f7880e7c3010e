use Rattle.std.proofs.Common.{◌≡◌, ◌++◌, length}
use Rattle.std.specs.Vec.Iter.{into_iter_items}
use Rattle.gw_site.specs.Pairs.{Pairs}
use Rattle.gw_sides.specs.Sets.{ClosesSite}
use Rattle.gw_sides.proofs.Closes.{SameBehind}
use Rattle.gw_sides.proofs.closing.close_sites.Given as goal

abbrev pub invariant-loop-site : goal.invariant-loop-site
invariant-loop-site g l =
    (l.yielded ++ into_iter_items l.site-iterator ≡ into_iter_items l.initial.site-iterator)
    × (l.place ≡ length l.yielded)
    × Pairs (ClosesSite g.B.TxBus.bus_after g.S.RouteTx.route_after g.M.Mailboxes.txfp_of g.M.Mailboxes.room l.script
    l.initial.seats) l.yielded l.closed.items
    × SameBehind l.script l.place l.initial.seats l.seats
    × (length l.seats ≡ length l.initial.seats)
