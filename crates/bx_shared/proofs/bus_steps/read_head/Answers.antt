use Rattle.std.proofs.Common.{sym, subst, arith, ◌+◌, ◌*◌}
use mathlib.Core.Option.{none}
use Rattle.atomic_table.specs.Table.{Me, step, Allows}
use Rattle.bx_shared.specs.declared.said.Said.{Said}
use Rattle.bx_shared.specs.declared.view.View.{View}
use Rattle.bx_shared.specs.Shown.{IsKept}
use Rattle.bx_shared.specs.Steps.{bus_of}
use Rattle.bx_shared.specs.BusSteps.{ReadsHead}
use Rattle.bx_shared.proofs.BusKeeps.{reads_head-keep}
use Rattle.bx_shared.proofs.bus_steps.read_head.Goals as goal

pub load-requires : goal.load-requires
load-requires c = let h = c.args.words.now.shared in let t = h.table_id in let id = c.args.seat.now.id in
    let seven = c.requires.table.seven in let a = c.args in let b = bus_of a.seat.now.me in
    let rs = a.seat.now.me.0.routes in let from = c.from.ensures in let i = 2 * c.from.result + 1 in let small =
    c.requires.mailbox in (
      c.requires.table.same,
      omega arith,
      subst (λ (m : Me Said View). Allows (IsKept h.key) t.slots id m i (λ n. n)
          (ReadsHead (step t.slots i 0 0 none) m))
          (sym c.requires.bus)
          (reads_head-keep h.key t.slots id a.mailbox i b rs (omega arith) small),
    )

-- the word read is the head of this mailbox

pub returns-clause-head : goal.returns-clause-head
returns-clause-head c = let small = c.requires.mailbox in let from = c.from.ensures in
    (c.load.ensures.2 c.args.mailbox (omega arith)).1

pub returns-clause-sent : goal.returns-clause-sent
returns-clause-sent c = let small = c.requires.mailbox in let from = c.from.ensures in
    (c.load.ensures.2 c.args.mailbox (omega arith)).2
