-- Each turn tells of the oldest that remains.
use Rattle.std.proofs.Common.{◌∙◌, List, length, sym, ap, subst, arith, bit_and}
use Rattle.atomic_table.specs.Table.{Me}
use Rattle.bx_core.specs.declared.left.Left.{Left}
use Rattle.bx_core.specs.Lists.{Has}
use Rattle.bx_shared.specs.declared.said.Said.{Said}
use Rattle.bx_shared.specs.declared.view.View.{View}
use Rattle.bx_shared.specs.Closing.{IsInMailbox, Remains, waiting_in}
use Rattle.bx_shared.proofs.Showing.{length-snoc}
use Rattle.bx_shared.proofs.Leaving.{leaves, all_told, first_waits}
use Rattle.bx_shared.proofs.closing.leave.Goals as goal

pub returns-in_default-clause-told : goal.returns-in_default-clause-told
returns-in_default-clause-told c =
    all_told c.loop.word (waiting_in c.args.seat.now.me) c.loop.left.items c.loop.invariant.2 c.in_default.ensures

pub told-requires-clause-waits : goal.told-requires-clause-waits
told-requires-clause-waits c =
    subst (λ (m : Me Said View). IsInMailbox (waiting_in m) c.loop.word c.in-Some.mailbox) (sym c.loop.invariant.1)
    (first_waits (waiting_in c.args.seat.now.me) c.loop.word c.in-Some.mailbox c.loop.left.items c.loop.invariant.2
    c.in-Some.ensures)

pub loop-preserved : goal.loop-preserved
loop-preserved c =
    let i = c.loop.invariant in
    let es = waiting_in c.args.seat.now.me in
    let m = c.in-Some.mailbox in
    let items = c.in_ok-push.ensures.items in
    let next = bit_and c.loop.word c.lane_mask-word.result in (
      c.told.ensures.table ∙ i.0,
      c.told.ensures.same ∙ i.1,
      subst (λ (l : List Left). Remains next es l) (sym items)
          (leaves c.loop.word m next es c.loop.left.items c.told.result i.2 c.in-Some.ensures
          (c.lane_mask-word.ensures c.loop.word (let f = c.loop.auto.word-fits in omega arith))
          (λ w has at owner. c.told.ensures.told w (subst (λ (x : Me Said View). Has (waiting_in x) w) (sym i.1) has) at
          owner)),
      (let h = ap length items in let l = length-snoc c.loop.left.items c.told.result in let n = i.3 in omega arith),
    )
