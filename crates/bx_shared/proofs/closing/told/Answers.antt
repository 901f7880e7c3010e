-- The payload words are those of the request in the mailbox.
use Rattle.std.proofs.Common.{◌+◌, ◌*◌, ◌/◌, ap, ◌∙◌, subst, arith}
use Rattle.atomic_table.specs.Table.{Me}
use Rattle.bx_shared.specs.declared.said.Said.{Said}
use Rattle.bx_shared.specs.declared.view.View.{View}
use Rattle.bx_shared.specs.Closing.{IsLast, waiting_in}
use Rattle.bx_shared.proofs.Leaving.{last_packed}
use Rattle.bx_shared.proofs.closing.told.Goals as goal

pub unpack-frame-requires : goal.unpack-frame-requires
unpack-frame-requires c =
    let me = c.args.seat.now.me in
    let r = c.requires.waits in
    let a = c.from.ensures in
    let b = c.from-2.ensures in
    let bytes = subst (λ (m : Me Said View). IsLast (waiting_in m) (2 * c.from-2.result + 2) c.read_last-bytes.result)
    c.read_last-head.ensures.same c.read_last-bytes.ensures.read in (
      r.request.frame,
      (
        r.request.number,
        last_packed (waiting_in me) r.request c.args.mailbox c.read_last-head.result c.read_last-bytes.result
            (2 * c.from.result + 1) (2 * c.from-2.result + 2) r.there r.mailbox_is (omega arith) (omega arith)
            c.read_last-head.ensures.read bytes,
      ),
    )

pub returns-clause-told : goal.returns-clause-told
returns-clause-told c = λ w has at owner.
    let me = c.args.seat.now.me in
    let a = c.from.ensures in
    let b = c.from-2.ensures in
    let bytes = subst (λ (m : Me Said View). IsLast (waiting_in m) (2 * c.from-2.result + 2) c.read_last-bytes.result)
    c.read_last-head.ensures.same c.read_last-bytes.ensures.read in
    let packed = last_packed (waiting_in me) w c.args.mailbox c.read_last-head.result c.read_last-bytes.result
    (2 * c.from.result + 1) (2 * c.from-2.result + 2) has at (omega arith)
    (omega arith) c.read_last-head.ensures.read bytes in
    let back = c.unpack-frame.ensures w.frame w.number packed in
    let route = ap (λ x. x / 32) c.lane.ensures ∙ owner in
    λ k. record { route = route k; number = back.1 k; frame = back.0 k }
