-- The payload words are those of what was started.
use Rattle.std.proofs.Common.{◌/◌, ◌∙◌, ap, refl, subst}
use Rattle.bx_shared.specs.declared.bus_view.BusView.{BusView}
use Rattle.bx_shared.specs.Steps.{bus_of}
use Rattle.bx_shared.specs.BusSteps.{IsStarted}
use Rattle.bx_shared.proofs.Readying.{are_packed, began}
use Rattle.bx_shared.proofs.bus_calls.begin.Goals as goal

pub unpack-frame-requires : goal.unpack-frame-requires
unpack-frame-requires c =
    let b = bus_of c.args.seat.now.me in
    let word = c.look-word.result in
    let m = c.in_ok-mailbox.mailbox in
    let d = bus_of c.start.new.seat.me in
    let st = subst (λ (x : BusView). IsStarted x d m word c.with_start.result) (ap bus_of c.look-word.ensures.looked)
    (c.start.ensures.started c.if-start-word.false) in (
      st.item.2,
      (
        st.item.1,
        are_packed b word c.with_start.result m d st c.read_head-head.result c.read_bytes.result
            (bus_of c.read_head-head.new.seat.me) (ap bus_of c.read_head-head.ensures.read)
            c.read_head-head.ensures.sent
            c.read_bytes.ensures.sent,
      ),
    )

pub returns-clause-began : goal.returns-clause-began
returns-clause-began c =
    let b = bus_of c.args.seat.now.me in
    let word = c.look-word.result in
    let m = c.in_ok-mailbox.mailbox in
    let d = bus_of c.start.new.seat.me in
    let st = subst (λ (x : BusView). IsStarted x d m word c.with_start.result) (ap bus_of c.look-word.ensures.looked)
    (c.start.ensures.started c.if-start-word.false) in
    let packed = are_packed b word c.with_start.result m d st c.read_head-head.result c.read_bytes.result
    (bus_of c.read_head-head.new.seat.me) (ap bus_of c.read_head-head.ensures.read) c.read_head-head.ensures.sent
    c.read_bytes.ensures.sent in
    let back = c.unpack-frame.ensures st.item.2 st.item.1 packed in
    began b word c.with_start.result m d st c.read_head-head.result c.lane.result
    (c.lane.result / 32, c.unpack-frame.result.1, c.unpack-frame.result.0) (bus_of c.read_bytes.new.seat.me)
    c.in_ok-mailbox.ensures
    (ap bus_of c.read_bytes.ensures.same ∙ ap bus_of c.read_head-head.ensures.read) refl c.lane.ensures back.1 back.0
