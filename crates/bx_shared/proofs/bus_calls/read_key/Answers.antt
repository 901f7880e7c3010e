-- The heads of other mailboxes stay read.
use Rattle.std.proofs.Common.{sym, ap, subst}
use Rattle.bx_shared.specs.declared.bus_view.BusView.{BusView}
use Rattle.bx_shared.specs.Steps.{bus_of}
use Rattle.bx_shared.specs.BusSteps.{HasKey}
use Rattle.bx_shared.proofs.Readying.{keeps_key}
use Rattle.bx_shared.proofs.bus_calls.read_key.Goals as goal

pub returns-clause-others : goal.returns-clause-others
returns-clause-others c = λ j key n h. subst (λ (b : BusView). HasKey b j key)
    (sym (ap bus_of c.read_head.ensures.read))
    (keeps_key (bus_of c.args.seat.now.me) c.args.mailbox j key c.read_head.result n h)
