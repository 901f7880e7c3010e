-- A new bus side did nothing yet.
use Rattle.bx_core.specs.TxBus.{no_bus_past}
use Rattle.bx_mail.specs.Sides.{IsNewBus, HasRun}
use Rattle.bx_mail.proofs.Begins.{new_runs}
use Rattle.bx_mail.proofs.Leaving.{if_ok-more}
use Rattle.bx_mail.proofs.post.PostMailboxesPostBusPostRoute.open.Goals as goal

pub returns-clause-bus : goal.returns-clause-bus
returns-clause-bus g c = if_ok-more (λ made. IsNewBus c.args.routes made.0)
    (λ made. HasRun made.0 no_bus_past) c.new.result (λ made new. new_runs c.args.routes made.0 c.requires.few new)
    c.new.ensures.bus
