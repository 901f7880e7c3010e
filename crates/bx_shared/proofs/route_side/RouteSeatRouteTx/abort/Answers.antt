-- What the gate heard where the abort is asked.
use Rattle.bx_shared.proofs.Answering.{heard_asked}
use Rattle.bx_shared.proofs.route_side.RouteSeatRouteTx.abort.Goals as goal

pub returns-in-Asked-clause-heard : goal.returns-in-Asked-clause-heard
returns-in-Asked-clause-heard g c = heard_asked g.G.Gate.may_have_heard c.args.self.now.part c.abort.new.self.part
    c.args.gate.now c.abort.new.gate c.in-Asked.ensures.hears
