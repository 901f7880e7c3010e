-- The bus's seat keeps the places that no route's seat has.
use Rattle.std.proofs.Common.{◌≡◌, ◌-◌, length, ap, ◌∙◌, arith}
use Rattle.bx_shared.specs.Seats.{IsNewBus}
use Rattle.bx_shared.specs.Closing.{routes_of}
use Rattle.bx_shared.proofs.Parting.{length-openings}
use Rattle.bx_shared.proofs.Tying.{if_ok_more}
use Rattle.bx_shared.proofs.mail_set.MailMailboxesBusSeatRouteSeat.open.Goals as goal

pub returns-clause-routes : goal.returns-clause-routes
returns-clause-routes g c = if_ok_more (λ made. IsNewBus c.args.txfp c.args.routes made.0)
    (λ made. routes_of made.0 ≡ c.args.routes) c.with_txfp.result
    (λ made n. let few = c.requires.few in let l = ap length n.others ∙ length-openings (8 - c.args.routes) in
    omega arith) c.with_txfp.ensures.bus
