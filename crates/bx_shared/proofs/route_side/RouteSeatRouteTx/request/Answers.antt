-- What the gate heard.
use Rattle.std.proofs.Common.{sym, subst}
use Rattle.bx_core.specs.declared.answer.Sent.{Sent}
use Rattle.bx_core.specs.Gate.{HearsAnswer}
use Rattle.bx_shared.specs.declared.request_answer.RequestAnswer.{RequestAnswer}
use Rattle.bx_shared.specs.Seats.{Answers, Hears}
use Rattle.bx_shared.proofs.Answering.{heard_taken, heard_no_room, heard_contended}
use Rattle.bx_shared.proofs.route_side.RouteSeatRouteTx.request.Goals as goal

pub returns-in-Taken-clause-heard : goal.returns-in-Taken-clause-heard
returns-in-Taken-clause-heard g c = let may = g.G.Gate.may_have_heard in
    let p = c.args.self.now.part in
    let q = c.request.new.self.part in
    let is = c.in-Taken.is in
    heard_taken may p q c.args.gate.now c.request.new.gate c.pass.new.self c.in-Taken.mailbox
    (subst (λ (r : RequestAnswer). Answers p q c.args.number c.args.frame r) is
    c.in_ok-mailbox.ensures.answer).1.lowest.small
    (subst (λ (r : RequestAnswer). Hears may p q r c.args.gate.now c.request.new.gate) is c.in_ok-mailbox.ensures.hears)
    c.pass.ensures.heard

pub returns-in-NoRoom-clause-heard : goal.returns-in-NoRoom-clause-heard
returns-in-NoRoom-clause-heard g c = let may = g.G.Gate.may_have_heard in
    let p = c.args.self.now.part in
    let q = c.request.new.self.part in
    subst (λ (x : Sent). HearsAnswer may x c.args.gate.now c.not_now.new.gate) (sym c.not_now.ensures.answer)
    (heard_no_room may p q c.args.gate.now c.request.new.gate c.not_now.new.gate
    (subst (λ (r : RequestAnswer). Hears may p q r c.args.gate.now c.request.new.gate) c.in-NoRoom.is
    c.in_ok-mailbox.ensures.hears) c.not_now.ensures.heard)

pub returns-in-Contended-clause-heard : goal.returns-in-Contended-clause-heard
returns-in-Contended-clause-heard g c = let may = g.G.Gate.may_have_heard in
    let p = c.args.self.now.part in
    let q = c.request.new.self.part in
    subst (λ (x : Sent). HearsAnswer may x c.args.gate.now c.not_now-in-Contended.new.gate)
    (sym c.not_now-in-Contended.ensures.answer)
    (heard_contended may p q c.args.gate.now c.request.new.gate c.not_now-in-Contended.new.gate
    c.in-Contended.field-0
    (subst (λ (r : RequestAnswer). Hears may p q r c.args.gate.now c.request.new.gate) c.in-Contended.is
    c.in_ok-mailbox.ensures.hears) c.not_now-in-Contended.ensures.heard)
