-- The seat keeps its invariant where a request is taken.
use Rattle.std.proofs.Common.{List, ℕ, length, arith, set, sym, ap, ◌∙◌}
use Rattle.bx_core.specs.Steps.{last_number}
use Rattle.bx_shared.specs.Seats.{RoutePlace, entry}
use Rattle.bx_shared.specs.Steps.{part_of}
use Rattle.bx_shared.proofs.Showing.{length-snoc}
use Rattle.bx_shared.proofs.Requesting.{last_of-push}
use Rattle.bx_shared.proofs.route_seat.RouteSeat.request.Goals as goal

pub invariant_of-self : goal.invariant_of-self
invariant_of-self g c =
    let v = c.self.invariant in
    let e = c.attempt-answer.ensures in
    let a = c.in-Taken.ensures.answer in
    record {
      at = record { same = e.table ∙ v.at.same; seven = v.at.seven };
      alone = e.route;
      own = a.0.route ∙ v.own;
      small = v.small;
      idle = a.0.claims;
      newest = ap last_number a.1.requested ∙ last_of-push 0 (part_of c.self.inside.seat.me).requested
          (entry c.args.number c.args.frame);
      requested = (let n = ap length a.1.requested in
          let l = length-snoc (part_of c.self.inside.seat.me).requested (entry c.args.number c.args.frame) in let o =
          v.requested in omega arith);
      aborted = ap length a.0.aborted ∙ v.aborted;
      rises = (let n = c.requires in let s = ap (λ (q : RoutePlace). last_number q.part.requested) c.self.view_is in
          let w = v.newest in let r = v.rises in omega arith);
      most = omega arith;
      put = a.1.last ∙ ap (λ (l : List ℕ). set l c.in-Taken.mailbox c.args.number) v.put
          ∙ ap (λ (k : ℕ). set c.self.inside.tops k c.args.number) (sym c.from.ensures);
    }
