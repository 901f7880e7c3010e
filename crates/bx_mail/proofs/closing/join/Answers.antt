-- The rule stays when the bus side takes in the side of a route.
use Rattle.std.proofs.Common.{ap, ◌∙◌}
use Rattle.crossbeam_queue.specs.Passes.{view}
use Rattle.bx_mail.specs.Sides.{RouteSide}
use Rattle.bx_mail.proofs.Relays.{merges}
use Rattle.bx_mail.proofs.closing.join.Goals as goal

pub absorb-requires-clause-rule : goal.absorb-requires-clause-rule
absorb-requires-clause-rule c = merges _ (view c.args.pass.now) _ (view c.side.inside.pass)
    (ap (λ v. v.gets) c.requires.bus) (ap (λ v. v.sends) c.side.invariant.2)
    (ap (λ v. v.from) c.side.invariant.2 ∙ ap (λ (s : RouteSide). s.route) c.side.view_is ∙ c.requires.route)
