use Rattle.std.proofs.Common.{rules, ◌≡◌, ◌<◌, length, true, ap, arith, subst}
use Rattle.std.specs.Cmp.{booleans_Decides}
use Rattle.std.proofs.lemmas.Slice.Eq.{slice_eq-Decides}
use Rattle.can_node.specs.PlainBits.{MayGoOnBy}
use Rattle.node_tests.proofs.listeners.send_on.Goals as goal

pub go_on_by-requires-clause-goes : goal.go_on_by-requires-clause-goes
go_on_by-requires-clause-goes c =
    let ahead = c.ahead.result.now in
    let levels = c.args.levels.now in
    let same : ahead ≡ levels =
    (slice_eq-Decides booleans_Decides ahead levels c.eq.result c.eq.ensures).0 c.if-eq.true in
    let some : 0 < length levels = search rules in (
      true,
      subst (λ ls. MayGoOnBy true ls c.args.node.now) same
          (c.ahead.ensures.may (omega (arith, some, ap length same))),
    )
