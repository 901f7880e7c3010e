use Rattle.std.proofs.Common.{◌≡◌, ◌++◌, ◌∷◌, [], Some, cond, false, get_or, take, sym, ap, subst, arith, ◌∙◌}
use Rattle.std.proofs.lemmas.List.{take_more}
use Rattle.can_station.specs.CurrentFaults.{SetsLine}
use Rattle.can_station.specs.declared.plan.LineFault.{LineFault}
use Rattle.can_station.proofs.FaultRanges.{IsConstant, sets_more}
use Rattle.can_station.proofs.current_faults.line_from.Goals as goal
use Rattle.can_station.proofs.current_faults.line_from.Goals.{then-stands, else-stands}

pub loop-fault-preserved : goal.loop-fault-preserved
loop-fault-preserved c =
    let faults = c.args.faults.now in
    let place = c.loop-fault.fault-index in
    let none : LineFault = record { bit = 0; until = 0; level = false } in
    let fault = get_or faults place none in
    let so_far = c.loop-fault.invariant in
    let same : IsConstant fault.bit fault.until c.args.bit c.change_after.result c.stands.result =
    λ at from before. c.change_after.ensures.same at from before ∙ sym c.stands.ensures in
    let level : cond c.stands.result (Some fault.level) c.loop-fault.level ≡ c.if-stands.level =
    elim c.if-stands.branch [
      | then-stands w ↦ ap (λ b. cond b (Some fault.level) c.loop-fault.level) w.if-stands.true ∙ sym w.level-is
      | else-stands w ↦ ap (λ b. cond b (Some fault.level) c.loop-fault.level) w.if-stands.false ∙ sym w.level-is
    ] in (
      subst (λ fs. SetsLine fs c.args.bit c.min-until.result c.if-stands.level)
          (sym (take_more faults place none (omega (arith, c.loop-fault-test.true))))
          (subst (SetsLine (take place faults ++ fault ∷ []) c.args.bit c.min-until.result) level
          (sets_more (take place faults) fault c.args.bit c.loop-fault.until c.change_after.result c.min-until.result
          c.loop-fault.level c.stands.result so_far.0 same (omega (arith, c.min-until.ensures))
          (omega (arith, c.min-until.ensures)))),
      λ early. (let a = so_far.1 early in let b = c.change_after.ensures.later early in
          omega (arith, a, b, c.min-until.ensures)),
    )
