use Rattle.std.proofs.Common.{◌≡◌, ap, sym, subst, ◌∙◌}
use Rattle.can_node.specs.PlainBits.{StaysOut, out_behind_all}
use Rattle.can_node.proofs.GoingBy.{whole_stay}
use Rattle.can_node.proofs.stays.go_out.Goals as goal
use Rattle.can_node.proofs.stays.go_out.Goals.{in-BusOffRecovery+else-is_far, in_default}

pub returns : goal.returns
returns c out =
    let levels = c.args.levels.now in
    let here : c.match-state.state ≡ c.args.state.now = elim c.match-state.branch [
      | in-BusOffRecovery+else-is_far w ↦ w.state-is ∙ sym w.in-BusOffRecovery.is
      | in_default w ↦ w.state-is
    ] in
    whole_stay c.match-state.state c.stay_by.new.state levels c.stay_by.result c.stay_by.ensures.by
    c.stay_by.ensures.ends (subst (λ s. StaysOut s levels) (sym here) out)
    ∙ ap (λ s. out_behind_all s levels) here
