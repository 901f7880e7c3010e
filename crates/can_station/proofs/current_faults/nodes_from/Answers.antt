use Rattle.std.proofs.Common.{◌≡◌, ◌<◌, ◌≤◌, ◌++◌, ◌∷◌, [], true, false, is_ok, get_or, take, sym, ap, subst, arith, ◌∙◌}
use Rattle.std.specs.Prelude.{vec_capacity, vec_len}
use Rattle.std.proofs.lemmas.List.{take_more}
use Rattle.can_station.specs.CurrentFaults.{last_bit}
use Rattle.can_station.specs.Faults.{is_inverted}
use Rattle.can_station.specs.declared.plan.NodeFault.{NodeFault}
use Rattle.can_station.proofs.FaultRanges.{Inverts, IsConstant, inverts_added, inverts_again, inverts_other}
use Rattle.can_station.proofs.current_faults.nodes_from.Goals as goal
use Rattle.can_station.proofs.current_faults.nodes_from.Goals.{then-stands+then-not-is_inverted, else-stands}
use Rattle.can_station.proofs.current_faults.nodes_from.Goals.{else-stands-via-then-stands+else-not-is_inverted}
use Rattle.can_station.proofs.current_faults.nodes_from.Goals.{else-stands-via-else-stands}

pub loop-fault-preserved : goal.loop-fault-preserved
loop-fault-preserved c =
    let faults = c.args.faults.now in
    let place = c.loop-fault.fault-index in
    let none : NodeFault = record { node = 0; bit = 0; until = 0 } in
    let fault = get_or faults place none in
    let so_far = c.loop-fault.invariant in
    let bit = c.args.bit in
    let until = c.min-until.result in
    let less : until ≤ c.loop-fault.until = omega (arith, c.min-until.ensures) in
    let less_too : until ≤ c.change_after.result = omega (arith, c.min-until.ensures) in
    let same : IsConstant fault.bit fault.until bit c.change_after.result c.stands.result =
    λ at from before. c.change_after.ensures.same at from before ∙ sym c.stands.ensures in
    let whole = sym (take_more faults place none (omega (arith, c.loop-fault-test.true))) in
    let later : bit < last_bit → bit < until =
    λ early. (let a = so_far.later early in let b = c.change_after.ensures.later early in
    omega (arith, a, b, c.min-until.ensures)) in
    elim c.if-stands.branch [
      | then-stands+then-not-is_inverted w ↦ (
          let constant : IsConstant fault.bit fault.until bit c.change_after.result true =
          λ at from before. same at from before ∙ w.if-stands.true in
          let fine : is_ok w.push.result ≡ true = w.push.ensures.succeeds
          (omega (arith, so_far.fits, so_far.room, c.clear.ensures.capacity, c.requires, c.loop-fault-test.true)) in
          let items : c.loop-fault.here.items ++ fault ∷ [] ≡ c.if-stands.here.items =
          sym (ap (λ v. v.items) w.here-is ∙ rw fine at w.push.ensures.items) in
          record {
            inverts = subst (λ fs. Inverts fs bit until c.if-stands.here.items) whole
                (subst (Inverts (take place faults ++ fault ∷ []) bit until) items
                (inverts_added (take place faults) fault bit c.loop-fault.until c.change_after.result until
                c.loop-fault.here.items so_far.inverts constant less less_too));
            later = later;
            fits = (let len = ap vec_len w.here-is in
                omega (arith, so_far.fits, len, w.push.ensures.upper_bound));
            room = (let kept = ap vec_capacity w.here-is in
                omega (arith, so_far.room, kept, w.push.ensures.capacity));
          })
      | else-stands w ↦ elim w.else-stands.branch [
        | else-stands-via-then-stands+else-not-is_inverted v ↦ (
            let constant : IsConstant fault.bit fault.until bit c.change_after.result true =
            λ at from before. same at from before ∙ v.if-stands.true in
            record {
              inverts = subst (λ fs. Inverts fs bit until c.if-stands.here.items) whole
                  (subst (λ h. Inverts (take place faults ++ fault ∷ []) bit until h.items) (sym w.here-is)
                  (inverts_again (take place faults) fault bit c.loop-fault.until c.change_after.result until
                  c.loop-fault.here.items so_far.inverts constant
                  (ap (λ fs. is_inverted fs fault.node bit) (sym v.as_slice.ensures.value)
                  ∙ sym v.is_inverted.ensures ∙ v.if-not-is_inverted.false) less less_too));
              later = later;
              fits = (let len = ap vec_len w.here-is in omega (arith, so_far.fits, len));
              room = (let kept = ap vec_capacity w.here-is in omega (arith, so_far.room, kept));
            })
        | else-stands-via-else-stands v ↦ (
            let constant : IsConstant fault.bit fault.until bit c.change_after.result false =
            λ at from before. same at from before ∙ v.if-stands.false in
            record {
              inverts = subst (λ fs. Inverts fs bit until c.if-stands.here.items) whole
                  (subst (λ h. Inverts (take place faults ++ fault ∷ []) bit until h.items) (sym w.here-is)
                  (inverts_other (take place faults) fault bit c.loop-fault.until c.change_after.result until
                  c.loop-fault.here.items so_far.inverts constant less less_too));
              later = later;
              fits = (let len = ap vec_len w.here-is in omega (arith, so_far.fits, len));
              room = (let kept = ap vec_capacity w.here-is in omega (arith, so_far.room, kept));
            })
      ]
    ]
