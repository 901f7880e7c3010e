use Rattle.std.proofs.Common.{arith, get_or, refl, sym, ap, cond, ◌∙◌}
use Rattle.std.proofs.lemmas.Option.{slice_get-get_or}
use Rattle.can_station.specs.DeferredNodes.{ClearsAction, IfActive, cleared}
use Rattle.can_station.proofs.Places.{but_end, but_step, same_some}
use Rattle.can_station.proofs.PlaceSets.{but_start}
use Rattle.can_station.proofs.resume.clear_actions.Goals as goal

pub returns-then-not-reported : goal.returns-then-not-reported
returns-then-not-reported c = record {
  at = λ k a b p q. let same = same_some b a (sym q ∙ p) in
      record {
        stays_deferred = λ e. same;
        stays_active = λ e. ap (λ m. m.is_deferred) same ∙ e;
        steps = λ e. same ∙ ap (λ reported. cond reported (cleared a) a) (sym c.if-not-reported.true);
      };
  size = refl;
}

pub loop-place-init : goal.loop-place-init
loop-place-init c = but_start (λ k. ClearsAction c.args.reported) c.args.members.now c.args.active c.requires

pub bounds-members-place : goal.bounds-members-place
bounds-members-place c =
    let less = c.loop-place.invariant.within c.in-Some.place c.in-Some.ensures.some.0.has in
    omega (arith, less, c.loop-place.invariant.size)

pub loop-place-preserved : goal.loop-place-preserved
loop-place-preserved c =
    let members = c.loop-place.members in
    let place = c.in-Some.place in
    let has = c.in-Some.ensures.some.0.has in
    let less = c.loop-place.invariant.within place has in
    let found = slice_get-get_or members place c.index-members-place.result
    (omega (arith, less, c.loop-place.invariant.size)) in
    let old = get_or members place c.index-members-place.result in
    but_step (λ k. IfActive (ClearsAction c.args.reported)) c.args.members.now members c.loop-place.left
    c.take_first.new.self place old c.clear_actions.new.self has c.in-Some.ensures.some.1 found
    (record {
      stays_deferred = c.clear_actions.ensures.is_deferred;
      stays_active = λ e. c.clear_actions.ensures.active ∙ e;
      steps = λ e. c.clear_actions.ensures.is_cleared e ∙ ap (λ reported. cond reported (cleared old) old) (sym
          c.if-not-reported.false);
    })
    c.loop-place.invariant

pub returns : goal.returns
returns c = but_end (λ k. IfActive (ClearsAction c.args.reported)) c.args.members.now c.loop-place.members c.loop-place.left
    c.in_default.ensures.none.0 c.loop-place.invariant
