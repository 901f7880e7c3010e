use Rattle.std.proofs.Common.{rules, ◌≡◌, cond, Bool, true, ap, sym, Some, ◌∙◌}
use Rattle.std.proofs.lemmas.Option.{slice_get-get_or}
use Rattle.can_station.specs.Members.{drives_at}
use Rattle.can_station.specs.declared.member.Member.{Member}
use Rattle.can_station.proofs.PlaceSets.{all_pass, each_end, each_start, each_step}
use Rattle.can_station.proofs.members.all_recessive.Goals as goal

pub loop-place-init : goal.loop-place-init
loop-place-init c =
    let recessive : c.args.deferred_level ≡ true = search rules in
    each_start (λ k m. cond m.is_deferred c.args.deferred_level (drives_at c.args.bit m) ≡ true) c.args.members.now
    c.args.active
    c.requires (λ k m is. ap (λ b. cond b c.args.deferred_level (drives_at c.args.bit m)) is ∙ recessive)

pub bounds-members-place : goal.bounds-members-place
bounds-members-place c = c.loop-place.invariant.within c.in-Some.place c.in-Some.ensures.some.0.has

pub loop-place-preserved : goal.loop-place-preserved
loop-place-preserved c =
    let members = c.args.members.now in
    let place = c.in-Some.place in
    let member = c.index-members-place.result in
    let less = c.loop-place.invariant.within place c.in-Some.ensures.some.0.has in
    each_step (λ k m. cond m.is_deferred c.args.deferred_level (drives_at c.args.bit m) ≡ true) members
    c.loop-place.left
    c.take_first.new.self place member c.in-Some.ensures.some.1
    (slice_get-get_or members place member less ∙ ap (λ m. Some m) (sym c.index-members-place.is))
    (sym c.drives_beside.ensures ∙ c.if-not-drives_beside.false) c.loop-place.invariant

pub returns : goal.returns
returns c =
    let test : Member → Bool = λ m. cond m.is_deferred c.args.deferred_level (drives_at c.args.bit m) in
    sym (all_pass test c.args.members.now (each_end (λ k m. test m ≡ true) c.args.members.now c.loop-place.left
    c.in_default.ensures.none.0 c.loop-place.invariant))
