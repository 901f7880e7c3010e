-- The rule stays when a route posts.
use Rattle.std.proofs.Common.{ℕ, ◌≤◌, ap, sym, subst, ◌∙◌}
use Rattle.bx_core.specs.Steps.{greatest_number}
use Rattle.crossbeam_queue.specs.Passes.{view, ruled_capacity}
use Rattle.bx_mail.specs.Postings.{MayFollow}
use Rattle.bx_mail.specs.Sides.{RouteSide}
use Rattle.bx_mail.proofs.Relays.{posts_one, learns_sent}
use Rattle.bx_mail.proofs.RouteSides.{was_posted, was_full, newest_posted, counted_posted, rises_posted, posted_form}
use Rattle.bx_mail.proofs.post_route.PostRoute.post.Goals as goal

pub push_as-requires-clause-rule : goal.push_as-requires-clause-rule
push_as-requires-clause-rule g c =
    let v = view c.self.inside.pass in
    let may = ap (λ v. v.sends) c.self.invariant.2 in (
      posts_one _ _ v _ (ap ruled_capacity c.deref.ensures ∙ c.self.invariant.1) may
          (sym (ap (λ v. v.from) c.self.invariant.2))
          (subst (λ (s : RouteSide). MayFollow s.sent c.args.number c.args.what) (sym c.self.view_is) c.requires),
      learns_sent _ v may,
    )

pub returns : goal.returns
returns g c = was_posted c.args.self.now _ _ (view c.self.inside.pass)
    (view c.push_as.new.pass) c.self.inside.route c.args.number c.args.what c.self.view_is c.in-Ok.ensures.queue.0
    c.in-Ok.ensures.rule

pub returns-in_default : goal.returns-in_default
returns-in_default g c = let r = c.in_default.ensures.rule in
    was_full c.args.self.now _ _ (view c.self.inside.pass) (view c.push_as.new.pass) c.self.inside.route c.args.number _
    c.args.what c.self.view_is c.in_default.ensures.queue.0 r.1 (ap (λ v. v.from) c.self.invariant.2)
    (ap ruled_capacity c.deref.ensures ∙ c.self.invariant.1) r.2

pub invariant_of-self-2 : goal.invariant_of-self-2
invariant_of-self-2 g c = let i = c.self.invariant in let q = c.in-Ok.ensures.queue in let u =
    view c.self.inside.pass in let n = view c.push_as.new.pass in let risen = rises_posted u.sent c.args.number
    c.self.inside.last c.self.inside.requested c.args.what i.3 i.5 i.6
    (subst (λ (s : RouteSide). MayFollow s.sent c.args.number c.args.what) (sym c.self.view_is) c.requires) in (
      (q.0 ∙ i.0.0, q.2 ∙ i.0.1),
      i.1,
      posted_form u n _ c.self.inside.route (ap (λ v. v.from) i.2) c.in-Ok.ensures.rule,
      newest_posted u n c.self.inside.route c.args.number c.self.inside.last c.newest-self-inside.result c.args.what i.3
          c.newest-self-inside.ensures c.in-Ok.ensures.rule,
      counted_posted u n c.self.inside.route c.args.number c.self.inside.requested c.counted-self-inside.result
          c.args.what i.4 c.counted-self-inside.ensures c.in-Ok.ensures.rule,
      subst (λ (x : ℕ × ℕ). x.0 ≤ x.1) (λ k. (sym c.counted-self-inside.ensures k, sym c.newest-self-inside.ensures k))
          risen.0,
      subst (λ (x : ℕ). x ≤ greatest_number) (sym c.newest-self-inside.ensures) risen.1,
    )
