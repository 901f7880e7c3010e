-- A failure is an event of the mailbox core, or two, and one more is counted where it was reaped.
use Rattle.std.proofs.Common.{◌≡◌, ◌∙◌, ℕ, Option, Some, None, sym, ap, refl, subst}
use Rattle.std.specs.Prelude.{IsSome, IfSome, option_map}
use Rattle.bx_core.specs.TxBus.{BusPast, after_fail, label_of}
use Rattle.bx_shared.specs.Tallies.{IsTally}
use Rattle.bx_mail.specs.Boxes.{on_bus_now}
use Rattle.bx_mail.specs.BusParts.{bus_view}
use Rattle.bx_mail.specs.Sides.{BusSide, Runs, HasRun}
use Rattle.bx_mail.proofs.BusSides.{failed-past, failed-rest, failed-label}
use Rattle.bx_mail.proofs.Tallied.{reaped_small, few_reaped, counted_as, counts_none}
use Rattle.bx_mail.proofs.post_bus.PostBusTxBus.fail.Goals as goal

pub add_reaped-requires-clause-route : goal.add_reaped-requires-clause-route
add_reaped-requires-clause-route g c = let i = c.self.invariant in
    reaped_small (bus_view c.self.inside) i.2.0 i.2.1 (c.in_ok-route.route, c.in_ok-route.number)
    (sym c.fail.ensures.result ∙ c.in_ok-route.was)

pub add_reaped-requires-clause-few : goal.add_reaped-requires-clause-few
add_reaped-requires-clause-few g c = let i = c.self.invariant in
    few_reaped (bus_view c.self.inside) i.2.0 i.2.1 c.in_ok-route.route
    (reaped_small (bus_view c.self.inside) i.2.0 i.2.1 (c.in_ok-route.route, c.in_ok-route.number)
    (sym c.fail.ensures.result ∙ c.in_ok-route.was))

pub invariant_of-self : goal.invariant_of-self
invariant_of-self g c = let i = c.self.invariant in let v = bus_view c.self.inside in
    let on = subst (λ (u : BusSide). IsSome (on_bus_now u.boxes)) (sym c.self.view_is) c.requires in
    let past : BusPast = i.2.0 in
    let q = c.fail.new.boxes.items in (
      i.0,
      i.1,
      (
        after_fail past None,
        record {
          runs = subst (λ (y : Option (ℕ × ℕ)). Runs (record v { boxes = q }) (after_fail past y)) c.in_err-route.was
              (failed-past v v q c.fail.result refl c.fail.ensures.boxes c.fail.ensures.result on past i.2.1.runs);
          tally = counts_none past v.tally i.2.1.tally;
        },
      ),
    )

pub invariant_of-self-2 : goal.invariant_of-self-2
invariant_of-self-2 g c = let i = c.self.invariant in let v = bus_view c.self.inside in
    let on = subst (λ (u : BusSide). IsSome (on_bus_now u.boxes)) (sym c.self.view_is) c.requires in
    let past : BusPast = i.2.0 in
    let t = c.add_reaped.new.self in
    let q = c.fail.new.boxes.items in
    let x : ℕ × ℕ = (c.in_ok-route.route, c.in_ok-route.number) in (
      i.0,
      i.1,
      (
        after_fail past (Some x),
        record {
          runs = counted_as (record v { boxes = q }) t (after_fail past (Some x))
              (subst (λ (y : Option (ℕ × ℕ)). Runs (record v { boxes = q }) (after_fail past y)) c.in_ok-route.was
              (failed-past v v q c.fail.result refl c.fail.ensures.boxes c.fail.ensures.result on past i.2.1.runs));
          tally = c.add_reaped.ensures past.done past.reaped i.2.1.tally;
        },
      ),
    )

pub returns-in_err-route-clause-past : goal.returns-in_err-route-clause-past
returns-in_err-route-clause-past g c = λ past h.
    let v = c.args.self.now in
    let w = bus_view c.self.inside in
    let q = c.fail.new.boxes.items in
    let none : HasRun (record w { boxes = q }) (after_fail past None) = record {
      runs = subst (λ (y : Option (ℕ × ℕ)). Runs (record w { boxes = q }) (after_fail past y)) c.in_err-route.was
          (failed-past v w q c.fail.result (sym c.self.view_is) c.fail.ensures.boxes c.fail.ensures.result c.requires
          past h.runs);
      tally = counts_none past w.tally
          (subst (IsTally past.done past.reaped) (ap (λ (u : BusSide). u.tally) (sym c.self.view_is)) h.tally);
    } in
    subst (λ (y : Option (ℕ × ℕ)). HasRun (record w { boxes = q }) (after_fail past y))
    (sym c.from_residual.ensures) none

pub returns-clause-past : goal.returns-clause-past
returns-clause-past g c = λ past h.
    let v = c.args.self.now in
    let w = bus_view c.self.inside in
    let t = c.add_reaped.new.self in
    let q = c.fail.new.boxes.items in
    let x : ℕ × ℕ = (c.in_ok-route.route, c.in_ok-route.number) in
    record {
      runs = counted_as (record w { boxes = q }) t (after_fail past (Some x))
          (subst (λ (y : Option (ℕ × ℕ)). Runs (record w { boxes = q }) (after_fail past y)) c.in_ok-route.was
          (failed-past v w q c.fail.result (sym c.self.view_is) c.fail.ensures.boxes c.fail.ensures.result c.requires
          past h.runs));
      tally = c.add_reaped.ensures past.done past.reaped
          (subst (IsTally past.done past.reaped) (ap (λ (u : BusSide). u.tally) (sym c.self.view_is)) h.tally);
    }

pub returns-clause-reaped : goal.returns-clause-reaped
returns-clause-reaped g c =
    subst (λ (o : Option (ℕ × ℕ)). IfSome o (λ z. option_map label_of (on_bus_now c.args.self.now.boxes) ≡ Some z))
    c.in_ok-route.was (failed-label c.args.self.now (bus_view c.self.inside) c.fail.result
    (sym c.self.view_is) c.fail.ensures.result c.requires c.self.invariant.2)

pub returns-in_err-route-clause-idle : goal.returns-in_err-route-clause-idle
returns-in_err-route-clause-idle g c = failed-rest c.args.self.now (bus_view c.self.inside) c.fail.new.boxes.items
    (sym c.self.view_is) c.fail.ensures.boxes c.requires c.self.invariant.2

pub returns-clause-idle : goal.returns-clause-idle
returns-clause-idle g c = failed-rest c.args.self.now (bus_view c.self.inside) c.fail.new.boxes.items
    (sym c.self.view_is) c.fail.ensures.boxes c.requires c.self.invariant.2
