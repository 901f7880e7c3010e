use Rattle.std.proofs.Common.{rules, ◌≡◌, List, [], ◌∷◌, Some, true, false, is_some, inl, inr}
use Rattle.std.proofs.Common.{slice_get, refl, sym, ap, arith, ◌∙◌}
use Rattle.std.proofs.lemmas.Bool.{cases_lt}
use Rattle.std.proofs.lemmas.Option.{slice_get-get_or, slice_get_within}
use Rattle.bx_core.specs.PlainMail.{core_of}
use Rattle.can_station.proofs.Places.{same_some}
use Rattle.gw_run.specs.Ports.{Port}
use Rattle.gw_run.proofs.site.none_waits.Goals as goal

none_there : {X : Type 0} (xs : List X) → is_some (slice_get xs 0) ≡ false → xs ≡ []
none_there [] e = refl
none_there (x ∷ xs) e = absurd (cc e)

pub loop-port-preserved : goal.loop-port-preserved
loop-port-preserved c k port less e = elim (cases_lt k c.loop-port.port-index) [
  | inl before ↦ c.loop-port.invariant k port before e
  | inr here ↦
      let same : k ≡ c.loop-port.port-index = omega (arith, here, less) in
      let within = c.loop-port-test.true in
      let is : port ≡ c.port-item.result = same_some port _ (sym e ∙ ap (slice_get c.args.ports.now) same
      ∙ slice_get-get_or c.args.ports.now c.loop-port.port-index c.port-item.result (search rules))
      ∙ sym c.port-item.is in
      let first : c.first.result ≡ slice_get (core_of c.port-item.result.mail).queue 0 = search rules in
      let none : is_some c.first.result ≡ false = search rules in
      ap (λ (p : Port). (core_of p.mail).queue) is
      ∙ none_there (core_of c.port-item.result.mail).queue (sym (ap is_some first) ∙ none)
]

-- the port whose first request was found has one
pub returns-then-is_some-clause-some : goal.returns-then-is_some-clause-some
returns-then-is_some-clause-some c is none =
    let port = c.port-item.result in
    let there : slice_get c.args.ports.now c.loop-port.port-index ≡ Some port =
    slice_get-get_or c.args.ports.now c.loop-port.port-index port (search rules) ∙ ap Some (sym c.port-item.is) in
    let first : c.first.result ≡ slice_get (core_of port.mail).queue 0 = search rules in
    let some : is_some c.first.result ≡ true = search rules in
    let empty = ap (λ q. is_some (slice_get q 0)) (none c.loop-port.port-index port there) in
    absurd (cc (some, first, empty))

pub returns-clause-none : goal.returns-clause-none
returns-clause-none c is k port e = c.loop-port.invariant k port
    (let within = slice_get_within c.args.ports.now k port e in
    let end = c.loop-port-test.false in omega (arith, within, end)) e
