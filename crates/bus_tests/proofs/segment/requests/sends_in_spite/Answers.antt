-- Before its first bit a segment has nothing of any controller sending, and neither has the only port.
use Rattle.std.proofs.Common.{rules, ◌≡◌, ◌∷◌, [], ℕ, length, zero, suc, Some, slice_get, sym, ap, ◌∙◌}
use Rattle.bx_core.specs.PlainMail.{core_of, sending}
use Rattle.bus_tests.specs.declared.segment.Port.{Port}
use Rattle.bus_tests.proofs.segment.requests.sends_in_spite.Goals as goal

only : (q p : Port) (k : ℕ) → slice_get (q ∷ []) k ≡ Some p → q ≡ p
only q p zero is = cc is
only q p (suc k) is = absurd (cc is)

pub make_bits-requires : goal.make_bits-requires
make_bits-requires c =
    let opening = c.in-Ok-new.ensures.ok in
    let port = c.in_ok-port_with in
    let one : length c.in-Ok.plan.controllers.items ≡ 1 = search rules in
    record {
      size = sym (opening.one_each ∙ one);
      transmits = λ k sends p e f.
          ap (λ (q : Port). sending (core_of q.mail)) (sym (only port.field-0 p k f)) ∙ port.ensures
          ∙ sym (opening.idle k sends e);
    }
