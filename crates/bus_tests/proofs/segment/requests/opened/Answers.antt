-- Before its first bit a segment has nothing of any controller sending, and neither has the port.
use Rattle.std.proofs.Common.{sym, ap, ◌∙◌}
use Rattle.std.proofs.lemmas.Option.{slice_get_within, get_or_from_slice_get}
use Rattle.bx_core.specs.PlainMail.{core_of, sending}
use Rattle.bus_tests.specs.declared.segment.Port.{Port}
use Rattle.bus_tests.proofs.segment.requests.opened.Goals as goal

pub returns-in-Ok : goal.returns-in-Ok
returns-in-Ok c =
    let ports = c.args.ports.now in
    let opening = c.in-Ok.ensures.ok in
    record {
      size = c.requires.port ∙ sym (opening.one_each ∙ c.requires.one);
      transmits = λ k sends p e f.
          ap (λ (q : Port). sending (core_of q.mail)) (sym (get_or_from_slice_get ports k p p f))
          ∙ c.requires.idle k p (slice_get_within ports k p f)
          ∙ sym (opening.idle k sends e);
    }
