-- Such bits leave what each controller has on the bus.
use Rattle.std.proofs.Common.{length, slice_get, sym, ap, ◌∙◌}
use Rattle.can_segment.proofs.UneventfulBits.{left_uneventfully}
use Rattle.bus_tests.proofs.segment.make_uneventful_bits.Goals as goal

pub returns : goal.returns
returns g c =
    let left = left_uneventfully c.uneventful_bits.ensures.bits in
    record {
      size = c.requires.size ∙ ap length (sym left.sending_is);
      transmits =
          λ k sends p e f. c.requires.transmits k sends p (ap (λ all. slice_get all k) (sym left.sending_is) ∙ e) f;
    }
