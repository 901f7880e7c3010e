-- Such bits leave what each controller has on the bus.
use Rattle.std.proofs.Common.{length, slice_get, sym, ap, ◌∙◌}
use Rattle.can_segment.proofs.IdleBits.{left_idle}
use Rattle.bus_tests.proofs.segment.make_idle_bits.Goals as goal

pub returns : goal.returns
returns g c =
    let left = left_idle c.idle_bits.ensures.bits in
    record {
      size = c.requires.size ∙ ap length (sym left.sending_is);
      transmits =
          λ k sends p e f. c.requires.transmits k sends p (ap (λ all. slice_get all k) (sym left.sending_is) ∙ e) f;
    }
