use Rattle.std.proofs.Common.{◌≡◌, ◌<◌, ℕ, Some, [], slice_get}
use Rattle.bx_core.specs.PlainMail.{core_of}
use Rattle.gw_run.specs.Ports.{Port}
use Rattle.gw_run.proofs.site.none_waits.Given as goal

abbrev pub invariant-loop-port : goal.invariant-loop-port
invariant-loop-port l = (k : ℕ) (port : Port) → k < l.port-index → slice_get l.ports k ≡ Some port →
    (core_of port.mail).queue ≡ []
