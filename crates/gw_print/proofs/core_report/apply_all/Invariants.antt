use Rattle.std.proofs.Common.{◌≡◌, ◌++◌, drop, string_bytes, length}
use Rattle.bx_core.specs.Law.{run}
use Rattle.gw_print.specs.CoreReports.{refused_lines}
use Rattle.gw_print.proofs.core_report.apply_all.Given as goal

abbrev pub invariant-loop-place : goal.invariant-loop-place
invariant-loop-place l = record {
  core : run l.core (drop l.place l.events) ≡ run l.fn.core l.events;
  text : string_bytes l.text ++ refused_lines l.core l.place (drop l.place l.events) ≡ string_bytes l.fn.text
      ++ refused_lines l.fn.core 0 l.events;
  routes : length l.core.routes ≡ length l.fn.core.routes;
}
