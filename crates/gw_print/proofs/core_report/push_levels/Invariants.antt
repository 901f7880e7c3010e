use Rattle.std.proofs.Common.{◌≡◌, ◌++◌, map, take, string_bytes}
use Rattle.gw_print.specs.CoreReports.{digit}
use Rattle.gw_print.proofs.core_report.push_levels.Given as goal

abbrev pub invariant-loop-level : goal.invariant-loop-level
invariant-loop-level l = string_bytes l.text ≡ string_bytes l.fn.text ++ map digit (take l.level-index l.levels)
