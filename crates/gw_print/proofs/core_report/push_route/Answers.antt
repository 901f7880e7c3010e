-- The line of counts follows the lines of what was sent.
use Rattle.std.proofs.Common.{ap, length, subst, string_bytes, List, ◌∙◌}
use Rattle.bx_core.specs.declared.entry.Entry.{Entry}
use Rattle.bx_core.specs.States.{lists_of, waits_of}
use Rattle.gw_print.specs.CoreReports.{AppendsDones}
use Rattle.gw_print.proofs.CoreReportLaws.{counts_follow}
use Rattle.gw_print.proofs.core_report.push_route.Goals as goal

pub returns : goal.returns
returns c =
    let P : List Entry → Type 0 =
    AppendsDones c.args.route (string_bytes c.args.text.now) (string_bytes c.push_dones.new.text) in
    counts_follow c.writeln.result c.args.route (lists_of c.args.core.now c.args.route)
    (waits_of c.args.route c.args.core.now.queue) _ _ _ _ _ _ _ _
    (ap length c.requested.ensures) (ap length c.done-2.ensures) (ap length c.aborted.ensures)
    (ap length c.reaped.ensures)
    (c.len-waiting.ensures.value ∙ ap length c.waiting.ensures)
    (subst P c.done.ensures c.in_ok-push_dones.ensures) c.writeln.ensures.bytes
