-- One frame more is one line more.
use Rattle.std.proofs.Common.{take, ap, sym, string_bytes, subst, List, ◌∷◌, [], ◌++◌, ◌∙◌}
use Rattle.std.proofs.lemmas.List.{take_more}
use Rattle.bx_core.specs.declared.entry.Entry.{Entry}
use Rattle.gw_print.specs.CoreReports.{AppendsDones}
use Rattle.gw_print.proofs.CoreReportLaws.{dones-snoc}
use Rattle.gw_print.proofs.core_report.push_dones.Goals as goal

pub loop-entry-preserved : goal.loop-entry-preserved
loop-entry-preserved c =
    let i = c.loop-entry.entry-index in
    let front = take i c.args.done.now in
    let P : List Entry → Type 0 =
    AppendsDones c.args.route (string_bytes c.args.text.now) (string_bytes c.push_done.new.text) in
    let more = take_more c.args.done.now i c.entry-item.result c.loop-entry-test.true in
    subst P (ap (λ e. front ++ e ∷ []) c.entry-item.is ∙ sym more)
    (dones-snoc _ _ _ _ front c.entry-item.result c.loop-entry.invariant c.in_ok-push_done.ensures)
