-- The line is made of five pieces.
use Rattle.gw_print.proofs.CoreReportLaws.{done_pieces}
use Rattle.gw_print.proofs.core_report.push_done.Goals as goal

pub returns : goal.returns
returns c = done_pieces c.write-3.result c.args.route c.args.entry.now _ _ _ _ _ _
    c.in_ok-write.ensures.bytes c.in_ok-push_frame.ensures c.in_ok-write-2.ensures.bytes c.in_ok-push_wire.ensures
    c.write-3.ensures.bytes
