-- The lines of the refused events, then those of the routes.
use Rattle.gw_print.proofs.CoreReportLaws.{whole_report}
use Rattle.gw_print.proofs.core_report.report_on_events.Goals as goal

pub returns : goal.returns
returns c = whole_report c.args.list.now.txfp c.args.list.now.routes c.args.list.now.events.items c.as_slice.result.now
    c.with_txfp-core.result c.apply_all.new.core _ _ _
    c.as_slice.ensures.value c.with_txfp-core.ensures c.new-text.ensures.bytes c.in_ok-apply_all.ensures.core
    c.in_ok-apply_all.ensures.text c.apply_all.ensures.routes c.in_ok-push_routes.ensures
