-- The lists are as long as the script's, and the records stand.
use Rattle.std.proofs.Common.{◌≡◌, ◌∙◌, ap, sym, length, slice_get}
use Rattle.gw_script.proofs.standing.names_stand.Goals as goal

pub returns : goal.returns
returns c =
    let s = c.args.script.now in
    let report = c.args.report.now in
    let records = c.as_slice-records.ensures.value in
    let segments : length report.segments.items ≡ length s.segments =
    ap length (sym records) ∙ c.if-records-segments.false ∙ ap length c.segments.ensures in
    let routes : length report.routes.items ≡ length s.routes =
    ap length (sym c.as_slice-routes.ensures.value) ∙ c.if-routes.false ∙ ap length c.routes.ensures in (
      λ stand. record {
        segments = segments;
        records = λ place of is. c.records_stand.ensures.0 stand place of (ap (λ rs. slice_get rs place) records ∙ is);
        routes = routes;
      },
      λ names. c.records_stand.ensures.1 (λ place of is. names.records place of
          (ap (λ rs. slice_get rs place) (sym records) ∙ is)),
    )
