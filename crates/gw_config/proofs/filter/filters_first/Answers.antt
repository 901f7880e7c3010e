-- One filter more takes its bank.
use Rattle.std.proofs.Common.{◌∙◌, ap, slice_set}
use Rattle.gw_config.proofs.FilterLaws.{filters_more}
use Rattle.gw_config.proofs.filter.filters_first.Goals as goal

pub loop-number-preserved : goal.loop-number-preserved
loop-number-preserved c =
    c.set.ensures
    ∙ ap (λ banks. slice_set banks c.loop-number.number c.index-filters-number.result) c.loop-number.invariant
    ∙ filters_more c.args.filters.now c.loop-number.number c.index-filters-number.result c.loop-number-test.true
    c.requires c.index-filters-number.is
