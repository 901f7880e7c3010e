-- What was gathered was written, or there is room.
use Rattle.std.proofs.Common.{sym, subst}
use Rattle.gw_script.specs.Gathering.{IsGathered}
use Rattle.gw_script.proofs.Gathering.{gathered-written, on-ok}
use Rattle.gw_script.proofs.report_writer.make_room.Goals as goal

pub returns-then-capacity-len-clause-gathered : goal.returns-then-capacity-len-clause-gathered
returns-then-capacity-len-clause-gathered g c =
    let before = g.W.Write.contents c.args.output.now in
    let after = g.W.Write.contents c.hand_over.new.output in
    let text = c.args.text.now.items in
    on-ok c.hand_over.result _ _ _ (λ written empty old rest whole gathered.
    subst (λ now. IsGathered old after now rest whole) (sym empty)
    (gathered-written old before after text rest whole gathered written)) c.hand_over.ensures.whole
    c.hand_over.ensures.empty
