-- The talkers, and the controllers on the segment.
use Rattle.std.proofs.Common.{◌≡◌, ◌∙◌, ap, sym, ℕ, ◌+◌, ◌==◌, List, length, count_by, slice_get}
use Rattle.gw_config.specs.Talkers.{TalkerValue}
use Rattle.gw_config.specs.Controllers.{ControllerValue}
use Rattle.gw_config.specs.Nodes.{talkers_on}
use Rattle.gw_config.specs.Scripts.{ScriptValue}
use Rattle.gw_config.proofs.NodeLaws.{length-names}
use Rattle.gw_config.proofs.script.Script.node_count.Goals as goal

pub returns : goal.returns
returns c =
    let s = c.args.self.now in
    let counted : List ControllerValue → ℕ = count_by (λ (one : ControllerValue). one.segment == c.args.segment) in
    let same : c.as_slice.result.now ≡ s.controllers =
    c.as_slice.ensures.value ∙ ap (λ (v : ScriptValue). v.controllers) c.self.view_is in
    ap (λ n. length c.talkers_on-talkers.result.now + n) (c.count_on.ensures.value ∙ ap counted same)
    ∙ ap (λ (ts : List TalkerValue). length ts + counted s.controllers) c.talkers_on-talkers.ensures
    ∙ sym (length-names (talkers_on (slice_get s.segments c.args.segment)) c.args.segment s.controllers)
