-- One name more.
use Rattle.std.proofs.Common.{◌≡◌, ◌∙◌, [], get_or, arith}
use Rattle.std.proofs.lemmas.List.{take_more, map-append}
use Rattle.std.proofs.lemmas.Option.{unwrap_or-slice_get}
use Rattle.gw_config.specs.Nodes.{names_of_nodes}
use Rattle.gw_script.proofs.report_names.names_of_nodes.Goals as goal

pub loop-node-preserved : goal.loop-node-preserved
loop-node-preserved c =
    let all = names_of_nodes c.args.script.now c.args.segment in
    let i = c.loop-node.node in
    let more = take_more all i [] (omega arith) in
    let name : c.node_name.result.now ≡ get_or all i [] = c.node_name.ensures ∙ unwrap_or-slice_get all i [] in
    rw (c.in_ok-push.ensures.items, map-append, c.loop-node.invariant, name, more)
