use Rattle.std.proofs.Common.{arith, length-set}
use Rattle.std.proofs.lemmas.List.Elements.{All-set}
use Rattle.std.proofs.lemmas.Result.{on_ok_weaker}
use Rattle.gw_script.specs.LineParts.{IsEnd}
use Rattle.gw_script.proofs.repeats.Ends.push.Goals as goal

pub returns-in-Started-clause-ends : goal.returns-in-Started-clause-ends
returns-in-Started-clause-ends c =
    let started = c.args.self.now.started in
    let node = c.node.result in
    on_ok_weaker c.push.result
    (λ end. (
      omega (arith, length-set started.items node c.push.new.self),
      All-set IsEnd started.items node c.push.new.self end c.requires.ends.1,
      c.requires.ends.2,
    ))
    c.push.ensures.end
