use Rattle.std.proofs.Common.{rules, ◌≤◌, sym}
use Rattle.can_node.proofs.GoingBy.{sending_by}
use Rattle.can_node.proofs.node.Node.go_ahead_by.Goals as goal

pub returns-in-Transmitting : goal.returns-in-Transmitting
returns-in-Transmitting c is_sender levels size may =
    let here = c.in-Transmitting in
    let fits : here.place ≤ 255 = search rules in
    sending_by c.args.self.now here._start here.place c.saturating_add.result c.args.count levels is_sender here.is
    (sym size) c.saturating_add.ensures fits may
