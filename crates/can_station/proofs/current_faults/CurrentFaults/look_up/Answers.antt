use Rattle.std.proofs.Common.{arith, ap, ◌∙◌}
use Rattle.can_station.proofs.OutsideWindows.{inverts_window, sets_window}
use Rattle.can_station.proofs.current_faults.CurrentFaults.look_up.Goals as goal

pub returns-clause-level : goal.returns-clause-level
returns-clause-level c =
    let window = c.advance-line_behind in
    sets_window c.args.self.now.line.items window.new.self c.args.bit c.line_from-line.result.until window.result
    c.min-self.result c.line_from-line.result.level window.ensures.window
    (ap (λ v. v.items) window.ensures.ranges ∙ c.requires.line_ranges) window.ensures.behind
    (rw c.deref.ensures.value at c.line_from-line.ensures.level)
    (omega (arith, c.min.ensures, c.min-2.ensures, c.min-self.ensures))
    (omega (arith, c.min.ensures, c.min-2.ensures, c.min-self.ensures))

pub returns-clause-here : goal.returns-clause-here
returns-clause-here c =
    let window = c.advance-nodes_behind in
    inverts_window c.args.self.now.nodes.items window.new.self c.args.bit c.nodes_from-until.result window.result
    c.min-self.result c.nodes_from-until.new.here.items window.ensures.window
    (ap (λ v. v.items) window.ensures.ranges ∙ c.requires.node_ranges) window.ensures.behind
    (rw c.deref-2.ensures.value at c.nodes_from-until.ensures.nodes)
    (omega (arith, c.min.ensures, c.min-2.ensures, c.min-self.ensures))
    (omega (arith, c.min.ensures, c.min-2.ensures, c.min-self.ensures))
