use Rattle.std.proofs.Common.{rules, ◌≤◌, refl, sym, ◌∙◌, arith}
use Rattle.can_node.proofs.GoingBy.{sending_by, short_by, waiting_by}
use Rattle.can_node.proofs.ReadingBy.{reading_by}
use Rattle.can_node.proofs.node.Node.go_on_by.Goals as goal

pub overflow_cast-levels : goal.overflow_cast-levels
overflow_cast-levels c =
    let here = c.in-Transmitting in
    let may = c.requires.goes in
    let short = short_by c.args.self.now here._start here.place c.args.levels.now may.0 here.is may.1 in
    omega (arith, short)

pub returns-in-Transmitting : goal.returns-in-Transmitting
returns-in-Transmitting c is_sender may =
    let here = c.in-Transmitting in
    let fits : here.place ≤ 255 = search rules in
    sending_by c.args.self.now here._start here.place c.saturating_add.result _ c.args.levels.now is_sender here.is
    refl c.saturating_add.ensures fits may

pub returns-then-is_in_region : goal.returns-then-is_in_region
returns-then-is_in_region c is_sender may =
    let read = c.reads_on_by.ensures in
    reading_by c.args.self.now c.reads_on_by.new.self _ c.reads_on_by.result c.args.levels.now is_sender
    (sym c.is_in_region.ensures ∙ c.if-is_in_region.true) refl read.few read.on read.ends may

pub returns : goal.returns
returns c is_sender may =
    waiting_by c.args.self.now c.go_out.new.state _ c.args.levels.now is_sender c.in_default.not-Transmitting
    (sym c.is_in_region.ensures ∙ c.if-is_in_region.false) refl c.go_out.ensures may
