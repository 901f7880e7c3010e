use Rattle.std.proofs.Common.{◌∙◌, sym}
use Rattle.can_node.proofs.PlainBits.{goes_plainly, goes_reading, goes_sending, in_plain, in_sending}
use Rattle.can_node.proofs.node.Node.go_on.Goals as goal

pub returns-in-Transmitting : goal.returns-in-Transmitting
returns-in-Transmitting c =
    let node = c.args.self.now in
    let here = c.in-Transmitting in
    let on = in_sending node c.args.level here._start here.sent here.is c.requires.goes in
    goes_sending node here._start here.sent c.saturating_add.result c.args.level here.is on c.saturating_add.ensures

pub returns-then-is_in_region : goal.returns-then-is_in_region
returns-then-is_in_region c =
    goes_reading c.args.self.now c.args.level _ (sym c.is_in_region.ensures ∙ c.if-is_in_region.true) c.read_on.ensures

pub returns : goal.returns
returns c =
    let node = c.args.self.now in
    let plain = in_plain node c.args.level c.in_default.not-Transmitting (sym c.is_in_region.ensures
    ∙ c.if-is_in_region.false) c.requires.goes in
    goes_plainly node c.args.level c.go_plainly.new.state plain (c.go_plainly.ensures plain)
