-- The baton that was taken is back.
use Rattle.gw_pool.proofs.Dealt.{even_on}
use Rattle.gw_pool.proofs.serving.serve_one.Goals as goal

pub returns-clause-even : goal.returns-clause-even
returns-clause-even g c =
    even_on c.args.seat.now.account c.take.new.self.account c.put.new.self.account c.in-Some.baton.place
    c.turn-answer.new.self.place c.in-Some.ensures.taken c.put.ensures.put c.turn-answer.ensures.place c.requires.even
