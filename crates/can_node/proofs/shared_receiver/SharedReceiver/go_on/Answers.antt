use Rattle.std.proofs.Common.{sym, ◌∙◌}
use Rattle.can_node.proofs.Listens.{other_follows}
use Rattle.can_node.proofs.shared_receiver.SharedReceiver.go_on.Goals as goal
use Rattle.can_node.proofs.shared_receiver.SharedReceiver.go_on.Goals.{then-is_taking, else-is_taking}

pub returns-clause-follows : goal.returns-clause-follows
returns-clause-follows c followed no_take no_send =
    let state = c.args.self.now.state in
    let transition = c.transition_of-transition.result in
    let unseen = c.is_unseen.ensures c.if-not-is_unseen.false in
    let goes = c.transition_of-transition.ensures.alike (sym c.steps_alike.ensures ∙ c.if-not-steps_alike.false) in
    elim c.if-is_taking.branch [
      | then-is_taking w ↦ rw w.self-is
          (other_follows c.args.known c.args.self.now w.reader_after_sof-self.result c.args.bit c.args.level transition
          no_send goes unseen
          (λ is. w.reader_after_sof-self.ensures.stands) (λ is. w.reader_after_sof-self.ensures.reading))
      | else-is_taking w ↦ rw w.self-is
          (other_follows c.args.known c.args.self.now c.args.self.now.reader c.args.bit c.args.level transition no_send
          goes
          unseen
          (λ is. absurd (cc (is, c.is_taking.ensures, w.if-is_taking.false)))
          (λ is. absurd (cc (is, c.is_taking.ensures, w.if-is_taking.false))))
    ]
