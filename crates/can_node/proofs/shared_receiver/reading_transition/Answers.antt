use Rattle.can_node.proofs.shared_receiver.reading_transition.Goals as goal

pub returns-clause-goes : goal.returns-clause-goes
returns-clause-goes c = c.after_taking-transition.ensures.alike (c.is_unseen.ensures
    c.if-not-is_unseen.false).reports_none
