use Rattle.can_node.proofs.shared_sample.transition_of_any.Goals as goal

pub returns-in-Nothing : goal.returns-in-Nothing
returns-in-Nothing c = c.after_taking-transition.ensures.alike c.in-Nothing.is
