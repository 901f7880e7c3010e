use Rattle.std.proofs.lemmas.Bool.{or_parts}
use Rattle.can_segment.proofs.all_nodes.sample_active.Goals as goal

pub returns-clause-uneventful : goal.returns-clause-uneventful
returns-clause-uneventful g c none =
    let parts = or_parts c.sample_nodes-talkers_reported.result c.sample_controllers-controllers_reported.result none in (
      c.sample_nodes-talkers_reported.ensures.uneventful parts.0,
      c.sample_controllers-controllers_reported.ensures.uneventful
          parts.1,
    )
