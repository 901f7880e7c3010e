use Rattle.can_station.proofs.Places.{AtPlacesBelow}
use Rattle.gw_run.specs.Sites.{SiteMakes}
use Rattle.gw_run.proofs.world.make_bits.Given as goal

abbrev pub invariant-loop-place : goal.invariant-loop-place
invariant-loop-place g l = AtPlacesBelow (λ i. SiteMakes l.until l.bits) l.initial.sites l.sites l.place
