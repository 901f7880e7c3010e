use Rattle.gw_run.specs.Sites.{StartsSite}
use Rattle.gw_site.proofs.Pairs.{PairsBelow}
use Rattle.gw_run.proofs.opening.sites_of.Given as goal

abbrev pub invariant-loop-segment : goal.invariant-loop-segment
invariant-loop-segment l = PairsBelow (λ i segment. StartsSite l.script i) l.script.segments l.sites.items l.segment
