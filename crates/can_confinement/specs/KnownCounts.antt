-- What is known of a node's error counts, by what an event changes of them.
use Rattle.std.specs.Prelude.{◌≡◌, ◌==◌, ◌&&◌, if◌then◌else◌}
use Rattle.can_confinement.specs.declared.counters.Counters.{Counters}
use Rattle.can_confinement.specs.declared.known_counts.KnownCounts.{KnownCounts}
use Rattle.can_confinement.specs.declared.known_counts.KnownCounts.TheVariants.{Any, Zero}
use Rattle.can_confinement.specs.Confinement.{Counts, no_counts}
use Rattle.can_confinement.specs.Counters.{counts_of}

-- so much is known of these counters
abbrev pub Knows : KnownCounts → Counters → Type 0
Knows Any counters = Unit {0}
Knows Zero counters = counts_of counters ≡ no_counts

-- the most that can be known of these counts
abbrev pub known_of : Counts → KnownCounts
known_of counts = if counts.tec == 0 && counts.rec == 0 then Zero else Any
