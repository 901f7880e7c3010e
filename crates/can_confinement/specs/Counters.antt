-- What a node's counters hold after a list of events.
use Rattle.std.specs.Prelude.{◌≡◌, List}
use Rattle.can_confinement.specs.declared.confinement.ErrorEvent.{ErrorEvent}
use Rattle.can_confinement.specs.declared.counters.Counters.{Counters}
use Rattle.can_confinement.specs.Confinement.{Counts, counts_after}

-- the counts that the counters show
abbrev pub counts_of : Counters → Counts
counts_of c = record { tec = c.tec; rec = c.rec }

-- the counters stand after these events: they may have counted them, in this order, since they were new
abbrev pub StandsAfter : Counters → List ErrorEvent → Type 0
StandsAfter c events = counts_of c ≡ counts_after events
