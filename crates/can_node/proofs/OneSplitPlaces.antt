-- Two whole episodes of a past that have a bit in common are one.
use Rattle.std.proofs.Common.{◌≡◌, ℕ, ◌+◌, ◌<◌, List, ◌++◌, length, refl, sym, ap, subst, arith, ◌∙◌}
use Rattle.std.proofs.lemmas.List.{length-append}
use Rattle.can_confinement.specs.declared.confinement.ErrorEvent.{ErrorEvent}
use Rattle.can_node.specs.declared.outcome.Outcome.{Outcome}
use Rattle.can_node.specs.Pairs.{Pair}
use Rattle.can_node.specs.Phases.{Phase}
use Rattle.can_node.specs.Phases.Phase.{Sync}
use Rattle.can_node.specs.Histories.{Past, Whole, no_past, with_episode}
use Rattle.can_node.specs.Histories.Whole.{switched_on, then}
use Rattle.can_node.specs.Splits.{Onward, Continues, HasEpisode}
use Rattle.can_node.specs.Splits.Onward.{stays, goes_on}
use Rattle.can_node.specs.UniqueSplits.{StandsIn, OneEpisode}
use Rattle.can_node.proofs.ActiveFlags.{onward_grows}
use Rattle.can_node.proofs.Heard.{continues_grows}
use Rattle.can_node.proofs.OneSplitEvents.{place_fits}
use Rattle.can_node.proofs.OneSplitEpisodes.{kind}
use Rattle.can_node.proofs.OneSplit.{SameStep, same_step, from_first}

-- whole episodes and then more of them
join : {from to far : Past} {phase last end : Phase} → Onward from phase to last → Onward to last far end →
    Onward from phase far end
join stays more = more
join (goes_on episode onward) more = goes_on episode (join onward more)

-- the past goes on so from a place before one of its episodes
through : {from past done : Past} {first phase next : Phase} {pairs : List Pair} {events : List ErrorEvent}
    {outcome : Outcome} → Onward from first done phase → HasEpisode past done phase pairs events outcome next →
    Continues from first past
through onward h = record {
  to = h.continues.to;
  last = h.continues.last;
  part = h.continues.part;
  counting = h.continues.counting;
  onward = join onward (goes_on h.episode h.continues.onward);
  begun = h.continues.begun;
  on = h.continues.on;
  past_is = h.continues.past_is;
}

record SameEpisode (done other : Past) (phase kind : Phase) (pairs more : List Pair) (events counted : List ErrorEvent)
    (outcome reported : Outcome) (next last : Phase) : Type 0 where
  done_is : done ≡ other
  phase_is : phase ≡ kind
  step : SameStep pairs more events counted outcome reported next last

-- an episode behind these pairs has no bit of them
none_common : {from to : Past} {phase last : Phase} (bit : ℕ) (more : List Pair) → Onward from phase to last →
    bit < from.first + length from.pairs → StandsIn bit to more → ⊥
none_common {from = from} bit more onward before h =
    let g = onward_grows onward in
    omega (arith, before, h.behind, g.first_is, ap length g.pairs_are, length-append from.pairs g.more)

same_episode : {from past done other : Past} {first phase kind next last : Phase} {pairs more : List Pair}
    {events counted : List ErrorEvent} {outcome reported : Outcome} (bit : ℕ) → Whole from first →
    Onward from first done phase → HasEpisode past done phase pairs events outcome next →
    Onward from first other kind → HasEpisode past other kind more counted reported last →
    StandsIn bit done pairs → StandsIn bit other more →
    SameEpisode done other phase kind pairs more events counted outcome reported next last
same_episode {from = from} bit whole stays h stays k in_first in_second = record {
  done_is = refl;
  phase_is = refl;
  step = same_step from (place_fits whole) (kind h.episode) h.continues (kind k.episode) k.continues;
}
same_episode {from = from} {pairs = pairs} {more = more} bit whole stays h (goes_on episode onward) k in_first
    in_second =
    let s = same_step from (place_fits whole) (kind h.episode) h.continues (kind episode) (through onward k) in
    absurd (none_common bit more onward
    (subst (λ ps. bit < from.first + length (from.pairs ++ ps)) (sym s.pairs_are) in_first.within) in_second)
same_episode {from = from} {pairs = pairs} {more = more} bit whole (goes_on episode onward) h stays k in_first
    in_second =
    let s = same_step from (place_fits whole) (kind k.episode) k.continues (kind episode) (through onward h) in
    absurd (none_common bit pairs onward
    (subst (λ ps. bit < from.first + length (from.pairs ++ ps)) (sym s.pairs_are) in_second.within) in_first)
same_episode {from = from} {other = to} {first = first} {kind = final} bit whole
    (goes_on {next = next} {pairs = pairs} {events = events} {outcome = outcome} episode onward) h
    (goes_on {next = other} {pairs = more} {events = counted} {outcome = reported} second rest) k in_first in_second =
    let s = same_step from (place_fits whole) (kind episode) (through onward h) (kind second) (through rest k) in
    let moved : Onward (with_episode from first pairs events outcome) next to final =
    subst (λ n. Onward (with_episode from first pairs events outcome) n to final) (sym s.end.next_is)
    (subst (λ o. Onward (with_episode from first pairs events o) other to final) (sym s.end.outcome_is)
    (subst (λ es. Onward (with_episode from first pairs es reported) other to final) (sym s.end.events_are)
    (subst (λ ps. Onward (with_episode from first ps counted reported) other to final) s.pairs_are rest))) in
    same_episode bit (then whole episode) onward h moved k in_first in_second

pub one_episode : OneEpisode
one_episode past done other phase sort next last pairs more events counted outcome reported bit h k in_first in_second =
    let first : done.first ≡ other.first =
    sym (continues_grows h.continues).first_is ∙ (continues_grows k.continues).first_is in
    let s = same_episode bit (switched_on done.first) (from_first h.whole) h
    (subst (λ n. Onward (no_past n) Sync other sort) (sym first) (from_first k.whole)) k in_first in_second in (
      s.done_is,
      s.phase_is,
      sym s.step.pairs_are,
      s.step.end.events_are,
      s.step.end.outcome_is,
      s.step.end.next_is,
    )
