use Rattle.std.proofs.Common.{◌≡◌, ◌<◌, ℕ, slice_get, Some}
use Rattle.can_segment.specs.declared.record.Record.{Record}
use Rattle.gw_script.specs.NamedPlaces.{NamesNodes}
use Rattle.gw_script.proofs.standing.records_stand.Given as goal

abbrev pub invariant-loop-segment : goal.invariant-loop-segment
invariant-loop-segment l =
    (place : ℕ) → place < l.segment → (of : Record) → slice_get l.records place ≡ Some of → NamesNodes l.script place of
