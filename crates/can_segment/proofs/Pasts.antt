-- The past of each node of a run is a history.
use Rattle.std.proofs.Common.{◌≡◌, inl, inr, ℕ, ◌<◌, ◌≤◌, Bool, Some, List, [], ◌∷◌, ◌++◌, length, refl, sym, ◌∙◌, ap}
use Rattle.std.proofs.Common.{subst, arith, slice_get}
use Rattle.std.proofs.lemmas.Bool.{cases_lt}
use Rattle.std.proofs.lemmas.List.{length-append}
use Rattle.can_node.specs.Histories.{IsHistory, no_past}
use Rattle.can_node.specs.Histories.Whole.{switched_on}
use Rattle.can_node.specs.Episodes.Begun.{syncing}
use Rattle.can_node.specs.Phases.Phase.{Sync}
use Rattle.can_node.specs.Waits.Broken.{none}
use Rattle.can_station.specs.declared.event.Event.{Event}
use Rattle.can_station.specs.declared.plan.SegmentPlan.{SegmentPlan}
use Rattle.can_segment.specs.Traces.{Bit, with_act, past_of}
use Rattle.can_segment.specs.Runs.{Run, firsts}
use Rattle.can_segment.specs.Runs.Run.{no_bit, one_more}
use Rattle.can_segment.proofs.OneLine.{past_more}
use Rattle.can_segment.proofs.ActsNoted.{next_act}

-- a node that has just been switched on has a history
fresh_history : (on : ℕ) → IsHistory (no_past on)
fresh_history on = record {
  done = no_past on;
  phase = Sync;
  part = [];
  counting = [];
  whole = switched_on on;
  goes_on = syncing [] 0 none (omega arith);
  on = refl;
  past_is = refl;
}

fresh_past : {plan : SegmentPlan} {trace : List Bit} {levels : List Bool} {events : List Event} (node on : ℕ) →
    Run plan trace levels events →
    slice_get (firsts plan) node ≡ Some on → length trace ≤ on → past_of on node trace ≡ no_past on
fresh_past node on no_bit e few = refl
fresh_past {plan = plan} node on (one_more {trace = trace} bit run is_bit) e few =
    let early : length trace < on = omega (arith, few, length-append trace (bit ∷ [])) in
    past_more on node trace bit
    ∙ ap (with_act (past_of on node trace)) ((next_act plan on node trace bit is_bit e).before early)
    ∙ fresh_past node on run e (omega (arith, early))

-- the past of each node is a history
pub has_history : {plan : SegmentPlan} {trace : List Bit} {levels : List Bool} {events : List Event} (node on : ℕ) →
    Run plan trace levels events →
    slice_get (firsts plan) node ≡ Some on → IsHistory (past_of on node trace)
has_history node on no_bit e = fresh_history on
has_history {plan = plan} node on (one_more {trace = trace} bit run is_bit) e =
    let next = next_act plan on node trace bit is_bit e in
    elim (cases_lt (length trace) on) [
      | inl early ↦ (let same : past_of on node (trace ++ bit ∷ []) ≡ no_past on =
          past_more on node trace bit ∙ ap (with_act (past_of on node trace)) (next.before early)
          ∙ fresh_past node on run e (omega (arith, early)) in
          subst IsHistory (sym same) (fresh_history on))
      | inr late ↦ (let d = next.from_there_on late in
          subst IsHistory (sym (past_more on node trace bit ∙ ap (with_act (past_of on node trace)) d.act_is))
          d.is_act.history)
    ]
