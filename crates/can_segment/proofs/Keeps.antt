-- One more bit keeps what is recorded a run.
use Rattle.std.proofs.Common.{◌≡◌, ℕ, ◌+◌, ◌<◌, ◌≤◌, Bool, Some, Option, None, List, [], ◌∷◌, ◌++◌, fold, length}
use Rattle.std.proofs.Common.{slice_get, refl, sym, ap, subst, arith, ◌∙◌, length-append}
use Rattle.std.proofs.lemmas.Option.{slice_get_within}
use Rattle.can_node.specs.declared.outcome.Outcome.{Outcome}
use Rattle.can_node.specs.declared.outcome.Outcome.TheVariants.{Nothing, Took, Completed, Lost, Errored, WentOff}
use Rattle.can_node.specs.declared.outcome.Outcome.TheVariants.{CameBack}
use Rattle.can_node.specs.Node.{bit_of}
use Rattle.can_station.specs.declared.event.Event.{Event}
use Rattle.can_station.specs.declared.member.Member.{Member}
use Rattle.can_station.specs.declared.plan.SegmentPlan.{SegmentPlan}
use Rattle.can_segment.specs.Traces.{Act, Bit, act_of, completed_in}
use Rattle.can_station.specs.Outcomes.{completed_by}
use Rattle.can_segment.specs.Runs.{Run}
use Rattle.can_segment.specs.Runs.Run.{no_bit, one_more}
use Rattle.can_segment.specs.Moves.{NodesMove}
use Rattle.can_segment.specs.Kept.{StandsBehind, SegmentKept}
use Rattle.can_station.specs.Tellings.{start_of, rest_by, events_by, bit_lines}
use Rattle.can_station.proofs.Places.{some_there}
use Rattle.can_segment.proofs.Makes.{made}

-- a record has one level a bit
pub run_length : {plan : SegmentPlan} {trace : List Bit} {levels : List Bool} {events : List Event} →
    Run plan trace levels events → length levels ≡ length trace
run_length no_bit = refl
run_length (one_more {trace = trace} {levels = levels} bit run is) =
    omega (arith, length-append trace (bit ∷ []), length-append levels (bit.level ∷ []), run_length run)

one_at_most : (outcome : Outcome) → completed_by outcome ≤ 1
one_at_most Nothing = omega arith
one_at_most (Took start frame) = omega arith
one_at_most Completed = omega arith
one_at_most Lost = omega arith
one_at_most (Errored kind) = omega arith
one_at_most WentOff = omega arith
one_at_most CameBack = omega arith

one_in : (act : Option Act) → completed_in act ≤ 1
one_in None = omega arith
one_in (Some act) = one_at_most act.outcome

completed_from : (k : ℕ) (trace : List Bit) (n : ℕ) → fold (λ m bit. m + completed_in (act_of k bit)) n trace ≤ n
    + length trace
completed_from k [] n = omega arith
completed_from k (bit ∷ trace) n =
    let deferred = completed_from k trace (n + completed_in (act_of k bit)) in
    omega (arith, deferred, one_in (act_of k bit))

-- the clocks of nodes that are on
pub clocks : (on k bit limit : ℕ) (trace : List Bit) (member : Member) → StandsBehind on k trace member →
    bit ≡ length trace → bit < limit → member.on ≤ bit →
    (bit_of member.station.node < limit) × (member.station.completed < limit)
clocks on k bit limit trace member h here room late = (
  omega (arith, h.bit_is, h.on_is, here, room, late),
  omega (arith, h.completed_is, completed_from k trace 0, here, room),
)

pub talker_clocks : (plan : SegmentPlan) (levels : List Bool) (events : List Event) (talkers controllers : List Member)
    (bit limit : ℕ) → SegmentKept plan levels events talkers controllers → bit ≡ length levels → bit < limit →
    (k : ℕ) (m : Member) → slice_get talkers k ≡ Some m → m.on ≤ bit → (bit_of m.station.node < limit)
    × (m.station.completed < limit)
talker_clocks plan levels events talkers controllers bit limit h here room k m e late =
    let within = slice_get_within talkers k m e in
    let t = some_there plan.talkers.items k (omega (arith, within, h.stands.talkers_size)) in
    clocks t.0.on k bit limit h.trace m (h.stands.talkers_stand k t.0 m t.1 e) (here ∙ run_length h.run) room late

pub controller_clocks : (plan : SegmentPlan) (levels : List Bool) (events : List Event)
    (talkers controllers : List Member) (bit limit : ℕ) → SegmentKept plan levels events talkers controllers →
    bit ≡ length levels → bit < limit →
    (k : ℕ) (m : Member) → slice_get controllers k ≡ Some m → m.on ≤ bit → (bit_of m.station.node < limit)
    × (m.station.completed < limit)
controller_clocks plan levels events talkers controllers bit limit h here room k m e late =
    let within = slice_get_within controllers k m e in
    let t = some_there plan.controllers.items k (omega (arith, within, h.stands.controllers_size)) in
    clocks t.0.on (length plan.talkers.items + k) bit limit h.trace m (h.stands.controllers_stand k t.0 m t.1 e)
    (here ∙ run_length h.run) room late

pub kept_on : (plan : SegmentPlan) (levels : List Bool) (events : List Event) (bit : ℕ) (level : Bool)
    (t0 t2 c0 c2 : List Member) → SegmentKept plan levels events t0 c0 → bit ≡ length levels →
    length levels < plan.bits →
    NodesMove plan bit level t0 t2 c0 c2 → SegmentKept plan (levels ++ level ∷ []) (events ++ bit_lines bit t2 c2) t2 c2
kept_on plan levels events bit level t0 t2 c0 c2 h here still m =
    let at : bit ≡ length h.trace = here ∙ run_length h.run in
    let moves = subst (λ b. NodesMove plan b level t0 t2 c0 c2) at m in
    let size : length t2 ≡ length plan.talkers.items = moves.samples.size ∙ moves.starts.size ∙ h.stands.talkers_size in
    let one = made plan h.trace level t0 moves.t1 t2 c0 moves.c1 c2
    (record {
      stands = h.stands;
      starts = moves.starts;
      samples = moves.samples;
      controls = moves.controls;
      level_is = moves.level_is;
      still = omega (arith, still, run_length h.run);
    }) in
    let lines : bit_lines bit t2 c2 ≡ _ =
    ap (λ b. bit_lines b t2 c2) at
    ∙ ap (λ n. (events_by start_of (length h.trace) 0 t2 ++ events_by start_of (length h.trace) n c2)
    ++ (events_by rest_by (length h.trace) 0 t2 ++ events_by rest_by (length h.trace) n c2)) size
    ∙ sym one.tells in
    record {
      trace = h.trace ++ one.bit ∷ [];
      run = subst (λ l. Run plan (h.trace ++ one.bit ∷ []) (levels ++ l ∷ []) (events ++ bit_lines bit t2 c2))
          one.level_is
          (subst (λ es. Run plan (h.trace ++ one.bit ∷ []) (levels ++ one.bit.level ∷ []) (events ++ es)) (sym lines)
          (one_more one.bit h.run one.is_bit));
      stands = one.stands;
    }
