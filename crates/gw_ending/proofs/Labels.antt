-- The lines of a run are of its nodes, and those of talkers name no request.
use Rattle.std.proofs.Common.{◌≡◌, ℕ, zero, suc, ◌+◌, ◌<◌, inl, inr, Bool, true, false, cond, Option, Some, None, List}
use Rattle.std.proofs.Common.{[], ◌∷◌, ◌++◌, length, refl, sym, subst, arith}
use Rattle.std.proofs.lemmas.Bool.{cases_lt}
use Rattle.bx_core.specs.Lists.{Each, Has}
use Rattle.bx_core.proofs.Words.{each-append}
use Rattle.can_node.specs.declared.outcome.Outcome.{Outcome}
use Rattle.can_node.specs.declared.outcome.Outcome.TheVariants.{Nothing, Took, Completed, Lost, Errored, WentOff}
use Rattle.can_node.specs.declared.outcome.Outcome.TheVariants.{CameBack}
use Rattle.can_station.specs.declared.event.Event.{Event}
use Rattle.can_station.specs.declared.event.EventKind.{EventKind}
use Rattle.can_station.specs.declared.plan.SegmentPlan.{SegmentPlan}
use Rattle.can_station.specs.declared.transmission.Transmission.{Transmission}
use Rattle.can_segment.specs.Runs.{Run, IsBit}
use Rattle.can_segment.specs.Runs.Run.{no_bit, one_more}
use Rattle.can_station.specs.Lines.{start_kinds, outcome_kinds, reaped_kinds, lines}
use Rattle.can_segment.specs.Tells.{starts_of, rest_of, lines_from, events_at}
use Rattle.can_segment.specs.Traces.{Act, Bit, act_of, sending_now, sending_behind, sending_of}
use Rattle.can_station.specs.Outcomes.{ends_sending}
use Rattle.can_segment.proofs.Actions.{sending_next}
use Rattle.can_station.proofs.Places.{some_there}
use Rattle.can_segment.proofs.NextBits.{act_found}
use Rattle.gw_script.specs.NamedPlaces.{label_of}

-- what is sent is no request
abbrev pub IsUnlabelled : Option Transmission → Type 0
IsUnlabelled sending = (sent : Transmission) → sending ≡ Some sent → sent.label ≡ None

-- a line of one of the nodes, and of a talker only if it names no request
pub record IsFair (plan : SegmentPlan) (event : Event) : Type 0 where
  pub node : event.node < length plan.talkers.items + length plan.controllers.items
  pub talker : event.node < length plan.talkers.items → label_of event.kind ≡ None

start-unlabelled : (begun : Option Transmission) (one : EventKind) → IsUnlabelled begun → Has (start_kinds begun) one →
    label_of one ≡ None
start-unlabelled None one none has = absurd has
start-unlabelled (Some sent) one none (inl is) = subst (λ t. label_of t ≡ None) is (none sent refl)
start-unlabelled (Some sent) one none (inr has) = absurd has

outcome-unlabelled : (sending : Option Transmission) (outcome : Outcome) (one : EventKind) → IsUnlabelled sending →
    Has (outcome_kinds sending outcome) one → label_of one ≡ None
outcome-unlabelled sending Nothing one none has = absurd has
outcome-unlabelled sending (Took start frame) one none (inl is) = subst (λ t. label_of t ≡ None) is refl
outcome-unlabelled sending (Took start frame) one none (inr has) = absurd has
outcome-unlabelled None Completed one none has = absurd has
outcome-unlabelled (Some sent) Completed one none (inl is) = subst (λ t. label_of t ≡ None) is (none sent refl)
outcome-unlabelled (Some sent) Completed one none (inr has) = absurd has
outcome-unlabelled None Lost one none has = absurd has
outcome-unlabelled (Some sent) Lost one none (inl is) = subst (λ t. label_of t ≡ None) is refl
outcome-unlabelled (Some sent) Lost one none (inr has) = absurd has
outcome-unlabelled sending (Errored kind) one none (inl is) = subst (λ t. label_of t ≡ None) is refl
outcome-unlabelled sending (Errored kind) one none (inr has) = absurd has
outcome-unlabelled sending WentOff one none (inl is) = subst (λ t. label_of t ≡ None) is refl
outcome-unlabelled sending WentOff one none (inr has) = absurd has
outcome-unlabelled sending CameBack one none (inl is) = subst (λ t. label_of t ≡ None) is refl
outcome-unlabelled sending CameBack one none (inr has) = absurd has

now-unlabelled : (before begun : Option Transmission) → IsUnlabelled before → IsUnlabelled begun →
    IsUnlabelled (sending_now before begun)
now-unlabelled before None p q = p
now-unlabelled before (Some sent) p q = q

after-unlabelled : (sending : Option Transmission) (b : Bool) → IsUnlabelled sending →
    IsUnlabelled (cond b None sending)
after-unlabelled sending true p = λ sent e. absurd (cc e)
after-unlabelled sending false p = p

has-split : {X : Type 0} (xs ys : List X) (x : X) (P : X → Type 0) → (Has xs x → P x) → (Has ys x → P x) →
    Has (xs ++ ys) x → P x
has-split [] ys x P p q has = q has
has-split (y ∷ xs) ys x P p q (inl is) = p (inl is)
has-split (y ∷ xs) ys x P p q (inr has) = has-split xs ys x P (λ h. p (inr h)) q has

-- what a talker does at a bit
pub record IsQuiet (before : Option Transmission) (act : Option Act) : Type 0 where
  pub starts : (one : EventKind) → Has (starts_of act) one → label_of one ≡ None
  pub rest : (one : EventKind) → Has (rest_of before act) one → label_of one ≡ None
  pub sending : IsUnlabelled (sending_behind before act)

quiet-off : (before : Option Transmission) → IsUnlabelled before → IsQuiet before None
quiet-off before p = record { starts = λ one has. absurd has; rest = λ one has. absurd has; sending = p }

quiet-on : (before : Option Transmission) (act : Act) → IsUnlabelled before → IsUnlabelled act.begun →
    act.reaped ≡ None → IsQuiet before (Some act)
quiet-on before act p q none = record {
  starts = λ one has. start-unlabelled act.begun one q has;
  rest = λ one has. has-split (outcome_kinds (sending_now before act.begun) act.outcome) (reaped_kinds act.reaped) one
      (λ t. label_of t ≡ None)
      (λ h. outcome-unlabelled (sending_now before act.begun) act.outcome one (now-unlabelled before act.begun p q) h)
      (λ h. absurd (subst (λ r. Has (reaped_kinds r) one) none h)) has;
  sending =
      after-unlabelled (sending_now before act.begun) (ends_sending act.outcome) (now-unlabelled before act.begun p q);
}

talker-quiet : (plan : SegmentPlan) (trace : List Bit) (bit : Bit) (k : ℕ) → IsBit plan trace bit →
    k < length plan.talkers.items → IsUnlabelled (sending_of k trace) → IsQuiet (sending_of k trace) (act_of k bit)
talker-quiet plan trace bit k is less p =
    let talker = some_there plan.talkers.items k less in
    let acts = is.talkers k talker.0 talker.1 in
    elim (cases_lt (length trace) talker.0.on) [
      | inl early ↦ subst (IsQuiet (sending_of k trace)) (sym (act_found bit.level bit.acts k None (acts.before early)))
          (quiet-off (sending_of k trace) p)
      | inr late ↦ (let act = acts.from_there_on late in
          subst (IsQuiet (sending_of k trace)) (sym (act_found bit.level bit.acts k (Some act.0) act.1))
          (quiet-on (sending_of k trace) act.0 p act.3.no_label act.3.no_reaping))
    ]

lines-each : (Q : Event → Type 0) (bit node : ℕ) (tells : List EventKind) →
    ((one : EventKind) → Has tells one → Q (record { bit = bit; node = node; kind = one })) → Each Q (lines bit node tells)
lines-each Q bit node [] all = tt
lines-each Q bit node (one ∷ more) all = (all one (inl refl), lines-each Q bit node more (λ t has. all t (inr has)))

lines_from-each : (Q : Event → Type 0) (tells : ℕ → List EventKind) (bit node count : ℕ) →
    ((k : ℕ) (one : EventKind) → k < node + count → Has (tells k) one → Q (record { bit = bit; node = k; kind = one })) →
    Each Q (lines_from tells bit node count)
lines_from-each Q tells bit node zero all = tt
lines_from-each Q tells bit node (suc more) all =
    each-append Q (lines bit node (tells node)) (lines_from tells bit (suc node) more)
    (lines-each Q bit node (tells node) (λ one has. all node one (omega arith) has))
    (lines_from-each Q tells bit (suc node) more (λ k one less has. all k one (omega (arith, less)) has))

bit-fair : (plan : SegmentPlan) (trace : List Bit) (bit : Bit) → IsBit plan trace bit →
    ((k : ℕ) → k < length plan.talkers.items → IsQuiet (sending_of k trace) (act_of k bit)) →
    Each (IsFair plan) (events_at trace bit)
bit-fair plan trace bit is quiet =
    each-append (IsFair plan) (lines_from (λ k. starts_of (act_of k bit)) (length trace) 0 (length bit.acts))
    (lines_from (λ k. rest_of (sending_of k trace) (act_of k bit)) (length trace) 0 (length bit.acts))
    (lines_from-each (IsFair plan) (λ k. starts_of (act_of k bit)) (length trace) 0 (length bit.acts)
    (λ k one less has. record {
      node = omega (arith, less, is.each);
      talker = λ talker. (quiet k talker).starts one has;
    }))
    (lines_from-each (IsFair plan) (λ k. rest_of (sending_of k trace) (act_of k bit)) (length trace) 0 (length bit.acts)
    (λ k one less has. record {
      node = omega (arith, less, is.each);
      talker = λ talker. (quiet k talker).rest one has;
    }))

-- so are all lines of a run
pub record FairRun (plan : SegmentPlan) (trace : List Bit) (events : List Event) : Type 0 where
  pub lines : Each (IsFair plan) events
  pub talkers : (k : ℕ) → k < length plan.talkers.items → IsUnlabelled (sending_of k trace)

fair-step : (plan : SegmentPlan) (trace : List Bit) (events : List Event) (bit : Bit) → IsBit plan trace bit →
    FairRun plan trace events → FairRun plan (trace ++ bit ∷ []) (events ++ events_at trace bit)
fair-step plan trace events bit is f = record {
  lines = each-append (IsFair plan) events (events_at trace bit) f.lines
      (bit-fair plan trace bit is (λ k less. talker-quiet plan trace bit k is less (f.talkers k less)));
  talkers = λ k less. subst IsUnlabelled (sym (sending_next k trace bit))
      (talker-quiet plan trace bit k is less (f.talkers k less)).sending;
}

pub fair_run : (plan : SegmentPlan) {trace : List Bit} {levels : List Bool} {events : List Event} →
    Run plan trace levels events → FairRun plan trace events
fair_run plan no_bit = record { lines = tt; talkers = λ k less sent e. absurd (cc e) }
fair_run plan (one_more {trace} {levels} {events} bit r is) = fair-step plan trace events bit is (fair_run plan r)
