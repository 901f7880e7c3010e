-- What one node does at a bit makes an act of it.
use Rattle.std.proofs.Common.{◌≡◌, ℕ, ◌+◌, ◌<◌, ◌≤◌, Bool, true, inl, inr, Option, Some, None, List, [], ◌∷◌, ◌++◌}
use Rattle.std.proofs.Common.{length, cond, sym, ap, subst, arith, ◌∙◌, length-append}
use Rattle.std.proofs.lemmas.List.Sums.{fold-append}
use Rattle.can_confinement.specs.declared.confinement.ErrorEvent.{ErrorEvent}
use Rattle.can_node.specs.Histories.{no_past, IsHistory}
use Rattle.can_node.specs.Node.{StandsAfter, bit_of, driven_by}
use Rattle.can_station.specs.declared.event.Label.{Label}
use Rattle.can_station.specs.declared.transmission.Transmission.{Transmission}
use Rattle.can_station.specs.declared.action.Action.{Action}
use Rattle.can_station.specs.declared.member.Member.{Member}
use Rattle.can_segment.specs.Traces.{Act, Bit, act_of, with_start, with_act, past_of, sending_now, sending_behind}
use Rattle.can_segment.specs.Traces.{sending_of, completed_in, completed_of}
use Rattle.can_station.specs.Outcomes.{sending_after}
use Rattle.can_station.specs.Members.{SamplesOn}
use Rattle.can_station.specs.Lines.{outcome_kinds}
use Rattle.can_station.specs.Actions.{begun_by, Names}
use Rattle.can_segment.specs.Kept.{StandsBehind}

-- the lists of a node behind one more bit
pub past_next : (on k : ℕ) (trace : List Bit) (bit : Bit) → past_of on k (trace ++ bit ∷ [])
    ≡ with_act (past_of on k trace) (act_of k bit)
past_next on k trace bit = fold-append (λ past b. with_act past (act_of k b)) (no_past on) trace (bit ∷ [])

pub sending_next : (k : ℕ) (trace : List Bit) (bit : Bit) → sending_of k (trace ++ bit ∷ [])
    ≡ sending_behind (sending_of k trace) (act_of k bit)
sending_next k trace bit = fold-append (λ before b. sending_behind before (act_of k b)) None trace (bit ∷ [])

pub completed_next : (k : ℕ) (trace : List Bit) (bit : Bit) →
    completed_of k (trace ++ bit ∷ []) ≡ completed_of k trace + completed_in (act_of k bit)
completed_next k trace bit = fold-append (λ n b. n + completed_in (act_of k b)) 0 trace (bit ∷ [])

-- a node that is not on stands behind one more bit as it stood
pub stays_off : (on k : ℕ) (trace : List Bit) (bit : Bit) (member : Member) → StandsBehind on k trace member →
    length trace < on → act_of k bit ≡ None → StandsBehind on k (trace ++ bit ∷ []) member
stays_off on k trace bit member h early none_there = record {
  on_is = h.on_is;
  stands = subst (StandsAfter member.station.node)
      (sym (past_next on k trace bit ∙ ap (with_act (past_of on k trace)) none_there)) h.stands;
  sending_is = h.sending_is ∙ sym (sending_next k trace bit ∙ ap (sending_behind (sending_of k trace)) none_there);
  completed_is = omega (arith, h.completed_is, completed_next k trace bit, ap completed_in none_there);
  bit_is = omega (arith, h.bit_is, early, length-append trace (bit ∷ []));
  uneventful = λ still. h.uneventful (omega (arith, early));
}

-- what a node sent is named where a start or a reaping is reported
pub named_start : (action : Action) (sent : Option Transmission) → Names action sent → action.began ≡ true → action.sent
    ≡ sent
named_start action sent names began = elim names [
  | inl uneventful ↦ absurd (cc (began, uneventful.no_start))
  | inr named
      ↦ named
]

pub named_reaping : (action : Action) (sent : Option Transmission) (label : Label) → Names action sent →
    action.reaped ≡ Some label → action.sent ≡ sent
named_reaping action sent label names reaped =
    elim names [ inl uneventful ↦ absurd (cc (reaped, uneventful.no_reaping)) | inr named ↦ named ]

-- and nothing is reported of an outcome where it is not
reported_named : (action : Action) (sent : Option Transmission) → Names action sent →
    outcome_kinds sent action.outcome ≡ outcome_kinds action.sent action.outcome
reported_named action sent names = elim names [
  | inl uneventful ↦ ap (outcome_kinds sent) uneventful.no_end ∙ sym (ap (outcome_kinds action.sent) uneventful.no_end)
  | inr named ↦ ap (λ s. outcome_kinds s action.outcome) (sym named)
]

-- what a node makes of a bit at which it is on: the start, and the sample
pub record Done (on k : ℕ) (trace : List Bit) (level : Bool) (mid after : Member) : Type 0 where
  pub event : Option ErrorEvent
  pub now_is : mid.station.sending ≡ sending_now (sending_of k trace) (begun_by after.action)
  pub reported : outcome_kinds (sending_now (sending_of k trace) (begun_by after.action)) after.action.outcome
      ≡ outcome_kinds after.action.sent after.action.outcome
  pub history : IsHistory (with_act (past_of on k trace)
      (Some (record {
        begun = begun_by after.action;
        driven = driven_by mid.station.node;
        sampled = level;
        event = event;
        outcome = after.action.outcome;
        reaped = after.action.reaped;
      })))
  pub stands : (bit : Bit) →
      act_of k bit ≡ Some (record {
        begun = begun_by after.action;
        driven = driven_by mid.station.node;
        sampled = level;
        event = event;
        outcome = after.action.outcome;
        reaped = after.action.reaped;
      }) →
      StandsBehind on k (trace ++ bit ∷ []) after

pub done : (on k : ℕ) (trace : List Bit) (level : Bool) (old mid after : Member) (begun : Option Transmission) →
    StandsBehind on k trace old → on ≤ length trace →
    after.on ≡ on → StandsAfter mid.station.node (with_start (past_of on k trace) begun) →
    mid.station.sending ≡ sending_now old.station.sending begun →
    mid.station.completed ≡ old.station.completed → bit_of mid.station.node ≡ bit_of old.station.node →
    begun_by after.action ≡ begun →
    SamplesOn level mid after → Done on k trace level mid after
done on k trace level old mid after begun h late on_is stands sending completed bit_same begun_is s =
    let here = s.stands in
    let past = past_of on k trace in
    let act : Act = record {
      begun = begun_by after.action;
      driven = driven_by mid.station.node;
      sampled = level;
      event = here.event;
      outcome = after.action.outcome;
      reaped = after.action.reaped;
    } in
    let behind : StandsAfter after.station.node (with_act past (Some act)) =
    here.stands (with_start past (begun_by after.action))
    (subst (λ b. StandsAfter mid.station.node (with_start past b)) (sym begun_is) stands) in
    let now : mid.station.sending ≡ sending_now (sending_of k trace) (begun_by after.action) =
    sending ∙ ap (λ x. sending_now x begun) h.sending_is ∙ ap (sending_now (sending_of k trace)) (sym begun_is) in
    record {
      event = here.event;
      now_is = now;
      reported = ap (λ x. outcome_kinds x after.action.outcome) (sym now) ∙ reported_named after.action mid.station.sending
          s.names;
      history = s.history _ behind;
      stands = λ bit is. record {
        on_is = on_is;
        stands = subst (StandsAfter after.station.node) (sym (past_next on k trace bit ∙ ap (with_act past) is)) behind;
        sending_is = s.sending_is ∙ ap (λ x. sending_after x after.action.outcome) now
            ∙ sym (sending_next k trace bit ∙ ap (sending_behind (sending_of k trace)) is);
        completed_is =
            omega (arith, s.completed_is, completed, h.completed_is, completed_next k trace bit, ap completed_in is);
        bit_is = omega (arith, s.bit_is, bit_same, h.bit_is, late, length-append trace (bit ∷ []));
        uneventful = λ early. absurd (omega (arith, early, late, length-append trace (bit ∷ [])));
      };
    }

-- what a action began, by its two parts
pub begun_is : (action : Action) (b : Bool) (sent : Option Transmission) → action.began ≡ b → action.sent ≡ sent →
    begun_by action ≡ cond b sent None
begun_is action b sent eb es = ap (λ c. cond c action.sent None) eb ∙ ap (λ s. cond b s None) es
