-- What the lines tell of attempts.
use Rattle.std.proofs.Common.{◌≡◌, inl, inr, ◌⊎◌, ℕ, zero, suc, ◌+◌, ◌-◌, ◌<◌, ◌≤◌, Bool, true, false, cond, Option}
use Rattle.std.proofs.Common.{Some, None, List, [], ◌∷◌, ◌++◌, take, slice_get, refl, sym, ap, subst, arith, ◌∙◌}
use Rattle.std.specs.Prelude.{option_and_then}
use Rattle.std.specs.List.{Contains}
use Rattle.std.proofs.lemmas.Bool.{cases_lt}
use Rattle.std.proofs.lemmas.List.Sums.{fold-append}
use Rattle.can_frame.specs.Frames.{FrameValue}
use Rattle.can_confinement.specs.declared.confinement.ErrorState.{ErrorState}
use Rattle.can_node.specs.declared.outcome.Outcome.{Outcome}
use Rattle.can_node.specs.declared.outcome.Outcome.TheVariants.{Nothing, Took, Completed, Lost, Errored, WentOff}
use Rattle.can_node.specs.declared.outcome.Outcome.TheVariants.{CameBack}
use Rattle.can_node.specs.Histories.{Past, no_past, noted}
use Rattle.can_node.specs.Splits.{IsAttempt}
use Rattle.can_node.specs.Attempts.{first_bit, IsAttemptFrom}
use Rattle.can_node.proofs.Attempts.{attempts_stand_alone, open_reports_nothing, begun_attempts}
use Rattle.can_node.proofs.Outcomes.{IsEnd, attempt_end}
use Rattle.can_node.proofs.Outcomes.IsEnd.{is_completed, is_lost, is_error, is_off}
use Rattle.can_node.proofs.Sofs.{starts_are_sofs}
use Rattle.can_station.specs.declared.event.Event.{Event}
use Rattle.can_station.specs.declared.plan.SegmentPlan.{SegmentPlan}
use Rattle.can_station.specs.declared.transmission.Transmission.{Transmission}
use Rattle.can_segment.specs.Attempts.{act_at, begun_at, sending_at, outcome_at, IsReported, AttemptsAreReported}
use Rattle.can_segment.specs.Attempts.{EndsAreOfAttempts}
use Rattle.can_segment.specs.Traces.{Act, Bit, act_of, past_of, sending_of, sending_now, sending_behind}
use Rattle.can_station.specs.Outcomes.{sending_after, ends_sending}
use Rattle.can_segment.specs.Runs.{Run, firsts}
use Rattle.can_segment.proofs.OneLine.{same_found, first_from}
use Rattle.can_segment.proofs.ActsNoted.{does_at, prefix_grows, began_at, reported_at}
use Rattle.can_segment.proofs.Pasts.{has_history}

-- what a node sends behind one bit more
take_next : (trace : List Bit) (k : ℕ) (bit : Bit) → slice_get trace k ≡ Some bit →
    take (suc k) trace ≡ take k trace ++ bit ∷ []
take_next [] k bit e = absurd (cc e)
take_next (x ∷ trace) zero bit e = ap (λ b. b ∷ []) (same_found x bit e)
take_next (x ∷ trace) (suc k) bit e = ap (λ t. x ∷ t) (take_next trace k bit e)

take_past : (trace : List Bit) (k : ℕ) → slice_get trace k ≡ None → take (suc k) trace ≡ take k trace
take_past [] zero e = refl
take_past [] (suc k) e = refl
take_past (x ∷ trace) zero e = absurd (cc e)
take_past (x ∷ trace) (suc k) e = ap (λ t. x ∷ t) (take_past trace k e)

sending_next : (node : ℕ) (trace : List Bit) (k : ℕ) →
    sending_of node (take (suc k) trace) ≡ sending_behind (sending_of node (take k trace)) (act_at node trace k)
sending_next node trace k = by (slice_get trace k) refl
  where
    by : (found : Option Bit) → slice_get trace k ≡ found →
        sending_of node (take (suc k) trace) ≡ sending_behind (sending_of node (take k trace)) (act_at node trace k)
    by None e = ap (sending_of node) (take_past trace k e)
        ∙ sym (ap (λ f. sending_behind (sending_of node (take k trace)) (option_and_then (act_of node) f)) e)
    by (Some bit) e =
        ap (sending_of node) (take_next trace k bit e)
        ∙ fold-append (λ before b. sending_behind before (act_of node b)) None (take k trace) (bit ∷ [])
        ∙ sym (ap (λ f. sending_behind (sending_of node (take k trace)) (option_and_then (act_of node) f)) e)

-- an outcome that ends a transmission is reported
end_noted : (bit : ℕ) (outcome : Outcome) → ends_sending outcome ≡ true → Contains (noted bit outcome) (bit, outcome)
end_noted bit Nothing e = absurd (cc e)
end_noted bit (Took start frame) e = absurd (cc e)
end_noted bit Completed e = (0, omega arith, refl)
end_noted bit Lost e = (0, omega arith, refl)
end_noted bit (Errored kind) e = (0, omega arith, refl)
end_noted bit WentOff e = (0, omega arith, refl)
end_noted bit CameBack e = absurd (cc e)

-- and the end of an attempt ends one
pub ends_it : {outcome : Outcome} → IsEnd outcome → ends_sending outcome ≡ true
ends_it is_completed = refl
ends_it is_lost = refl
ends_it (is_error kind) = refl
ends_it is_off = refl

-- the act at a bit, or none
act_or_none : (found : Option Act) → (found ≡ None) ⊎ ((act : Act) × (found ≡ Some act))
act_or_none None = inl refl
act_or_none (Some act) = inr (act, refl)

pub begun_by : (node : ℕ) (trace : List Bit) (b : ℕ) (act : Act) → act_at node trace b ≡ Some act →
    begun_at node trace b ≡ act.begun
begun_by node trace b act is = ap (option_and_then (λ (a : Act). a.begun)) is

pub outcome_by : (node : ℕ) (trace : List Bit) (b : ℕ) (act : Act) → act_at node trace b ≡ Some act →
    outcome_at node trace b ≡ act.outcome
outcome_by node trace b act is = ap outcome_in is
  where
    outcome_in : Option Act → Outcome
    outcome_in None = Nothing
    outcome_in (Some act) = act.outcome

-- the act at a bit at which something is begun, or reported
pub act_begins : (node : ℕ) (trace : List Bit) (b : ℕ) (sent : Transmission) → begun_at node trace b ≡ Some sent →
    (act : Act) × (act_at node trace b ≡ Some act) × (act.begun ≡ Some sent)
act_begins node trace b sent e = elim (act_or_none (act_at node trace b)) [
  | inl none ↦ absurd (let nothing = ap (option_and_then (λ (a : Act). a.begun)) none in cc (nothing, e))
  | inr some ↦ (some.0, some.1, sym (begun_by node trace b some.0 some.1) ∙ e)
]

pub act_ends : (node : ℕ) (trace : List Bit) (b : ℕ) → ends_sending (outcome_at node trace b) ≡ true →
    (act : Act) × (act_at node trace b ≡ Some act)
act_ends node trace b e = elim (act_or_none (act_at node trace b)) [
  | inl none ↦ absurd (let nothing : outcome_at node trace b ≡ Nothing = ap outcome_in none in let ends =
      ap ends_sending nothing in cc (ends, e))
  | inr some ↦ some
]
  where
    outcome_in : Option Act → Outcome
    outcome_in None = Nothing
    outcome_in (Some act) = act.outcome

-- From a bit on a node sends what it began there: up to another bit it begins nothing else, and no transmission ends
-- before.
pub record SendsFrom (node : ℕ) (trace : List Bit) (first last : ℕ) (sent : Transmission) : Type 0 where
  pub in_order : first ≤ last
  pub begins : begun_at node trace first ≡ Some sent
  pub none_begun : (bit : ℕ) (other : Transmission) → first < bit → bit ≤ last → begun_at node trace bit ≡ Some other →
      ⊥
  pub none_ended : (bit : ℕ) → first ≤ bit → bit < last → ends_sending (outcome_at node trace bit) ≡ true → ⊥

after_more : (sending : Option Transmission) (outcome : Outcome) (b : Bool) → ends_sending outcome ≡ b →
    (b ≡ true → ⊥) →
    sending_after sending outcome ≡ sending
after_more sending outcome true e not = absurd (not refl)
after_more sending outcome false e not = ap (λ c. cond c None sending) e

behind_more : (node : ℕ) (trace : List Bit) (k : ℕ) → (ends_sending (outcome_at node trace k) ≡ true → ⊥) →
    sending_behind (sending_of node (take k trace)) (act_at node trace k) ≡ sending_at node trace k
behind_more node trace k not = elim (act_or_none (act_at node trace k)) [
  | inl none ↦ ap (sending_behind (sending_of node (take k trace))) none
      ∙ sym (ap (λ f. sending_now (sending_of node (take k trace)) (option_and_then (λ (a : Act). a.begun) f)) none)
  | inr some ↦ (let outcome = outcome_by node trace k some.0 some.1 in
      ap (sending_behind (sending_of node (take k trace))) some.1
      ∙ after_more (sending_now (sending_of node (take k trace)) some.0.begun) some.0.outcome
      (ends_sending some.0.outcome) refl (λ ends. not (ap ends_sending outcome ∙ ends))
      ∙ sym (ap (λ f. sending_now (sending_of node (take k trace)) (option_and_then (λ (a : Act). a.begun) f)) some.1))
]

now_none : (before begun : Option Transmission) (sent : Transmission) → before ≡ Some sent →
    ((other : Transmission) → begun ≡ Some other → ⊥) →
    sending_now before begun ≡ Some sent
now_none before None sent e none = e
now_none before (Some other) sent e none = absurd (none other refl)

-- so it still sends it at that other bit
sends_still : (node : ℕ) (trace : List Bit) (first k : ℕ) (sent : Transmission) →
    SendsFrom node trace first (first + k) sent →
    sending_at node trace (first + k) ≡ Some sent
sends_still node trace first zero sent s =
    ap (λ n. sending_at node trace n) (omega arith) ∙ ap (sending_now (sending_of node (take first trace))) s.begins
sends_still node trace first (suc k) sent s =
    let before = sends_still node trace first k sent (record {
      in_order = omega arith;
      begins = s.begins;
      none_begun = λ bit other from to. s.none_begun bit other from (omega (arith, to));
      none_ended = λ bit from to. s.none_ended bit from (omega (arith, to));
    }) in
    let at : first + suc k ≡ suc (first + k) = omega arith in
    let carried : sending_of node (take (suc (first + k)) trace) ≡ Some sent =
    sending_next node trace (first + k)
    ∙ behind_more node trace (first + k) (s.none_ended (first + k) (omega arith) (omega arith)) ∙ before in
    ap (λ n. sending_at node trace n) at
    ∙ now_none (sending_of node (take (suc (first + k)) trace)) (begun_at node trace (suc (first + k))) sent carried
    (λ other e. s.none_begun (suc (first + k)) other (omega arith) (omega arith) e)

-- the other way round: what a node sends at a bit it began at some bit
began : (before begun : Option Transmission) (sent : Transmission) → sending_now before begun ≡ Some sent →
    (begun ≡ Some sent) ⊎ ((begun ≡ None) × (before ≡ Some sent))
began before None sent e = inr (refl, e)
began before (Some other) sent e = inl e

after_sends : (sending : Option Transmission) (outcome : Outcome) (b : Bool) (sent : Transmission) →
    ends_sending outcome ≡ b →
    sending_after sending outcome ≡ Some sent → (b ≡ true → ⊥) × (sending ≡ Some sent)
after_sends sending outcome true sent is e =
    absurd (let none : sending_after sending outcome ≡ None = ap (λ c. cond c None sending) is in cc (none, e))
after_sends sending outcome false sent is e = ((λ f. absurd (cc f)), sym (ap (λ c. cond c None sending) is) ∙ e)

record SendsBehind (node : ℕ) (trace : List Bit) (k : ℕ) (sent : Transmission) : Type 0 where
  before : sending_at node trace k ≡ Some sent
  goes_on : ends_sending (outcome_at node trace k) ≡ true → ⊥

sends_behind : (node : ℕ) (trace : List Bit) (k : ℕ) (sent : Transmission) →
    sending_of node (take (suc k) trace) ≡ Some sent →
    SendsBehind node trace k sent
sends_behind node trace k sent e = elim (act_or_none (act_at node trace k)) [
  | inl none ↦ record {
    before = ap (λ f. sending_now (sending_of node (take k trace)) (option_and_then (λ (a : Act). a.begun) f)) none
        ∙ sym (ap (sending_behind (sending_of node (take k trace))) none) ∙ sym (sending_next node trace k) ∙ e;
    goes_on = λ ends. let act = act_ends node trace k ends in absurd (cc (none, act.1));
  }
  | inr some ↦ (let acted = sym (ap (sending_behind (sending_of node (take k trace))) some.1)
      ∙ sym (sending_next node trace k) ∙ e in
      let h = after_sends (sending_now (sending_of node (take k trace)) some.0.begun) some.0.outcome
      (ends_sending some.0.outcome) sent refl acted in
      record {
        before = ap (λ f. sending_now (sending_of node (take k trace)) (option_and_then (λ (a : Act). a.begun) f))
            some.1 ∙ h.1;
        goes_on = λ ends. h.0 (sym (ap ends_sending (outcome_by node trace k some.0 some.1)) ∙ ends);
      })
]

from_here : (node : ℕ) (trace : List Bit) (k : ℕ) (sent : Transmission) → begun_at node trace k ≡ Some sent →
    SendsFrom node trace k k sent
from_here node trace k sent now = record {
  in_order = omega arith;
  begins = now;
  none_begun = λ bit other from to is. omega (arith, from, to);
  none_ended = λ bit from to is. omega (arith, from, to);
}

sends_since : (node : ℕ) (trace : List Bit) (k : ℕ) (sent : Transmission) → sending_at node trace k ≡ Some sent →
    (first : ℕ) × SendsFrom node trace first k sent
sends_since node trace zero sent e = elim (began None (begun_at node trace 0) sent e) [
  | inl now ↦ (0, from_here node trace 0 sent now)
  | inr earlier ↦ absurd (cc earlier.1)
]
sends_since node trace (suc k) sent e =
    elim (began (sending_of node (take (suc k) trace)) (begun_at node trace (suc k)) sent e) [
      | inl now ↦ (suc k, from_here node trace (suc k) sent now)
      | inr earlier ↦ (let b = sends_behind node trace k sent earlier.1 in
          let s = sends_since node trace k sent b.before in (
            s.0,
            record {
              in_order = omega (arith, s.1.in_order);
              begins = s.1.begins;
              none_begun = λ bit other from to is. elim (cases_lt k bit) [
                | inl last ↦ (let now : bit ≡ suc k = omega (arith, last, to) in
                    let here = ap (begun_at node trace) now in cc (here, is, earlier.0))
                | inr within ↦ s.1.none_begun bit other from within is
              ];
              none_ended = λ bit from to ends. elim (cases_lt bit k) [
                | inl within ↦ s.1.none_ended bit from within ends
                | inr last ↦ (let now : bit ≡ k =
                    omega (arith, last, to) in
                    b.goes_on (sym (ap (λ n. ends_sending (outcome_at node trace n)) now) ∙ ends))
              ];
            },
          ))
    ]

-- an attempt of a node's history, as the acts show it
record Shown (node : ℕ) (trace : List Bit) (start : ℕ) (frame : FrameValue) (first end : ℕ)
    (outcome : Outcome) : Type 0 where
  sent : Transmission
  start_is : sent.start ≡ start
  frame_is : sent.frame ≡ frame
  sends : SendsFrom node trace first end sent
  outcome_is : outcome_at node trace end ≡ outcome

shown : {plan : SegmentPlan} {trace : List Bit} {levels : List Bool} {events : List Event} (node on start end : ℕ)
    (frame : FrameValue) (state : ErrorState) (outcome : Outcome) →
    Run plan trace levels events → slice_get (firsts plan) node ≡ Some on →
    (attempt : IsAttempt (past_of on node trace) start frame state end outcome) →
    Shown node trace start frame (first_bit attempt) end outcome
shown {trace = trace} node on start end frame state outcome run on_is attempt =
    let past = past_of on node trace in
    let alone = attempts_stand_alone past start end frame state outcome attempt in
    let b = began_at node on (first_bit attempt) frame run on_is alone.begun in
    let d = does_at node on (first_bit attempt) b.act run on_is b.act_is in
    let t = reported_at node on end outcome run on_is alone.reported in
    let before = past_of on node (take (first_bit attempt) trace) in
    let g = prefix_grows on node trace (first_bit attempt) in
    record {
      sent = b.sent;
      start_is = starts_are_sofs past before g.pairs start b.sent.start end frame b.sent.frame state outcome attempt
          (first_from node (no_past on) trace ∙ sym (first_from node (no_past on) (take (first_bit attempt) trace)))
          g.pairs_are (sym d.clock) (d.begins b.sent b.begun_is).sends;
      frame_is = b.frame_is;
      sends = record {
        in_order = alone.in_order;
        begins = begun_by node trace (first_bit attempt) b.act b.act_is ∙ b.begun_is;
        none_begun = λ bit other from to is.
            let a = act_begins node trace bit other is in
            alone.none_begun bit other.frame from to ((does_at node on bit a.0 run on_is a.1).begun other a.2);
        none_ended = λ bit from to ends.
            let a = act_ends node trace bit ends in
            let reported = end_noted bit a.0.outcome (sym (ap ends_sending (outcome_by node trace bit a.0 a.1)) ∙ ends) in
            alone.none_reported bit a.0.outcome from to
            ((does_at node on bit a.0 run on_is a.1).reported (bit, a.0.outcome) reported);
      };
      outcome_is = outcome_by node trace end t.act t.act_is ∙ t.outcome_is;
    }

-- the lines tell of each attempt
is_reported : {plan : SegmentPlan} {trace : List Bit} {levels : List Bool} {events : List Event} (node on start end : ℕ)
    (frame : FrameValue) (state : ErrorState) (outcome : Outcome) →
    Run plan trace levels events → slice_get (firsts plan) node ≡ Some on →
    (attempt : IsAttempt (past_of on node trace) start frame state end outcome) →
    IsReported node trace start frame (first_bit attempt) end outcome
is_reported {trace = trace} node on start end frame state outcome run on_is attempt =
    let s = shown node on start end frame state outcome run on_is attempt in
    let at : first_bit attempt + (end - first_bit attempt) ≡ end = omega (arith, s.sends.in_order) in
    record {
      sent = s.sent;
      begins = s.sends.begins;
      start_is = s.start_is;
      frame_is = s.frame_is;
      ends = ap (λ n. sending_at node trace n) (sym at)
          ∙ sends_still node trace (first_bit attempt) (end - first_bit attempt) s.sent
          (subst (λ n. SendsFrom node trace (first_bit attempt) n s.sent) (sym at) s.sends);
      outcome_is = s.outcome_is;
    }

pub attempts_are_reported : {plan : SegmentPlan} {trace : List Bit} {levels : List Bool} {events : List Event} →
    Run plan trace levels events → AttemptsAreReported plan trace
attempts_are_reported {trace = trace} run node past start end frame state outcome p attempt =
    let P : Past → Type 0 = λ past. (attempt : IsAttempt past start frame state end outcome) →
    IsReported node trace start frame (first_bit attempt) end outcome in
    subst P (sym p.past_is) (λ attempt. is_reported node p.on start end frame state outcome run p.on_is attempt) attempt

-- a transmission that ends is an attempt that ends there
ends_as : {plan : SegmentPlan} {trace : List Bit} {levels : List Bool} {events : List Event} (node on first end : ℕ)
    (sent : Transmission) → Run plan trace levels events → slice_get (firsts plan) node ≡ Some on →
    SendsFrom node trace first end sent → ends_sending (outcome_at node trace end) ≡ true →
    (from : IsAttemptFrom (past_of on node trace) first sent.frame) →
    (state : ErrorState) × IsAttempt (past_of on node trace) sent.start sent.frame state end
    (outcome_at node trace end)
ends_as {trace = trace} node on first end sent run on_is sends ends from =
    let past = past_of on node trace in
    let s = shown node on from.start from.end sent.frame from.state from.outcome run on_is from.attempt in
    let begins : begun_at node trace first ≡ Some s.sent = ap (begun_at node trace) (sym from.first_is)
    ∙ s.sends.begins in
    let same : s.sent ≡ sent = same_found s.sent sent (sym begins ∙ sends.begins) in
    let start : from.start ≡ sent.start = sym s.start_is ∙ ap (λ (x : Transmission). x.start) same in
    let over : ends_sending (outcome_at node trace from.end) ≡ true =
    ap ends_sending s.outcome_is
    ∙ ends_it (attempt_end past from.start from.end sent.frame from.state from.outcome from.attempt) in
    let order : first ≤ from.end = omega (arith, s.sends.in_order, from.first_is) in
    let end_is : from.end ≡ end = elim (cases_lt from.end end) [
      | inl sooner ↦ absurd (sends.none_ended from.end order sooner over)
      | inr no_sooner ↦ elim (cases_lt end from.end) [
        | inl later ↦ absurd (s.sends.none_ended end (omega (arith, sends.in_order, from.first_is)) later ends)
        | inr no_later ↦ omega (arith, no_sooner, no_later)
      ]
    ] in
    let outcome : from.outcome ≡ outcome_at node trace end = sym s.outcome_is ∙ ap (outcome_at node trace) end_is in (
      from.state,
      subst (λ o. IsAttempt past sent.start sent.frame from.state end o) outcome
          (subst (λ n. IsAttempt past sent.start sent.frame from.state n from.outcome) end_is
          (subst (λ n. IsAttempt past n sent.frame from.state from.end from.outcome) start from.attempt)),
    )

end_of : {plan : SegmentPlan} {trace : List Bit} {levels : List Bool} {events : List Event} (node on end : ℕ)
    (sent : Transmission) → Run plan trace levels events → slice_get (firsts plan) node ≡ Some on →
    sending_at node trace end ≡ Some sent → ends_sending (outcome_at node trace end) ≡ true →
    (state : ErrorState) × IsAttempt (past_of on node trace) sent.start sent.frame state end (outcome_at node trace end)
end_of {trace = trace} node on end sent run on_is sending ends =
    let past = past_of on node trace in
    let since = sends_since node trace end sent sending in
    let b = act_begins node trace since.0 sent since.1.begins in
    let noted = (does_at node on since.0 b.0 run on_is b.1).begun sent b.2 in
    elim (begun_attempts past since.0 sent.frame (has_history node on run on_is) noted) [
      | inl from ↦ ends_as node on since.0 end sent run on_is since.1 ends from
      | inr goes_on ↦ absurd (
          let a = act_ends node trace end ends in
          let reported = end_noted end a.0.outcome (sym (ap ends_sending (outcome_by node trace end a.0 a.1)) ∙ ends) in
          open_reports_nothing past since.0 sent.frame goes_on end a.0.outcome since.1.in_order
          ((does_at node on end a.0 run on_is a.1).reported (end, a.0.outcome) reported))
    ]

pub ends_are_of_attempts : {plan : SegmentPlan} {trace : List Bit} {levels : List Bool} {events : List Event} →
    Run plan trace levels events → EndsAreOfAttempts plan trace
ends_are_of_attempts {trace = trace} run node end past sent p sending ends =
    let P : Past → Type 0 =
    λ past. (state : ErrorState) × IsAttempt past sent.start sent.frame state end (outcome_at node trace end) in
    subst P (sym p.past_is) (end_of node p.on end sent run p.on_is sending ends)
