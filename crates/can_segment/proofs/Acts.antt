-- Each node's bit is an act of the trace.
use Rattle.std.proofs.Common.{◌≡◌, inl, inr, ℕ, ◌<◌, ◌≤◌, nat_le, cond, Bool, true, false, Option, Some, None, List, []}
use Rattle.std.proofs.Common.{◌∷◌, ◌++◌, length, refl, sym, ap, subst, arith, ◌∙◌}
use Rattle.std.proofs.lemmas.Bool.{cases_lt}
use Rattle.std.proofs.lemmas.Bool.Decides.{leb_tells}
use Rattle.can_node.specs.Node.{driven_by}
use Rattle.can_station.specs.declared.due_frame.DueFrame.{DueFrame}
use Rattle.can_station.specs.Queues.{due_at}
use Rattle.can_station.specs.declared.member.Member.{Member}
use Rattle.can_segment.specs.Traces.{Act, Bit, act_of, past_of, sending_of, completed_of}
use Rattle.can_station.specs.Lines.{start_kinds, outcome_kinds, reaped_kinds}
use Rattle.can_segment.specs.Tells.{starts_of, rest_of}
use Rattle.can_segment.specs.Runs.{IsAct, IsTalking, IsControlling, drives}
use Rattle.can_station.specs.Members.{drives_at, StartsTalking, Samples, StartsRequest, SamplesAndSettles}
use Rattle.can_station.specs.Actions.{no_action, begun_by}
use Rattle.can_segment.specs.Kept.{StandsBehind}
use Rattle.can_segment.proofs.Actions.{Done, stays_off}
use Rattle.can_segment.proofs.Talks.{talked}
use Rattle.can_segment.proofs.Controls.{controlled}

-- what a node did at a bit is this act, and is reported as such
pub record Acted (Rules : Act → Type 0) (on k : ℕ) (trace : List Bit) (level : Bool) (mid after : Member)
    (act : Option Act) : Type 0 where
  pub starts : starts_of act ≡ start_kinds (begun_by after.action)
  pub deferred : rest_of (sending_of k trace) act ≡ outcome_kinds after.action.sent after.action.outcome
      ++ reaped_kinds after.action.reaped
  pub drives_is : drives act ≡ drives_at (length trace) mid
  pub stands : (bit : Bit) → act_of k bit ≡ act → StandsBehind on k (trace ++ bit ∷ []) after
  pub before : length trace < on → act ≡ None
  pub from_there_on : on ≤ length trace → (a : Act) × (act ≡ Some a) × IsAct (past_of on k trace) level a × Rules a

is_on_now : (on bit : ℕ) → on ≤ bit → nat_le on bit ≡ true
is_on_now on bit h = elim (leb_tells on bit) [ inl is ↦ is.0 | inr isnt ↦ absurd (omega (arith, isnt.1, h)) ]

is_off_now : (on bit : ℕ) → bit < on → nat_le on bit ≡ false
is_off_now on bit h = elim (leb_tells on bit) [ inl is ↦ absurd (omega (arith, is.1, h)) | inr isnt ↦ isnt.0 ]

-- a node that is not on
pub acted_off : (Rules : Act → Type 0) (on k : ℕ) (trace : List Bit) (level : Bool) (old mid after : Member) →
    StandsBehind on k trace old → length trace < on → mid ≡ old → after ≡ old →
    Acted Rules on k trace level mid after None
acted_off Rules on k trace level old mid after h early same_mid same_after =
    let uneventful : after.action ≡ no_action = ap (λ m. m.action) same_after ∙ h.uneventful (omega (arith, early)) in
    record {
      starts = ap (λ d. start_kinds (begun_by d)) (sym uneventful);
      deferred = ap (λ d. outcome_kinds d.sent d.outcome ++ reaped_kinds d.reaped) (sym uneventful);
      drives_is = sym (ap (λ b. cond b (driven_by mid.station.node) true)
          (is_off_now mid.on (length trace) (omega (arith, early, h.on_is, ap (λ m. m.on) same_mid))));
      stands = λ bit is. subst (StandsBehind on k (trace ++ bit ∷ [])) (sym same_after)
          (stays_off on k trace bit old h early is);
      before = λ is. refl;
      from_there_on = λ late. absurd (omega (arith, early, late));
    }

-- one that is on
acted_on : (Rules : Act → Type 0) (on k : ℕ) (trace : List Bit) (level : Bool) (mid after : Member) →
    on ≤ length trace → mid.on ≡ on → (d : Done on k trace level mid after) →
    let act : Act = record {
      begun = begun_by after.action;
      driven = driven_by mid.station.node;
      sampled = level;
      event = d.event;
      outcome = after.action.outcome;
      reaped = after.action.reaped;
    } in
    IsAct (past_of on k trace) level act → Rules act → Acted Rules on k trace level mid after (Some act)
acted_on Rules on k trace level mid after late on_is d is_act rules = record {
  starts = refl;
  deferred = ap (λ ts. ts ++ reaped_kinds after.action.reaped) d.reported;
  drives_is = sym (ap (λ b. cond b (driven_by mid.station.node) true)
      (is_on_now mid.on (length trace) (omega (arith, late, on_is))));
  stands = d.stands;
  before = λ early. absurd (omega (arith, early, late));
  from_there_on = λ now. (_, refl, is_act, rules);
}

-- a talker's rules
abbrev pub Talks : List Bit → List DueFrame → ℕ → ℕ → Act → Type 0
Talks trace queue on k act =
    IsTalking (due_at queue (completed_of k trace) (length trace)) (past_of on k trace) act

pub talker_acts : (on k : ℕ) (trace : List Bit) (queue : List DueFrame) (level : Bool) (old mid after : Member) →
    StandsBehind on k trace old → StartsTalking (length trace) old mid queue →
    Samples (length trace) level mid after → (act : Option Act)
    × Acted (Talks trace queue on k) on k trace level mid after act
talker_acts on k trace queue level old mid after h starts samples = elim (cases_lt (length trace) on) [
  | inl early ↦
      let same_mid = starts.off (omega (arith, early, h.on_is)) in
      let same_after = samples.off (omega (arith, early, h.on_is, starts.on_is)) in (
        None,
        acted_off (Talks trace queue on k) on k trace level old mid after h early same_mid
            (same_after ∙ same_mid),
      )
  | inr late ↦
      let t = talked on k trace queue level old mid after h (omega (arith, late)) starts samples in
      let d = t.made in (
        Some _,
        acted_on (Talks trace queue on k) on k trace level mid after (omega (arith, late)) (starts.on_is ∙ h.on_is) d
            (record { history = d.history; samples = refl; begins = t.begins })
            (record {
              wants = t.wants;
              is_wanting = t.is_wanting;
              begins = t.rule;
              no_label = t.no_label;
              no_reaping = samples.reaps_none (omega (arith, late, h.on_is, starts.on_is));
            }),
      )
]

-- a controller's rules
abbrev pub Controls : List Bit → ℕ → Act → Type 0
Controls trace k act = IsControlling (sending_of k trace) act

pub controller_acts : (on k : ℕ) (trace : List Bit) (level : Bool) (old mid after : Member) →
    StandsBehind on k trace old → StartsRequest (length trace) old mid →
    SamplesAndSettles (length trace) level mid after → (act : Option Act)
    × Acted (Controls trace k) on k trace level mid after act
controller_acts on k trace level old mid after h starts samples = elim (cases_lt (length trace) on) [
  | inl early ↦
      let same_mid = starts.off (omega (arith, early, h.on_is)) in
      let same_after = samples.off (omega (arith, early, h.on_is, starts.on_is)) in
      (None, acted_off (Controls trace k) on k trace level old mid after h early same_mid (same_after ∙ same_mid))
  | inr late ↦
      let t = controlled on k trace level old mid after h (omega (arith, late)) starts samples in
      let d = t.made in (
        Some _,
        acted_on (Controls trace k) on k trace level mid after (omega (arith, late)) (starts.on_is ∙ h.on_is) d
            (record { history = d.history; samples = refl; begins = t.begins })
            (record {
              labelled = t.labelled;
              reaps = λ label is. let r = t.reaps label is in
                  record {
                    sent = r.sent;
                    sends = sym d.now_is ∙ sym (t.names label is) ∙ r.sends;
                    is_its_label =
                        r.label_is;
                    fails = r.fails;
                  };
            }),
      )
]
