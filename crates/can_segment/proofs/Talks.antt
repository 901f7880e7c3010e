-- A talker's bit is an act by the rules of a talker.
use Rattle.std.proofs.Common.{◌≡◌, ℕ, ◌≤◌, ◌&&◌, Bool, true, false, is_some, option_map, Option, Some, None, List}
use Rattle.std.proofs.Common.{length, refl, sym, ap, subst, arith, ◌∙◌, cond}
use Rattle.can_frame.specs.Frames.{FrameValue}
use Rattle.can_node.specs.Node.{StandsAfter, IsWanting, bit_of}
use Rattle.can_station.specs.declared.transmission.Transmission.{Transmission}
use Rattle.can_station.specs.declared.member.Member.{Member}
use Rattle.can_segment.specs.Traces.{Bit, past_of, completed_of}
use Rattle.can_segment.specs.Runs.{IsBegun}
use Rattle.can_station.specs.declared.due_frame.DueFrame.{DueFrame}
use Rattle.can_station.specs.Queues.{due_at}
use Rattle.can_station.specs.Stations.{IsTalk}
use Rattle.can_station.specs.Members.{StartsTalking, Samples}
use Rattle.can_station.specs.Actions.{begun_by}
use Rattle.can_segment.specs.Kept.{StandsBehind}
use Rattle.can_segment.proofs.Actions.{Done, done, begun_is, named_start}

-- a talker at a bit at which it is on
pub record Talked (on k : ℕ) (trace : List Bit) (next : Option FrameValue) (level : Bool)
    (mid after : Member) : Type 0 where
  pub made : Done on k trace level mid after
  pub begins : (sent : Transmission) → begun_by after.action ≡ Some sent → IsBegun (past_of on k trace) sent
  pub wants : Bool
  pub is_wanting : IsWanting (past_of on k trace) wants
  pub rule : option_map (λ sent. sent.frame) (begun_by after.action) ≡ cond wants next None
  pub no_label : (sent : Transmission) → begun_by after.action ≡ Some sent → sent.label ≡ None

wants_then : (wanting : Bool) (next : Option FrameValue) (frame : FrameValue) → true ≡ wanting && is_some next →
    next ≡ Some frame → Some frame ≡ cond wanting next None
wants_then true next frame e at = sym at
wants_then false next frame e at = absurd (cc e)

no_frame : (found : Option FrameValue) → false ≡ is_some found → None ≡ found
no_frame None e = refl
no_frame (Some frame) e = absurd (cc e)

wants_not : (wanting : Bool) (found : Option FrameValue) → false ≡ wanting && is_some found →
    None ≡ cond wanting found None
wants_not true found e = no_frame found e
wants_not false found e = refl

no_sent : (sent : Transmission) → None ≡ Some sent → ⊥
no_sent sent e = cc e

talked_by : (on k : ℕ) (trace : List Bit) (next : Option FrameValue) (level : Bool) (old mid after : Member)
    (b : Bool) → StandsBehind on k trace old → on ≤ length trace → mid.on ≡ on → after.on ≡ on →
    mid.action.began ≡ b → IsTalk old.station mid.station next b → Samples (length trace) level mid after →
    Talked on k trace next level mid after
talked_by on k trace next level old mid after true h late mid_on after_on began talk samples =
    let past = past_of on k trace in
    let s = samples.samples (omega (arith, mid_on, late)) in
    let t = talk.begins refl in
    let start = t.2 in
    let sent : Transmission = record { start = start.start; frame = t.0; label = None } in
    let begun : begun_by after.action ≡ Some sent = begun_is after.action true (Some sent) (s.began_is ∙ began)
    (named_start after.action mid.station.sending s.names (s.began_is ∙ began) ∙ start.sending_is) in
    let w = talk.wants past h.stands in
    record {
      made = done on k trace level old mid after (Some sent) h late after_on
          (start.stands past h.stands) start.sending_is start.completed_is start.bit_is begun s;
      begins = λ other is.
          let same : sent ≡ other = some_same sent other (sym begun ∙ is) in
          subst (IsBegun past) same
          (record {
            wants = subst (IsWanting past) (wants_true w.0 (is_some next) w.2)
                w.1;
            sends = start.sends past h.stands;
          });
      wants = w.0;
      is_wanting = w.1;
      rule = ap (option_map (λ x. x.frame)) begun ∙ wants_then w.0 next t.0 w.2 t.1;
      no_label = λ other is. let same : sent ≡ other = some_same sent other (sym begun ∙ is) in
          ap (λ x. x.label) (sym same);
    }
  where
    some_same : (a b : Transmission) → Some a ≡ Some b → a ≡ b
    some_same a b e = cc e

    wants_true : (wanting found : Bool) → true ≡ wanting && found → wanting ≡ true
    wants_true true found e = refl
    wants_true false found e = absurd (cc e)
talked_by on k trace next level old mid after false h late mid_on after_on began talk samples =
    let past = past_of on k trace in
    let s = samples.samples (omega (arith, mid_on, late)) in
    let same : mid.station ≡ old.station = talk.stays refl in
    let begun : begun_by after.action ≡ None = begun_is after.action false after.action.sent (s.began_is ∙ began) refl
    in
    let w = talk.wants past h.stands in
    record {
      made = done on k trace level old mid after None h late after_on
          (subst (λ x. StandsAfter x.node past) (sym same) h.stands) (ap (λ x. x.sending) same)
          (ap (λ x. x.completed) same) (ap (λ x. bit_of x.node) same) begun s;
      begins = λ sent is. absurd (no_sent sent (sym begun ∙ is));
      wants = w.0;
      is_wanting = w.1;
      rule = ap (option_map (λ x. x.frame)) begun ∙ wants_not w.0 next w.2;
      no_label = λ sent is. absurd (no_sent sent (sym begun ∙ is));
    }

pub talked : (on k : ℕ) (trace : List Bit) (queue : List DueFrame) (level : Bool) (old mid after : Member) →
    StandsBehind on k trace old → on ≤ length trace →
    StartsTalking (length trace) old mid queue → Samples (length trace) level mid after →
    Talked on k trace (due_at queue (completed_of k trace) (length trace)) level mid after
talked on k trace queue level old mid after h late starts samples =
    talked_by on k trace (due_at queue (completed_of k trace) (length trace)) level old mid after mid.action.began h
    late (starts.on_is ∙ h.on_is) (samples.on_is ∙ starts.on_is ∙ h.on_is) refl
    (subst (λ n. IsTalk old.station mid.station (due_at queue n (length trace)) mid.action.began) h.completed_is
    (starts.talks (omega (arith, h.on_is, late)))) samples
