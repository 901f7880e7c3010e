-- A controller's bit is an act by the rules of a controller.
use Rattle.std.proofs.Common.{◌≡◌, ℕ, ◌≤◌, Bool, true, false, IfSome, IsSome, Option, Some, None, List, length, refl}
use Rattle.std.proofs.Common.{sym, ap, subst, arith, ◌∙◌}
use Rattle.can_node.specs.Node.{StandsAfter, bit_of}
use Rattle.can_station.specs.declared.event.Label.{Label}
use Rattle.can_station.specs.declared.transmission.Transmission.{Transmission}
use Rattle.can_station.specs.declared.member.Member.{Member}
use Rattle.can_segment.specs.Traces.{Bit, past_of}
use Rattle.can_segment.specs.Runs.{IsBegun}
use Rattle.can_station.specs.Ports.{Reaps}
use Rattle.can_station.specs.Stations.{IsRequest}
use Rattle.can_station.specs.Members.{StartsRequest, SamplesAndSettles}
use Rattle.can_station.specs.Actions.{begun_by}
use Rattle.can_segment.specs.Kept.{StandsBehind}
use Rattle.can_segment.proofs.Actions.{Done, done, begun_is, named_start, named_reaping}

-- a controller at a bit at which it is on
pub record Controlled (on k : ℕ) (trace : List Bit) (level : Bool) (mid after : Member) : Type 0 where
  pub made : Done on k trace level mid after
  pub begins : (sent : Transmission) → begun_by after.action ≡ Some sent → IsBegun (past_of on k trace) sent
  pub labelled : (sent : Transmission) → begun_by after.action ≡ Some sent → IsSome sent.label
  pub names : (label : Label) → after.action.reaped ≡ Some label → after.action.sent ≡ mid.station.sending
  pub reaps : (label : Label) → after.action.reaped ≡ Some label → Reaps after.action.sent after.action.outcome label

reaped_by : (reaped : Option Label) (P : Label → Type 0) → IfSome reaped P → (label : Label) → reaped ≡ Some label →
    P label
reaped_by None P h label e = absurd (cc e)
reaped_by (Some x) P h label e = let same : x ≡ label = cc e in subst P same h

no_sent : (sent : Transmission) → None ≡ Some sent → ⊥
no_sent sent e = cc e

controlled_by : (on k : ℕ) (trace : List Bit) (level : Bool) (old mid after : Member) (b : Bool) →
    StandsBehind on k trace old → on ≤ length trace → mid.on ≡ on → after.on ≡ on →
    mid.action.began ≡ b → IsRequest old.station mid.station b → SamplesAndSettles (length trace) level mid after →
    Controlled on k trace level mid after
controlled_by on k trace level old mid after true h late mid_on after_on began request samples =
    let past = past_of on k trace in
    let s = samples.samples (omega (arith, mid_on, late)) in
    let t = request.begins refl in
    let start = t.2 in
    let sent : Transmission = record { start = start.start; frame = t.0; label = Some t.1 } in
    let begun : begun_by after.action ≡ Some sent = begun_is after.action true (Some sent) (s.began_is ∙ began)
    (named_start after.action mid.station.sending s.names (s.began_is ∙ began) ∙ start.sending_is) in
    record {
      made = done on k trace level old mid after (Some sent) h late after_on
          (start.stands past h.stands) start.sending_is start.completed_is start.bit_is begun s;
      begins = λ other is.
          let same : sent ≡ other = some_same sent other (sym begun ∙ is) in
          subst (IsBegun past) same (record {
            wants = request.wants refl past h.stands;
            sends = start.sends past h.stands;
          });
      labelled = λ other is. let same : sent ≡ other = some_same sent other (sym begun ∙ is) in
          subst (λ x. IsSome x.label) same refl;
      names = λ label. named_reaping after.action mid.station.sending label s.names;
      reaps = reaped_by after.action.reaped (Reaps after.action.sent after.action.outcome)
          (samples.reaps (omega (arith, mid_on, late)));
    }
  where
    some_same : (a b : Transmission) → Some a ≡ Some b → a ≡ b
    some_same a b e = cc e
controlled_by on k trace level old mid after false h late mid_on after_on began request samples =
    let past = past_of on k trace in
    let s = samples.samples (omega (arith, mid_on, late)) in
    let same : mid.station ≡ old.station = request.stays refl in
    let begun : begun_by after.action ≡ None = begun_is after.action false after.action.sent (s.began_is ∙ began) refl
    in
    record {
      made = done on k trace level old mid after None h late after_on
          (subst (λ x. StandsAfter x.node past) (sym same) h.stands) (ap (λ x. x.sending) same)
          (ap (λ x. x.completed) same) (ap (λ x. bit_of x.node) same) begun s;
      begins = λ sent is. absurd (no_sent sent (sym begun ∙ is));
      labelled = λ sent is. absurd (no_sent sent (sym begun ∙ is));
      names = λ label. named_reaping after.action mid.station.sending label s.names;
      reaps = reaped_by after.action.reaped (Reaps after.action.sent after.action.outcome)
          (samples.reaps (omega (arith, mid_on, late)));
    }

pub controlled : (on k : ℕ) (trace : List Bit) (level : Bool) (old mid after : Member) → StandsBehind on k trace old →
    on ≤ length trace →
    StartsRequest (length trace) old mid → SamplesAndSettles (length trace) level mid after →
    Controlled on k trace level mid after
controlled on k trace level old mid after h late starts samples =
    controlled_by on k trace level old mid after mid.action.began h late (starts.on_is ∙ h.on_is)
    (samples.on_is ∙ starts.on_is ∙ h.on_is) refl (starts.requests (omega (arith, h.on_is, late))) samples
