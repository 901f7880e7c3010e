-- Nothing is reported of uneventful nodes.
use Rattle.std.proofs.Common.{◌≡◌, ℕ, zero, suc, ◌+◌, ◌≤◌, Bool, cond, inl, inr, None, Some, List, [], ◌∷◌, ◌++◌}
use Rattle.std.proofs.Common.{length, slice_get, refl, sym, ap, subst, arith, ◌∙◌}
use Rattle.std.proofs.lemmas.Bool.{cases_lt}
use Rattle.std.proofs.lemmas.Option.{slice_get_within}
use Rattle.can_station.specs.declared.event.Event.{Event}
use Rattle.can_station.specs.declared.event.EventKind.{EventKind}
use Rattle.can_station.specs.declared.action.Action.{Action}
use Rattle.can_station.specs.declared.member.Member.{Member}
use Rattle.can_station.specs.declared.plan.SegmentPlan.{SegmentPlan}
use Rattle.can_station.specs.Lines.{lines, start_kinds, outcome_kinds, reaped_kinds}
use Rattle.can_segment.specs.Traces.{Bit}
use Rattle.can_station.specs.Actions.{no_action, IsUneventful, AreUneventful}
use Rattle.can_segment.specs.Kept.{StandsBehind, SegmentKept}
use Rattle.can_station.specs.Tellings.{start_of, rest_by, events_by, bit_lines}
use Rattle.can_segment.proofs.Keeps.{run_length}
use Rattle.can_station.proofs.Places.{some_there}

reported_nothing : (tells : Action → List EventKind) (bit node : ℕ) (members : List Member) →
    ((k : ℕ) (m : Member) → slice_get members k ≡ Some m → tells m.action ≡ []) → events_by tells bit node members ≡ []
unfolding events_by
reported_nothing tells bit node [] h = refl
reported_nothing tells bit node (m ∷ members) h =
    ap (λ ts. lines bit node ts ++ events_by tells bit (node + 1) members) (h zero m refl)
    ∙ reported_nothing tells bit (node + 1) members (λ k x e. h (suc k) x e)

uneventful_starts : (action : Action) → IsUneventful action → start_of action ≡ []
uneventful_starts action uneventful = ap (λ b. start_kinds (cond b action.sent None)) uneventful.no_start

uneventful_deferred : (action : Action) → IsUneventful action → rest_by action ≡ []
uneventful_deferred action uneventful =
    ap (λ o. outcome_kinds action.sent o ++ reaped_kinds action.reaped) uneventful.no_end ∙ ap reaped_kinds
    uneventful.no_reaping

none_uneventful : IsUneventful no_action
none_uneventful = record { no_start = refl; no_end = refl; no_reaping = refl }

-- also of those that are not on yet
uneventful_action : (on k bit : ℕ) (trace : List Bit) (member : Member) → StandsBehind on k trace member →
    length trace ≡ bit + 1 → (member.on ≤ bit → IsUneventful member.action) → IsUneventful member.action
uneventful_action on k bit trace member h behind uneventful = elim (cases_lt bit member.on) [
  | inl early ↦ subst IsUneventful (sym (h.uneventful (omega (arith, early, behind, h.on_is)))) none_uneventful
  | inr late ↦ uneventful (omega (arith, late))
]

-- the lines of a bit at which nothing is reported
pub uneventful_lines : (plan : SegmentPlan) (levels : List Bool) (events : List Event) (bit : ℕ)
    (talkers controllers : List Member) → SegmentKept plan levels events talkers controllers → length levels ≡ bit + 1 →
    AreUneventful bit talkers → AreUneventful bit controllers → bit_lines bit talkers controllers ≡ []
uneventful_lines plan levels events bit talkers controllers h size uneventful_talkers uneventful_controllers =
    let behind : length h.trace ≡ bit + 1 = sym (run_length h.run) ∙ size in
    let talker : (k : ℕ) (m : Member) → slice_get talkers k ≡ Some m → IsUneventful m.action =
    λ k m e.
    let within = slice_get_within talkers k m e in
    let planned = some_there plan.talkers.items k (omega (arith, within, h.stands.talkers_size)) in
    uneventful_action planned.0.on k bit h.trace m (h.stands.talkers_stand k planned.0 m planned.1 e) behind
    (uneventful_talkers k m e) in
    let controller : (k : ℕ) (m : Member) → slice_get controllers k ≡ Some m → IsUneventful m.action =
    λ k m e.
    let within = slice_get_within controllers k m e in
    let planned = some_there plan.controllers.items k (omega (arith, within, h.stands.controllers_size)) in
    uneventful_action planned.0.on (length plan.talkers.items + k) bit h.trace m
    (h.stands.controllers_stand k planned.0 m planned.1 e) behind (uneventful_controllers k m e) in
    let none : (tells : Action → List EventKind) → ((action : Action) → IsUneventful action → tells action ≡ []) →
    events_by tells bit 0 talkers ++ events_by tells bit (length talkers) controllers ≡ [] =
    λ tells nothing.
    ap (λ es. es ++ events_by tells bit (length talkers) controllers)
    (reported_nothing tells bit 0 talkers (λ k m e. nothing m.action (talker k m e)))
    ∙ reported_nothing tells bit (length talkers) controllers (λ k m e. nothing m.action (controller k m e)) in
    ap (λ es. es ++ (events_by rest_by bit 0 talkers ++ events_by rest_by bit (length talkers) controllers))
    (none start_of uneventful_starts) ∙ none rest_by uneventful_deferred
