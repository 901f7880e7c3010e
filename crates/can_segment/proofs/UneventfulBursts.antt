-- A segment behind uneventful bits that were made one after another, and that its record got at once.
use Rattle.std.proofs.Common.{◌≡◌, ℕ, ◌+◌, ◌<◌, ◌≤◌, ◌++◌, Bool, List, [], ◌∷◌, length, refl, sym, ap, subst, arith}
use Rattle.std.proofs.Common.{◌∙◌}
use Rattle.std.proofs.Common.{length-append}
use Rattle.std.proofs.lemmas.List.{append-nil, append_assoc}
use Rattle.can_confinement.specs.declared.counters.Counters.{Counters}
use Rattle.can_station.specs.declared.event.Event.{Event}
use Rattle.can_station.specs.declared.current_faults.CurrentFaults.{CurrentFaults}
use Rattle.can_station.specs.declared.member.Member.{Member}
use Rattle.can_station.specs.declared.plan.SegmentPlan.{SegmentPlan}
use Rattle.can_station.specs.CurrentFaults.{IsFaultless, IsCurrent}
use Rattle.can_segment.specs.declared.deferred.Deferred.{Deferred}
use Rattle.can_segment.specs.UneventfulBits.{MakesUneventfulBit, MakeUneventfulBits}
use Rattle.can_segment.specs.UneventfulBits.MakeUneventfulBits.{no_bit, one_more}
use Rattle.can_segment.specs.DeferredState.{AreUneventfulBits, IsUneventfulBit, DeferredHolds, materialized}
use Rattle.can_segment.specs.IdleUntil.{FaultlessUntil}
use Rattle.can_segment.specs.Segments.{ListsHold, SegmentValue, sending_of_all, wanting_of_all}
use Rattle.can_segment.proofs.UneventfulBits.{holds_uneventfully, kept_uneventfully}
use Rattle.can_segment.proofs.Shown.{none_wanted}
use Rattle.can_segment.proofs.SingleBit.{deferred_alone, sending_alone, wishes_alone}

-- the segment that contracts see
abbrev pub value_of : SegmentPlan → List Bool → List Event → List Counters → Deferred → List Member → ℕ → SegmentValue
value_of plan levels events counters deferred controllers idle = record {
  plan = plan;
  levels = levels;
  events = events;
  counters = counters;
  sending = sending_of_all (materialized deferred (length levels) controllers);
  wanting = wanting_of_all (length levels) (materialized deferred (length levels) controllers);
  idle_until = idle;
}

-- what stands in it between two bits
pub record Between (plan : SegmentPlan) (faults : CurrentFaults) (levels : List Bool) (events : List Event)
    (counters : List Counters) (deferred : Deferred) (talkers controllers : List Member) : Type 0 where
  pub holds : ListsHold plan levels events counters (materialized deferred (length levels) talkers)
      (materialized deferred (length levels) controllers)
  pub stands : IsCurrent plan (length levels) faults
  pub is_deferred : DeferredHolds deferred (length levels) plan.talkers.items talkers controllers

pub one_uneventful : (plan : SegmentPlan) (faults : CurrentFaults) (levels : List Bool) (events : List Event)
    (counters : List Counters) (level : Bool) (old new : Deferred) (t0 t1 c0 c1 : List Member) (idle : ℕ) →
    Between plan faults levels events counters old t0 c0 → length levels < plan.bits →
    IsFaultless plan (length levels) → IsCurrent plan (length levels + 1) faults →
    IsUneventfulBit (length levels) level old new t0 t1 c0 c1 →
    Between plan faults (levels ++ level ∷ []) events counters new t1 c1
    × MakesUneventfulBit (value_of plan levels events counters old c0 idle)
    (value_of plan (levels ++ level ∷ []) events counters new c1 idle)
one_uneventful plan faults levels events counters level old new t0 t1 c0 c1 idle h still faultless stands go =
    let bit = length levels in
    let longer : length (levels ++ level ∷ []) ≡ bit + 1 = length-append levels (level ∷ []) in
    let uneventful = kept_uneventfully plan levels events level old new t0 t1 c0 c1 h.holds.kept still go h.is_deferred
    faultless in
    let holds = holds_uneventfully plan levels events counters level old new t0 t1 c0 c1 h.holds uneventful go
    h.is_deferred in
    let is_deferred = deferred_alone plan.talkers.items bit level old new t0 t1 c0 c1 go h.is_deferred in (
      record {
        holds = rw longer holds;
        stands = rw longer stands;
        is_deferred = rw longer is_deferred;
      },
      record {
        level = level;
        plan_is = refl;
        levels_is = refl;
        events_is = refl;
        counters_is = refl;
        sending_is = ap (λ n. sending_of_all (materialized new n c1)) longer
            ∙ sending_alone plan.talkers.items bit level old new t0 t1 c0 c1 go h.is_deferred;
        none_wants = none_wanted bit (materialized old bit c0)
            (wishes_alone plan.talkers.items bit level old new t0 t1 c0 c1 go h.is_deferred);
      },
    )

-- a uneventful bit before others
pub uneventful_first : {old mid new : SegmentValue} → MakesUneventfulBit old mid → MakeUneventfulBits mid new →
    MakeUneventfulBits old new
uneventful_first first no_bit = one_more no_bit first
uneventful_first first (one_more bits bit) = one_more (uneventful_first first bits) bit

pub uneventful_run : (plan : SegmentPlan) (faults : CurrentFaults) (levels : List Bool) (events : List Event)
    (counters : List Counters) (sent : List Bool) (old new : Deferred) (t0 t1 c0 c1 : List Member) (idle last : ℕ) →
    Between plan faults levels events counters old t0 c0 → FaultlessUntil plan faults last → last ≤ plan.bits →
    (0 < length sent → length levels + length sent ≤ last) → AreUneventfulBits (length levels) sent old new t0 t1 c0 c1
    →
    Between plan faults (levels ++ sent) events counters new t1 c1
    × MakeUneventfulBits (value_of plan levels events counters old c0 idle)
    (value_of plan (levels ++ sent) events counters new c1 idle)
uneventful_run plan faults levels events counters [] old new t0 t1 c0 c1 idle last h until still fits go =
    rw (append-nil levels, go.0, go.1, go.2) (h, no_bit)
uneventful_run plan faults levels events counters (level ∷ sent) old new t0 t1 c0 c1 idle last h until still fits go =
    let within = fits (omega arith) in
    let mid = go.0 in
    let t = go.1 in
    let c = go.2 in
    let bit = length levels in
    let next = levels ++ level ∷ [] in
    let longer : length next ≡ bit + 1 = length-append levels (level ∷ []) in
    let free = until bit (omega (arith, within)) h.stands in
    let one =
    one_uneventful plan faults levels events counters level old mid t0 t c0 c idle h (omega (arith, within, still))
    free.0 free.1 go.3 in
    let more = uneventful_run plan faults next events counters sent mid new t t1 c c1 idle last one.0 until still
    (λ more. omega (arith, longer, within)) (subst (λ n. AreUneventfulBits n sent mid new t t1 c c1) (sym longer) go.4)
    in
    subst (λ ls. Between plan faults ls events counters new t1 c1
    × MakeUneventfulBits (value_of plan levels events counters old c0 idle) (value_of plan ls events counters new c1
    idle))
    (append_assoc levels (level ∷ []) sent) (more.0, uneventful_first one.1 more.1)

-- there are as many nodes as before
pub uneventful_sizes : (bit : ℕ) (sent : List Bool) (old new : Deferred) (t0 t1 c0 c1 : List Member) →
    AreUneventfulBits bit sent old new t0 t1 c0 c1 → (length t1 ≡ length t0) × (length c1 ≡ length c0)
uneventful_sizes bit [] old new t0 t1 c0 c1 go = (ap length go.1, ap length go.2)
uneventful_sizes bit (level ∷ sent) old new t0 t1 c0 c1 go =
    let more = uneventful_sizes (bit + 1) sent go.0 new go.1 t1 go.2 c1 go.4 in
    (more.0 ∙ go.3.talkers.size, more.1 ∙ go.3.controllers.size)

-- what stands behind uneventful bits, that they were made one after another, and that there are as many nodes as before
pub record RanUneventfully (plan : SegmentPlan) (faults : CurrentFaults) (levels : List Bool) (events : List Event)
    (counters : List Counters) (sent : List Bool) (old new : Deferred) (t0 t1 c0 c1 : List Member) (idle : ℕ) : Type 0
  where
    pub between : Between plan faults (levels ++ sent) events counters new t1 c1
    pub bits : MakeUneventfulBits (value_of plan levels events counters old c0 idle)
        (value_of plan (levels ++ sent) events counters new c1 idle)
    pub talkers_size : length t1 ≡ length t0
    pub controllers_size : length c1 ≡ length c0

pub ran_uneventfully : (plan : SegmentPlan) (faults : CurrentFaults) (levels : List Bool) (events : List Event)
    (counters : List Counters) (sent : List Bool) (old new : Deferred) (t t0 t1 c c0 c1 : List Member) (idle last : ℕ) →
    Between plan faults levels events counters old t0 c0 → FaultlessUntil plan faults last → last ≤ plan.bits →
    (0 < length sent → length levels + length sent ≤ last) → t ≡ t0 → c ≡ c0 →
    AreUneventfulBits (length levels) sent old new t t1 c c1 →
    RanUneventfully plan faults levels events counters sent old new t0 t1 c0 c1 idle
ran_uneventfully plan faults levels events counters sent old new t t0 t1 c c0 c1 idle last h until still fits is is_too go =
    let went = subst (λ ms. AreUneventfulBits (length levels) sent old new t0 t1 ms c1) is_too
    (subst (λ ms. AreUneventfulBits (length levels) sent old new ms t1 c c1) is go) in
    let run = uneventful_run plan faults levels events counters sent old new t0 t1 c0 c1 idle last h until still fits went in
    let sizes = uneventful_sizes (length levels) sent old new t0 t1 c0 c1 went in
    record { between = run.0; bits = run.1; talkers_size = sizes.0; controllers_size = sizes.1 }
