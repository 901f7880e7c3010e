-- The bit that the nodes of a segment made, as a bit of its run.
use Rattle.std.proofs.Common.{◌≡◌, ℕ, ◌+◌, Bool, ◌&&◌, Option, Some, List, [], ◌∷◌, ◌++◌, length, slice_get, refl, sym}
use Rattle.std.proofs.Common.{ap, subst, arith, ◌∙◌, length-append}
use Rattle.std.specs.List.{list_all}
use Rattle.std.proofs.lemmas.List.Folds.{list_all-append}
use Rattle.std.proofs.lemmas.Option.{slice_get_within}
use Rattle.can_station.specs.declared.event.EventKind.{EventKind}
use Rattle.can_station.specs.declared.action.Action.{Action}
use Rattle.can_station.specs.declared.member.Member.{Member}
use Rattle.can_station.specs.declared.plan.Talker.{Talker}
use Rattle.can_station.specs.declared.plan.Controller.{Controller}
use Rattle.can_station.specs.declared.plan.SegmentPlan.{SegmentPlan}
use Rattle.can_station.specs.Faults.{line_level, sampled_level}
use Rattle.can_segment.specs.Traces.{Act, Bit, act_of, sending_of}
use Rattle.can_segment.specs.Tells.{starts_of, rest_of, lines_from}
use Rattle.can_segment.specs.Runs.{drives}
use Rattle.can_station.specs.Members.{drives_at}
use Rattle.can_segment.specs.Kept.{StandsBehind}
use Rattle.can_station.specs.Tellings.{start_of, rest_by, events_by}
use Rattle.can_segment.proofs.Acts.{Talks, Controls}
use Rattle.can_segment.proofs.Collects.{Collected, same_all, lines_reported, lines_split}
use Rattle.can_segment.proofs.NextBits.{Made, Making, Placed, TalkerActed, ControllerActed, acts_bit, acts_at}
use Rattle.can_segment.proofs.NextBits.{stands_at, talkers_acts, controllers_acts, talker_placed, controller_placed}
use Rattle.can_station.proofs.Places.{some_there}

same_some : {X : Type 0} (a b : X) → Some a ≡ Some b → a ≡ b
same_some a b e = cc e

-- a collected act drives what its node drives
drives_all : {X : Type 0} (A : X → ℕ → Member → Member → Option Act → Type 0) (bit k : ℕ) (xs : List X)
    (mids afters : List Member) (c : Collected A k xs mids afters) →
    length mids ≡ length xs → length afters ≡ length xs →
    ((x : X) (n : ℕ) (mid after : Member) (act : Option Act) → A x n mid after act → drives act ≡ drives_at bit mid) →
    list_all drives c.acts ≡ list_all (drives_at bit) mids
drives_all A bit k xs mids afters c em ea h = same_all drives (drives_at bit) c.acts mids (c.size ∙ sym em)
    (λ i act mid e q.
    let within = slice_get_within mids i mid q in
    let x = some_there xs i (omega (arith, within, em)) in
    let after = some_there afters i (omega (arith, within, em, ea)) in
    let there = c.at i x.0 mid after.0 x.1 q after.1 in
    ap drives (same_some act there.0 (sym e ∙ there.1)) ∙ h x.0 (k + i) mid after.0 there.0 there.2)

-- the lines of a bit, reported for the talkers and then for the controllers
reported_all : (tells : ℕ → List EventKind) (by : Action → List EventKind) (bit : ℕ) (talkers controllers : List Member) →
    ((i : ℕ) (m : Member) → slice_get talkers i ≡ Some m → tells i ≡ by m.action) →
    ((i : ℕ) (m : Member) → slice_get controllers i ≡ Some m → tells (length talkers + i) ≡ by m.action) →
    lines_from tells bit 0 (length talkers + length controllers) ≡ events_by by bit 0 talkers
    ++ events_by by bit (length talkers) controllers
reported_all tells by bit talkers controllers ht hc =
    lines_split tells bit 0 (length talkers) (length controllers)
    ∙ ap (λ es. es ++ lines_from tells bit (0 + length talkers) (length controllers))
    (lines_reported tells by bit 0 talkers (λ i m e. ap tells (omega arith) ∙ ht i m e))
    ∙ ap (λ es. events_by by bit 0 talkers ++ es) (ap (λ n. lines_from tells bit n (length controllers)) (omega arith)
    ∙ lines_reported tells by bit (length talkers) controllers hc)

pub made : (plan : SegmentPlan) (trace : List Bit) (level : Bool) (t0 t1 t2 c0 c1 c2 : List Member) →
    Making plan trace level t0 t1 t2 c0 c1 c2 → Made plan trace level t2 c2
made plan trace level t0 t1 t2 c0 c1 c2 m =
    let b = length trace in
    let n = length plan.talkers.items in
    let tc = talkers_acts plan trace level t0 t1 t2 c0 c1 c2 m in
    let cc = controllers_acts plan trace level t0 t1 t2 c0 c1 c2 m in
    let acts = tc.acts ++ cc.acts in
    let bit : Bit = acts_bit level acts in
    let t1_size : length t1 ≡ n = m.starts.size ∙ m.stands.talkers_size in
    let t2_size : length t2 ≡ n = m.samples.size ∙ t1_size in
    let c1_size : length c1 ≡ length plan.controllers.items = m.controls.mid_size ∙ m.stands.controllers_size in
    let c2_size : length c2 ≡ length plan.controllers.items = m.controls.after_size ∙ c1_size in
    let size : length acts ≡ length t2 + length c2 =
    omega (arith, length-append tc.acts cc.acts, tc.size, cc.size, t2_size, c2_size) in
    let drive : list_all drives acts ≡ (list_all (drives_at b) t1 && list_all (drives_at b) c1) =
    list_all-append drives tc.acts cc.acts
    ∙ ap (λ x. x && list_all drives cc.acts)
    (drives_all (TalkerActed plan trace level) b 0 plan.talkers.items t1 t2 tc t1_size t2_size
    (λ x k mid after act acted. acted.drives_is))
    ∙ ap (λ x. list_all (drives_at b) t1 && x)
    (drives_all (ControllerActed plan trace level) b n plan.controllers.items c1 c2 cc c1_size c2_size
    (λ x k mid after act acted. acted.drives_is)) in
    let talker_at : (i : ℕ) (talker : Talker) → slice_get plan.talkers.items i ≡ Some talker →
    (mid : Member) × (after : Member) × (slice_get t2 i ≡ Some after)
    × Placed (Talks trace talker.queue.items talker.on) talker.on i trace
    (λ k. sampled_level plan.node_faults.items k b level) mid after bit =
    λ i talker p.
    let within = slice_get_within plan.talkers.items i talker p in
    let mid = some_there t1 i (omega (arith, within, t1_size)) in
    let after = some_there t2 i (omega (arith, within, t2_size)) in
    (mid.0, after.0, after.1, talker_placed plan trace level t1 t2 cc.acts tc i talker mid.0 after.0 p mid.1 after.1) in
    let controller_at : (i : ℕ) (controller : Controller) → slice_get plan.controllers.items i ≡ Some controller →
    (mid : Member) × (after : Member) × (slice_get c2 i ≡ Some after)
    × Placed (Controls trace) controller.on (n + i) trace (λ k. sampled_level plan.node_faults.items k b level) mid
    after bit =
    λ i controller p.
    let within = slice_get_within plan.controllers.items i controller p in
    let mid = some_there c1 i (omega (arith, within, c1_size)) in
    let after = some_there c2 i (omega (arith, within, c2_size)) in (
      mid.0,
      after.0,
      after.1,
      controller_placed plan trace level c1 c2 tc.acts tc.size cc i controller mid.0 after.0 p
          mid.1 after.1,
    ) in
    let start_t : (i : ℕ) (x : Member) → slice_get t2 i ≡ Some x → starts_of (act_of i bit) ≡ start_of x.action =
    λ i x e.
    let talker =
    some_there plan.talkers.items i (let within = slice_get_within t2 i x e in omega (arith, within, t2_size)) in
    let p = talker_at i talker.0 talker.1 in
    ap starts_of p.3.is_its ∙ p.3.acted.starts ∙ ap (λ y. start_of y.action) (same_some p.1 x (sym p.2 ∙ e)) in
    let rest_t : (i : ℕ) (x : Member) → slice_get t2 i ≡ Some x → rest_of (sending_of i trace) (act_of i bit)
    ≡ rest_by x.action =
    λ i x e.
    let talker =
    some_there plan.talkers.items i (let within = slice_get_within t2 i x e in omega (arith, within, t2_size)) in
    let p = talker_at i talker.0 talker.1 in
    ap (rest_of (sending_of i trace)) p.3.is_its ∙ p.3.acted.deferred
    ∙ ap (λ y. rest_by y.action) (same_some p.1 x (sym p.2 ∙ e)) in
    let start_c : (i : ℕ) (x : Member) → slice_get c2 i ≡ Some x → starts_of (act_of (length t2 + i) bit)
    ≡ start_of x.action =
    λ i x e.
    let controller = some_there plan.controllers.items i (let within = slice_get_within c2 i x e in
    omega (arith, within, c2_size)) in
    let p = controller_at i controller.0 controller.1 in
    ap (λ k. starts_of (act_of (k + i) bit)) t2_size ∙ ap starts_of p.3.is_its ∙ p.3.acted.starts
    ∙ ap (λ y. start_of y.action) (same_some p.1 x (sym p.2 ∙ e)) in
    let rest_c : (i : ℕ) (x : Member) → slice_get c2 i ≡ Some x →
    rest_of (sending_of (length t2 + i) trace) (act_of (length t2 + i) bit) ≡ rest_by x.action =
    λ i x e.
    let controller = some_there plan.controllers.items i (let within = slice_get_within c2 i x e in
    omega (arith, within, c2_size)) in
    let p = controller_at i controller.0 controller.1 in
    ap (λ k. rest_of (sending_of (k + i) trace) (act_of (k + i) bit)) t2_size
    ∙ ap (rest_of (sending_of (n + i) trace)) p.3.is_its ∙ p.3.acted.deferred
    ∙ ap (λ y. rest_by y.action) (same_some p.1 x (sym p.2 ∙ e)) in
    record {
      bit = bit;
      level_is = refl;
      is_bit = record {
        still = m.still;
        each = omega (arith, size, t2_size, c2_size);
        level_is = m.level_is ∙ ap (line_level plan.line_faults.items b) (sym drive);
        talkers = λ k talker e. let p = talker_at k talker e in
            acts_at plan (Talks trace talker.queue.items talker.on) talker.on k trace bit p.0 p.1 p.3;
        controllers = λ k controller e. let p = controller_at k controller e in
            acts_at plan (Controls trace) controller.on (n + k) trace bit p.0 p.1 p.3;
      };
      stands = record {
        talkers_size = t2_size;
        controllers_size = c2_size;
        talkers_stand = λ k talker member e f.
            let p = talker_at k talker e in
            subst (StandsBehind talker.on k (trace ++ bit ∷ [])) (same_some p.1 member (sym p.2 ∙ f))
            (stands_at plan (Talks trace talker.queue.items talker.on) talker.on k trace bit p.0 p.1 p.3);
        controllers_stand = λ k controller member e f.
            let p = controller_at k controller e in
            subst (StandsBehind controller.on (n + k) (trace ++ bit ∷ [])) (same_some p.1 member (sym p.2 ∙ f))
            (stands_at plan (Controls trace) controller.on (n + k) trace bit p.0 p.1 p.3);
      };
      tells =
          ap (λ k. lines_from (λ i. starts_of (act_of i bit)) b 0 k
          ++ lines_from (λ i. rest_of (sending_of i trace) (act_of i bit)) b 0 k) size
          ∙ ap (λ es. es ++ lines_from (λ i. rest_of (sending_of i trace) (act_of i bit)) b 0 (length t2 + length c2))
          (reported_all (λ i. starts_of (act_of i bit)) start_of b t2 c2 start_t start_c)
          ∙ ap (λ es. (events_by start_of b 0 t2 ++ events_by start_of b (length t2) c2) ++ es)
          (reported_all (λ i. rest_of (sending_of i trace) (act_of i bit)) rest_by b t2 c2 rest_t rest_c)
          ∙ ap (λ k. (events_by start_of b 0 t2 ++ events_by start_of b k c2)
          ++ (events_by rest_by b 0 t2 ++ events_by rest_by b k c2)) t2_size;
    }
