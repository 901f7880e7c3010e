-- One more bit of a segment: what its nodes did makes a bit of a run.
use Rattle.std.proofs.Common.{◌≡◌, ℕ, ◌+◌, ◌<◌, Bool, ◌&&◌, Option, Some, None, List, [], ◌∷◌, ◌++◌, length, slice_get}
use Rattle.std.proofs.Common.{sym, ap, subst, arith, ◌∙◌}
use Rattle.std.specs.List.{list_all}
use Rattle.std.proofs.lemmas.Option.{slice_get_within}
use Rattle.can_station.specs.declared.member.Member.{Member}
use Rattle.can_station.specs.declared.plan.Talker.{Talker}
use Rattle.can_station.specs.declared.plan.Controller.{Controller}
use Rattle.can_station.specs.declared.plan.SegmentPlan.{SegmentPlan}
use Rattle.can_station.specs.Faults.{line_level, sampled_level}
use Rattle.can_segment.specs.Traces.{Act, Bit, act_of}
use Rattle.can_segment.specs.Tells.{events_at}
use Rattle.can_segment.specs.Runs.{ActsAt, IsBit}
use Rattle.can_station.specs.Members.{TalkerStarts, TalkerSamples, drives_at}
use Rattle.can_segment.specs.Moves.{Controlling}
use Rattle.can_station.specs.Places.{AtPlaces}
use Rattle.can_segment.specs.Kept.{StandsBehind, SegmentStands}
use Rattle.can_station.specs.Tellings.{start_of, rest_by, events_by}
use Rattle.can_segment.proofs.Acts.{Acted, Talks, Controls, talker_acts, controller_acts}
use Rattle.can_station.proofs.Places.{some_there}
use Rattle.can_segment.proofs.Collects.{Collected, collect, get_left, get_right}

-- a bit that was made
pub record Made (plan : SegmentPlan) (trace : List Bit) (level : Bool)
    (talkers controllers : List Member) : Type 0 where
  pub bit : Bit
  pub level_is : bit.level ≡ level
  pub is_bit : IsBit plan trace bit
  pub stands : SegmentStands plan (trace ++ bit ∷ []) talkers controllers
  pub tells : events_at trace bit ≡ (events_by start_of (length trace) 0 talkers
      ++ events_by start_of (length trace) (length plan.talkers.items) controllers)
      ++ (events_by rest_by (length trace) 0 talkers ++ events_by rest_by (length trace)
      (length plan.talkers.items) controllers)

-- the acts at a bit, by their places
abbrev pub acts_bit : Bool → List (Option Act) → Bit
acts_bit level acts = record { level = level; acts = acts }

pub act_found : (level : Bool) (acts : List (Option Act)) (k : ℕ) (act : Option Act) → slice_get acts k ≡ Some act →
    act_of k (acts_bit level acts) ≡ act
act_found level acts k act e = elim (slice_get acts k) as (λ found. found ≡ Some act → act_in_of found ≡ act)
    [ None ↦ (λ is. absurd (cc is)) | Some x ↦ (λ is. cc is) ] e
  where
    act_in_of : Option (Option Act) → Option Act
    act_in_of None = None
    act_in_of (Some x) = x

same_found : {X : Type 0} (a b : X) → Some a ≡ Some b → a ≡ b
same_found a b e = cc e

-- a node in its place among the acts
pub record Placed (Rules : ℕ → Act → Type 0) (on k : ℕ) (trace : List Bit) (level : ℕ → Bool) (mid after : Member)
    (bit : Bit) : Type 0 where
  pub act : Option Act
  pub found : slice_get bit.acts k ≡ Some act
  pub is_its : act_of k bit ≡ act
  pub acted : Acted (Rules k) on k trace (level k) mid after act

-- by the rules of a run
pub acts_at : (plan : SegmentPlan) (Rules : ℕ → Act → Type 0) (on k : ℕ) (trace : List Bit) (bit : Bit)
    (mid after : Member) →
    Placed Rules on k trace (λ n. sampled_level plan.node_faults.items n (length trace) bit.level) mid after bit →
    ActsAt plan on k (Rules k) trace bit
acts_at plan Rules on k trace bit mid after p = record {
  before = λ early. p.found ∙ ap Some (p.acted.before early);
  from_there_on = λ late. let f = p.acted.from_there_on late in (f.0, p.found ∙ ap Some f.1, f.2, f.3);
}

pub stands_at : (plan : SegmentPlan) (Rules : ℕ → Act → Type 0) (on k : ℕ) (trace : List Bit) (bit : Bit)
    (mid after : Member) →
    Placed Rules on k trace (λ n. sampled_level plan.node_faults.items n (length trace) bit.level) mid after bit →
    StandsBehind on k (trace ++ bit ∷ []) after
stands_at plan Rules on k trace bit mid after p = p.acted.stands bit p.is_its

-- what stands at a bit before it is made: the nodes, what they did, and the level of the line
pub record Making (plan : SegmentPlan) (trace : List Bit) (level : Bool)
    (t0 t1 t2 c0 c1 c2 : List Member) : Type 0 where
  pub stands : SegmentStands plan trace t0 c0
  pub starts : AtPlaces (TalkerStarts (length trace) plan.talkers.items) t0 t1
  pub samples : AtPlaces (TalkerSamples (length trace) level plan.node_faults.items) t1 t2
  pub controls : Controlling (length trace)
      (λ k. sampled_level plan.node_faults.items (length plan.talkers.items + k) (length trace) level) c0 c1 c2
  pub level_is : level ≡ line_level plan.line_faults.items (length trace)
      (list_all (drives_at (length trace)) t1 && list_all (drives_at (length trace)) c1)
  pub still : length trace < plan.bits

-- the acts of the talkers and of the controllers
abbrev pub TalkerActed : SegmentPlan → List Bit → Bool → Talker → ℕ → Member → Member → Option Act → Type 0
TalkerActed plan trace level talker k mid after act =
    Acted (Talks trace talker.queue.items talker.on k) talker.on k trace
    (sampled_level plan.node_faults.items k (length trace) level) mid after act

abbrev pub ControllerActed : SegmentPlan → List Bit → Bool → Controller → ℕ → Member → Member → Option Act → Type 0
ControllerActed plan trace level controller k mid after act =
    Acted (Controls trace k) controller.on k trace (sampled_level plan.node_faults.items k (length trace) level) mid
    after act

pub talkers_acts : (plan : SegmentPlan) (trace : List Bit) (level : Bool) (t0 t1 t2 c0 c1 c2 : List Member) →
    Making plan trace level t0 t1 t2 c0 c1 c2 →
    Collected (TalkerActed plan trace level) 0 plan.talkers.items t1 t2
talkers_acts plan trace level t0 t1 t2 c0 c1 c2 m =
    collect (TalkerActed plan trace level) 0 plan.talkers.items t1 t2 (m.starts.size ∙ m.stands.talkers_size)
    (m.samples.size ∙ m.starts.size ∙ m.stands.talkers_size)
    (λ i talker mid after p q r.
    let old = some_there t0 i (let within = slice_get_within t1 i mid q in omega (arith, within, m.starts.size)) in
    let here : i ≡ 0 + i = omega arith in
    let stood : StandsBehind talker.on (0 + i) trace old.0 =
    subst (λ n. StandsBehind talker.on n trace old.0) here (m.stands.talkers_stand i talker old.0 p old.1) in
    let sampled = subst (λ n. TalkerSamples (length trace) level plan.node_faults.items n mid after) here
    (m.samples.at i mid after q r) in
    talker_acts talker.on (0 + i) trace talker.queue.items
    (sampled_level plan.node_faults.items (0 + i) (length trace) level) old.0 mid after stood
    (m.starts.at i old.0 mid old.1 q talker p) sampled)

pub controllers_acts : (plan : SegmentPlan) (trace : List Bit) (level : Bool) (t0 t1 t2 c0 c1 c2 : List Member) →
    Making plan trace level t0 t1 t2 c0 c1 c2 →
    Collected (ControllerActed plan trace level) (length plan.talkers.items) plan.controllers.items c1 c2
controllers_acts plan trace level t0 t1 t2 c0 c1 c2 m =
    let n = length plan.talkers.items in
    collect (ControllerActed plan trace level) n plan.controllers.items c1 c2
    (m.controls.mid_size ∙ m.stands.controllers_size) (m.controls.after_size ∙ m.controls.mid_size
    ∙ m.stands.controllers_size)
    (λ i controller mid after p q r.
    let old =
    some_there c0 i (let within = slice_get_within c1 i mid q in omega (arith, within, m.controls.mid_size)) in
    controller_acts controller.on (n + i) trace (sampled_level plan.node_faults.items (n + i) (length trace) level)
    old.0 mid after (m.stands.controllers_stand i controller old.0 p old.1)
    (m.controls.starts i old.0 mid old.1 q) (m.controls.settles i mid after q r))

-- the same, in their places among all acts
pub talker_placed : (plan : SegmentPlan) (trace : List Bit) (level : Bool) (t1 t2 : List Member)
    (others : List (Option Act)) (tc : Collected (TalkerActed plan trace level) 0 plan.talkers.items t1 t2)
    (i : ℕ) (talker : Talker) (mid after : Member) → slice_get plan.talkers.items i ≡ Some talker →
    slice_get t1 i ≡ Some mid → slice_get t2 i ≡ Some after →
    Placed (Talks trace talker.queue.items talker.on) talker.on i trace
    (λ n. sampled_level plan.node_faults.items n (length trace) level) mid after
    (acts_bit level (tc.acts ++ others))
talker_placed plan trace level t1 t2 others tc i talker mid after p q r =
    let x = tc.at i talker mid after p q r in
    let found = get_left tc.acts others i x.0 x.1 in
    let here : 0 + i ≡ i = omega arith in
    record {
      act = x.0;
      found = found;
      is_its = act_found level (tc.acts ++ others) i x.0 found;
      acted = subst (λ n. TalkerActed plan trace level talker n mid after x.0) here x.2;
    }

pub controller_placed : (plan : SegmentPlan) (trace : List Bit) (level : Bool) (c1 c2 : List Member)
    (others : List (Option Act)) → length others ≡ length plan.talkers.items →
    (cc : Collected (ControllerActed plan trace level) (length plan.talkers.items) plan.controllers.items c1 c2)
    (i : ℕ) (controller : Controller) (mid after : Member) → slice_get plan.controllers.items i ≡ Some controller →
    slice_get c1 i ≡ Some mid → slice_get c2 i ≡ Some after →
    Placed (Controls trace) controller.on (length plan.talkers.items + i) trace
    (λ n. sampled_level plan.node_faults.items n (length trace) level) mid after
    (acts_bit level (others ++ cc.acts))
controller_placed plan trace level c1 c2 others size c i controller mid after p q r =
    let x = c.at i controller mid after p q r in
    let found : slice_get (others ++ c.acts) (length plan.talkers.items + i) ≡ Some x.0 =
    ap (λ n. slice_get (others ++ c.acts) (n + i)) (sym size) ∙ get_right others c.acts i ∙ x.1 in
    record {
      act = x.0;
      found = found;
      is_its =
          act_found level (others ++ c.acts) (length plan.talkers.items + i) x.0 found;
      acted = x.2;
    }
