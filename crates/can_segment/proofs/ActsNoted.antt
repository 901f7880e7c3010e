-- What the acts of a trace note in the history of a node, and the other way round.
use Rattle.std.proofs.Common.{◌≡◌, inl, inr, ℕ, zero, suc, ◌+◌, ◌<◌, ◌≤◌, Bool, Option, Some, None, List, [], ◌∷◌, ◌++◌}
use Rattle.std.proofs.Common.{fold, length, take, slice_get, refl, sym, ap, subst, arith, ◌∙◌}
use Rattle.std.specs.Prelude.{option_and_then}
use Rattle.std.specs.List.{Contains}
use Rattle.std.proofs.lemmas.Bool.{cases_lt}
use Rattle.std.proofs.lemmas.List.{append-nil, append_assoc, length-append}
use Rattle.std.proofs.lemmas.List.Elements.{Contains-append_cases, Contains-append_left, Contains-append_right}
use Rattle.std.proofs.lemmas.List.Sums.{fold-append}
use Rattle.std.proofs.lemmas.Option.{slice_get_past}
use Rattle.can_frame.specs.Frames.{FrameValue}
use Rattle.can_node.specs.declared.outcome.Outcome.{Outcome}
use Rattle.can_node.specs.Pairs.{Pair}
use Rattle.can_node.specs.Histories.{Past, no_past, noted}
use Rattle.can_node.proofs.Stamps.{one_noted, noted_is}
use Rattle.can_station.specs.declared.event.Event.{Event}
use Rattle.can_station.specs.declared.event.Label.{Label}
use Rattle.can_station.specs.declared.plan.Controller.{Controller}
use Rattle.can_station.specs.declared.plan.SegmentPlan.{SegmentPlan}
use Rattle.can_station.specs.declared.plan.Talker.{Talker}
use Rattle.can_station.specs.declared.transmission.Transmission.{Transmission}
use Rattle.can_segment.specs.Attempts.{act_at}
use Rattle.can_station.specs.Faults.{sampled_level}
use Rattle.can_segment.specs.Traces.{Act, Bit, with_start, with_act, act_of, past_of, sending_of}
use Rattle.can_segment.specs.Runs.{Run, IsBit, ActsAt, IsAct, IsBegun, IsReaping, firsts}
use Rattle.can_segment.specs.Runs.Run.{no_bit, one_more}
use Rattle.can_segment.proofs.NextBits.{act_found}
use Rattle.can_segment.proofs.OneLine.{same_found, act_pairs, past_more, first_from, get_end, node_run}
use Rattle.can_segment.proofs.Shown.{first_at}

-- what a node does at the next bit: nothing, where it is not on yet
pub record DoesNext (plan : SegmentPlan) (on node : ℕ) (trace : List Bit) (bit : Bit) : Type 0 where
  pub act : Act
  pub act_is : act_of node bit ≡ Some act
  pub is_act : IsAct (past_of on node trace) (sampled_level plan.node_faults.items node (length trace) bit.level) act
  pub reaps : (label : Label) → act.reaped ≡ Some label → IsReaping (sending_of node trace) act label

pub record NextAct (plan : SegmentPlan) (on node : ℕ) (trace : List Bit) (bit : Bit) : Type 0 where
  pub before : length trace < on → act_of node bit ≡ None
  pub from_there_on : on ≤ length trace → DoesNext plan on node trace bit

next_by : (plan : SegmentPlan) (on node : ℕ) (Rules : Act → Type 0) (trace : List Bit) (bit : Bit) →
    ((act : Act) → Rules act → (label : Label) → act.reaped ≡ Some label →
    IsReaping (sending_of node trace) act label) →
    ActsAt plan on node Rules trace bit → NextAct plan on node trace bit
next_by plan on node Rules trace bit reaping h = record {
  before = λ early. act_found bit.level bit.acts node None (h.before early);
  from_there_on = λ late.
      let a = h.from_there_on late in
      record {
        act = a.0;
        act_is = act_found bit.level bit.acts node (Some a.0) a.1;
        is_act = a.2;
        reaps =
            reaping a.0 a.3;
      };
}

no_reaping : (node : ℕ) (trace : List Bit) (act : Act) (label : Label) → act.reaped ≡ None → act.reaped ≡ Some label →
    IsReaping (sending_of node trace) act label
no_reaping node trace act label is e = absurd (cc (is, e))

pub next_act : (plan : SegmentPlan) (on node : ℕ) (trace : List Bit) (bit : Bit) → IsBit plan trace bit →
    slice_get (firsts plan) node ≡ Some on →
    NextAct plan on node trace bit
next_act plan on node trace bit h e =
    elim (first_at (λ (talker : Talker). talker.on) (λ (controller : Controller). controller.on) plan.talkers.items
    plan.controllers.items node on e) [
      | inl is ↦ subst (λ n. NextAct plan n node trace bit) is.2
          (next_by plan is.0.on node _ trace bit
          (λ act rules label reaped. no_reaping node trace act label rules.no_reaping reaped)
          (h.talkers node is.0 is.1))
      | inr is ↦ (let at = length plan.talkers.items + is.0 in
          subst (λ n. NextAct plan on n trace bit) (sym is.2)
          (subst (λ n. NextAct plan n at trace bit) is.4
          (next_by plan is.1.on at _ trace bit (λ act rules label reaped. rules.reaps label reaped)
          (h.controllers is.0 is.1 is.3))))
    ]

-- what a node begins and tells is noted in its past
start_keeps : (past : Past) (begun : Option Transmission) →
    ((with_start past begun).outcomes ≡ past.outcomes)
    × ((with_start past begun).first + length (with_start past begun).pairs ≡ past.first + length past.pairs)
start_keeps past None = (refl, refl)
start_keeps past (Some sent) = (refl, refl)

pub act_outcomes : (past : Past) (act : Act) →
    (with_act past (Some act)).outcomes ≡ past.outcomes ++ noted (past.first + length past.pairs) act.outcome
act_outcomes past act =
    let keeps = start_keeps past act.begun in
    ap (λ o. o ++ noted ((with_start past act.begun).first + length (with_start past act.begun).pairs) act.outcome)
    keeps.0
    ∙ ap (λ n. past.outcomes ++ noted n act.outcome) keeps.1

-- a frame with its bit, where one is begun
abbrev begun_in : ℕ → Option Transmission → List (ℕ × FrameValue)
begun_in bit None = []
begun_in bit (Some sent) = (bit, sent.frame) ∷ []

start_begun : (past : Past) (begun : Option Transmission) →
    (with_start past begun).begun ≡ past.begun ++ begun_in (past.first + length past.pairs) begun
start_begun past None = sym (append-nil past.begun)
start_begun past (Some sent) = refl

act_begun : (past : Past) (act : Act) →
    (with_act past (Some act)).begun ≡ past.begun ++ begun_in (past.first + length past.pairs) act.begun
act_begun past act = start_begun past act.begun

-- a past that goes on as another one
pub record GrowsTo (from to : Past) : Type 0 where
  pub pairs : List Pair
  pub pairs_are : to.pairs ≡ from.pairs ++ pairs
  pub begun : List (ℕ × FrameValue)
  pub begun_is : to.begun ≡ from.begun ++ begun
  pub outcomes : List (ℕ × Outcome)
  pub outcomes_are : to.outcomes ≡ from.outcomes ++ outcomes

grows_by : (past : Past) (act : Option Act) → GrowsTo past (with_act past act)
grows_by past None = record {
  pairs = [];
  pairs_are = sym (append-nil past.pairs);
  begun = [];
  begun_is = sym (append-nil past.begun);
  outcomes = [];
  outcomes_are = sym (append-nil past.outcomes);
}
grows_by past (Some act) = record {
  pairs = record { driven = act.driven; sampled = act.sampled } ∷ [];
  pairs_are = act_pairs past act;
  begun = begun_in (past.first + length past.pairs) act.begun;
  begun_is = act_begun past act;
  outcomes = noted (past.first + length past.pairs) act.outcome;
  outcomes_are = act_outcomes past act;
}

grows_on : (a b c : Past) → GrowsTo a b → GrowsTo b c → GrowsTo a c
grows_on a b c g h = record {
  pairs = g.pairs ++ h.pairs;
  pairs_are = h.pairs_are ∙ ap (λ p. p ++ h.pairs) g.pairs_are ∙ append_assoc a.pairs g.pairs h.pairs;
  begun = g.begun ++ h.begun;
  begun_is = h.begun_is ∙ ap (λ p. p ++ h.begun) g.begun_is ∙ append_assoc a.begun g.begun h.begun;
  outcomes = g.outcomes ++ h.outcomes;
  outcomes_are = h.outcomes_are ∙ ap (λ p. p ++ h.outcomes) g.outcomes_are
      ∙ append_assoc a.outcomes g.outcomes h.outcomes;
}

grows_along : (node : ℕ) (past : Past) (trace : List Bit) →
    GrowsTo past (fold (λ p bit. with_act p (act_of node bit)) past trace)
grows_along node past [] = record {
  pairs = [];
  pairs_are = sym (append-nil past.pairs);
  begun = [];
  begun_is = sym (append-nil past.begun);
  outcomes = [];
  outcomes_are = sym (append-nil past.outcomes);
}
grows_along node past (bit ∷ trace) =
    grows_on past (with_act past (act_of node bit)) _ (grows_by past (act_of node bit))
    (grows_along node (with_act past (act_of node bit)) trace)

split_at : {X : Type 0} (xs : List X) (k : ℕ) → (more : List X) × (xs ≡ take k xs ++ more)
split_at xs zero = (xs, refl)
split_at [] (suc k) = ([], refl)
split_at (x ∷ xs) (suc k) = let more = split_at xs k in (more.0, ap (λ t. x ∷ t) more.1)

pub prefix_grows : (on node : ℕ) (trace : List Bit) (k : ℕ) →
    GrowsTo (past_of on node (take k trace)) (past_of on node trace)
prefix_grows on node trace k =
    let deferred = split_at trace k in
    subst (GrowsTo (past_of on node (take k trace)))
    (sym (ap (past_of on node) deferred.1
    ∙ fold-append (λ p bit. with_act p (act_of node bit)) (no_past on) (take k trace) deferred.0))
    (grows_along node (past_of on node (take k trace)) deferred.0)

-- what a node does at a bit of a trace
pub record Does (plan : SegmentPlan) (node on : ℕ) (trace : List Bit) (b : ℕ) (act : Act) : Type 0 where
  pub late : on ≤ b
  pub within : b < length trace
  pub clock : (past_of on node (take b trace)).first + length (past_of on node (take b trace)).pairs ≡ b
  pub begins : (sent : Transmission) → act.begun ≡ Some sent → IsBegun (past_of on node (take b trace)) sent
  pub begun : (sent : Transmission) → act.begun ≡ Some sent → Contains (past_of on node trace).begun (b, sent.frame)
  pub reported : (x : ℕ × Outcome) → Contains (noted b act.outcome) x → Contains (past_of on node trace).outcomes x
  pub reaps : (label : Label) → act.reaped ≡ Some label → IsReaping (sending_of node (take b trace)) act label

pub take_left : {X : Type 0} (xs ys : List X) (k : ℕ) → k ≤ length xs → take k (xs ++ ys) ≡ take k xs
take_left xs ys zero h = refl
take_left [] ys (suc k) h = absurd (omega (arith, h))
take_left (x ∷ xs) ys (suc k) h = ap (λ t. x ∷ t) (take_left xs ys k (omega (arith, h)))

pub take_whole : {X : Type 0} (xs : List X) → take (length xs) xs ≡ xs
take_whole [] = refl
take_whole (x ∷ xs) = ap (λ t. x ∷ t) (take_whole xs)

-- behind one more bit
does_before : (plan : SegmentPlan) (node on : ℕ) (trace : List Bit) (bit : Bit) (b : ℕ) (act : Act) →
    Does plan node on trace b act → Does plan node on (trace ++ bit ∷ []) b act
does_before plan node on trace bit b act d =
    let same : take b (trace ++ bit ∷ []) ≡ take b trace = take_left trace (bit ∷ []) b (omega (arith, d.within)) in
    let grown = subst (GrowsTo (past_of on node trace)) (sym (past_more on node trace bit))
    (grows_by (past_of on node trace) (act_of node bit)) in
    record {
      late = d.late;
      within = omega (arith, d.within, length-append trace (bit ∷ []));
      clock = ap (λ t. (past_of on node t).first + length (past_of on node t).pairs) same ∙ d.clock;
      begins = λ sent e. subst (λ t. IsBegun (past_of on node t) sent) (sym same) (d.begins sent e);
      begun = λ sent e. subst (λ l. Contains l (b, sent.frame)) (sym grown.begun_is)
          (Contains-append_left _ grown.begun (b, sent.frame) (d.begun sent e));
      reported = λ x c. subst (λ l. Contains l x) (sym grown.outcomes_are)
          (Contains-append_left _ grown.outcomes x (d.reported x c));
      reaps = λ label e. subst (λ t. IsReaping (sending_of node t) act label) (sym same) (d.reaps label e);
    }

-- a node has made as many bits as it was on
clock_of : {plan : SegmentPlan} {trace : List Bit} {levels : List Bool} {events : List Event} (node on : ℕ) →
    Run plan trace levels events →
    slice_get (firsts plan) node ≡ Some on → on ≤ length trace →
    (past_of on node trace).first + length (past_of on node trace).pairs ≡ length trace
clock_of {trace = trace} node on run e late =
    omega (arith, (node_run node on run e).size, first_from node (no_past on) trace, late)

noted_here : (node : ℕ) (past : Past) (trace : List Bit) (bit : Bit) (act : Act) (on b : ℕ) →
    past ≡ past_of on node trace → act_of node bit ≡ Some act → past.first + length past.pairs ≡ b →
    ((past_of on node (trace ++ bit ∷ [])).begun ≡ past.begun ++ begun_in b act.begun)
    × ((past_of on node (trace ++ bit ∷ [])).outcomes ≡ past.outcomes ++ noted b act.outcome)
noted_here node past trace bit act on b is act_is clock =
    let more : past_of on node (trace ++ bit ∷ []) ≡ with_act past (Some act) =
    past_more on node trace bit ∙ ap (λ p. with_act p (act_of node bit)) (sym is) ∙ ap (with_act past) act_is in (
      ap (λ (p : Past). p.begun) more ∙ start_begun past act.begun ∙ ap (λ n. past.begun ++ begun_in n act.begun) clock,
      ap (λ (p : Past). p.outcomes) more ∙ act_outcomes past act ∙ ap (λ n. past.outcomes ++ noted n act.outcome) clock,
    )

does_last : {plan : SegmentPlan} {trace : List Bit} {levels : List Bool} {events : List Event} (node on : ℕ) (bit : Bit)
    (b : ℕ) → Run plan trace levels events →
    slice_get (firsts plan) node ≡ Some on → b ≡ length trace → on ≤ length trace →
    (d : DoesNext plan on node trace bit) → Does plan node on (trace ++ bit ∷ []) b d.act
does_last {plan = plan} {trace = trace} node on bit b run e now late d =
    let past = past_of on node trace in
    let clock : past.first + length past.pairs ≡ b = clock_of node on run e late ∙ sym now in
    let here = noted_here node past trace bit d.act on b refl d.act_is clock in
    let before : take b (trace ++ bit ∷ []) ≡ trace = take_left trace (bit ∷ []) b (omega (arith, now))
    ∙ ap (λ n. take n trace) now ∙ take_whole trace in
    record {
      late = omega (arith, late, now);
      within = omega (arith, now, length-append trace (bit ∷ []));
      clock = ap (λ t. (past_of on node t).first + length (past_of on node t).pairs) before ∙ clock;
      begins = λ sent is. subst (λ t. IsBegun (past_of on node t) sent) (sym before) (d.is_act.begins sent is);
      begun = λ sent is. subst (λ l. Contains l (b, sent.frame)) (sym here.0)
          (Contains-append_right past.begun (begun_in b d.act.begun) (b, sent.frame)
          (subst (λ s. Contains (begun_in b s) (b, sent.frame)) (sym is) (0, omega arith, refl)));
      reported = λ x c. subst (λ l. Contains l x) (sym here.1)
          (Contains-append_right past.outcomes (noted b d.act.outcome) x c);
      reaps = λ label is. subst (λ t. IsReaping (sending_of node t) d.act label) (sym before) (d.reaps label is);
    }

pub act_before : (node : ℕ) (trace : List Bit) (bit : Bit) (b : ℕ) → b < length trace →
    act_at node (trace ++ bit ∷ []) b ≡ act_at node trace b
act_before node trace bit b within = ap (option_and_then (act_of node)) (get_before trace b within)
  where
    get_before : (trace : List Bit) (b : ℕ) → b < length trace → slice_get (trace ++ bit ∷ []) b ≡ slice_get trace b
    get_before [] b h = absurd (omega (arith, h))
    get_before (x ∷ xs) zero h = refl
    get_before (x ∷ xs) (suc b) h = get_before xs b (omega (arith, h))

pub act_last : (node : ℕ) (trace : List Bit) (bit : Bit) (b : ℕ) → b ≡ length trace →
    act_at node (trace ++ bit ∷ []) b ≡ act_of node bit
act_last node trace bit b now = ap (option_and_then (act_of node)) (get_end trace bit b now)

act_past : (node : ℕ) (trace : List Bit) (bit : Bit) (b : ℕ) (act : Act) → length trace < b →
    act_at node (trace ++ bit ∷ []) b ≡ Some act → ⊥
act_past node trace bit b act late e =
    let none = ap (option_and_then (act_of node))
    (slice_get_past (trace ++ bit ∷ []) b (omega (arith, late, length-append trace (bit ∷ [])))) in
    cc (none, e)

-- each act of a trace notes what it begins and tells
pub does_at : {plan : SegmentPlan} {trace : List Bit} {levels : List Bool} {events : List Event} (node on b : ℕ)
    (act : Act) → Run plan trace levels events →
    slice_get (firsts plan) node ≡ Some on → act_at node trace b ≡ Some act → Does plan node on trace b act
does_at node on b act no_bit e is = absurd (cc is)
does_at {plan = plan} node on b act (one_more {trace = trace} bit run is_bit) e is =
    let next = next_act plan on node trace bit is_bit e in
    elim (cases_lt b (length trace)) [
      | inl within ↦ does_before plan node on trace bit b act
          (does_at node on b act run e (sym (act_before node trace bit b within) ∙ is))
      | inr late ↦ elim (cases_lt (length trace) b) [
        | inl past ↦ absurd (act_past node trace bit b act past is)
        | inr no_later ↦ (let now : b ≡ length trace = omega (arith, late, no_later) in
            let here : act_of node bit ≡ Some act = sym (act_last node trace bit b now) ∙ is in
            elim (cases_lt (length trace) on) [
              | inl early ↦ absurd (let none = next.before early in cc (none, here))
              | inr on_now ↦ (let d = next.from_there_on on_now in
                  subst (Does plan node on (trace ++ bit ∷ []) b) (same_found d.act act (sym d.act_is ∙ here))
                  (does_last node on bit b run e now on_now d))
            ])
      ]
    ]

-- what is noted as begun at a bit was begun by the act there
pub record BeganAt (node on : ℕ) (trace : List Bit) (b : ℕ) (frame : FrameValue) : Type 0 where
  pub act : Act
  pub act_is : act_at node trace b ≡ Some act
  pub sent : Transmission
  pub begun_is : act.begun ≡ Some sent
  pub frame_is : sent.frame ≡ frame

-- and what is noted as reported was reported by it
pub record ReportedAt (node : ℕ) (trace : List Bit) (b : ℕ) (outcome : Outcome) : Type 0 where
  pub act : Act
  pub act_is : act_at node trace b ≡ Some act
  pub outcome_is : act.outcome ≡ outcome

begun_noted : (at b : ℕ) (begun : Option Transmission) (frame : FrameValue) → Contains (begun_in at begun) (b, frame) →
    (sent : Transmission) × (begun ≡ Some sent) × (sent.frame ≡ frame) × (b ≡ at)
begun_noted at b None frame c = absurd (omega (arith, c.1))
begun_noted at b (Some sent) frame c =
    let e = one_noted (at, sent.frame) (b, frame) c in
    (sent, refl, ap (λ (p : ℕ × FrameValue). p.1) e, sym (ap (λ (p : ℕ × FrameValue). p.0) e))

pub within_act : (node : ℕ) (trace : List Bit) (b : ℕ) (act : Act) → act_at node trace b ≡ Some act → b < length trace
within_act node trace b act is = elim (cases_lt b (length trace)) [
  | inl within ↦ within
  | inr past ↦ absurd (let none = ap (option_and_then (act_of node)) (slice_get_past trace b past) in cc (none, is))
]

later_act : (node : ℕ) (trace : List Bit) (bit : Bit) (b : ℕ) (act : Act) → act_at node trace b ≡ Some act →
    act_at node (trace ++ bit ∷ []) b ≡ Some act
later_act node trace bit b act is = act_before node trace bit b (within_act node trace b act is) ∙ is

pub began_at : {plan : SegmentPlan} {trace : List Bit} {levels : List Bool} {events : List Event} (node on b : ℕ)
    (frame : FrameValue) → Run plan trace levels events →
    slice_get (firsts plan) node ≡ Some on → Contains (past_of on node trace).begun (b, frame) →
    BeganAt node on trace b frame
began_at node on b frame no_bit e c = absurd (omega (arith, c.1))
began_at {plan = plan} node on b frame (one_more {trace = trace} bit run is_bit) e c =
    let next = next_act plan on node trace bit is_bit e in
    let older : BeganAt node on trace b frame → BeganAt node on (trace ++ bit ∷ []) b frame =
    λ t. record {
      act = t.act;
      act_is = later_act node trace bit b t.act t.act_is;
      sent = t.sent;
      begun_is =
          t.begun_is;
      frame_is = t.frame_is;
    } in
    elim (cases_lt (length trace) on) [
      | inl early ↦ (let same : past_of on node (trace ++ bit ∷ []) ≡ past_of on node trace =
          past_more on node trace bit ∙ ap (with_act (past_of on node trace)) (next.before early) in
          older (began_at node on b frame run e (subst (λ (p : Past). Contains p.begun (b, frame)) same c)))
      | inr late ↦ (let d = next.from_there_on late in
          let past = past_of on node trace in
          let here = noted_here node past trace bit d.act on (length trace) refl d.act_is
          (clock_of node on run e late) in
          elim (Contains-append_cases past.begun (begun_in (length trace) d.act.begun) (b, frame)
          (subst (λ l. Contains l (b, frame)) here.0 c)) [
            | inl before ↦ older (began_at node on b frame run e before)
            | inr now ↦ (let n = begun_noted (length trace) b d.act.begun frame now in
                record {
                  act = d.act;
                  act_is = act_last node trace bit b n.3 ∙ d.act_is;
                  sent = n.0;
                  begun_is =
                      n.1;
                  frame_is = n.2;
                })
          ])
    ]

pub reported_at : {plan : SegmentPlan} {trace : List Bit} {levels : List Bool} {events : List Event} (node on b : ℕ)
    (outcome : Outcome) → Run plan trace levels events →
    slice_get (firsts plan) node ≡ Some on → Contains (past_of on node trace).outcomes (b, outcome) →
    ReportedAt node trace b outcome
reported_at node on b outcome no_bit e c = absurd (omega (arith, c.1))
reported_at {plan = plan} node on b outcome (one_more {trace = trace} bit run is_bit) e c =
    let next = next_act plan on node trace bit is_bit e in
    let older : ReportedAt node trace b outcome → ReportedAt node (trace ++ bit ∷ []) b outcome =
    λ t. record { act = t.act; act_is = later_act node trace bit b t.act t.act_is; outcome_is = t.outcome_is } in
    elim (cases_lt (length trace) on) [
      | inl early ↦ (let same : past_of on node (trace ++ bit ∷ []) ≡ past_of on node trace =
          past_more on node trace bit ∙ ap (with_act (past_of on node trace)) (next.before early) in
          older (reported_at node on b outcome run e (subst (λ (p : Past). Contains p.outcomes (b, outcome)) same c)))
      | inr late ↦ (let d = next.from_there_on late in
          let past = past_of on node trace in
          let here = noted_here node past trace bit d.act on (length trace) refl d.act_is
          (clock_of node on run e late) in
          elim (Contains-append_cases past.outcomes (noted (length trace) d.act.outcome) (b, outcome)
          (subst (λ l. Contains l (b, outcome)) here.1 c)) [
            | inl before ↦ older (reported_at node on b outcome run e before)
            | inr now ↦ (let n = noted_is (length trace) b d.act.outcome outcome now in
                record { act = d.act; act_is = act_last node trace bit b n.0 ∙ d.act_is; outcome_is = n.1 })
          ])
    ]
