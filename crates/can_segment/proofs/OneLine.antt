-- Two nodes of a run are on one line.
use Rattle.std.proofs.Common.{◌≡◌, inl, inr, ℕ, zero, suc, ◌+◌, ◌-◌, ◌<◌, ◌≤◌, Bool, true, false, not, cond, ◌||◌}
use Rattle.std.proofs.Common.{◌&&◌, Option, Some, None, List, [], ◌∷◌, ◌++◌, fold, length, map, slice_get, option_map}
use Rattle.std.proofs.Common.{refl, sym, ap, subst, arith, ◌∙◌, length-append}
use Rattle.std.specs.List.{list_any, list_all}
use Rattle.std.proofs.lemmas.Bool.{cases_lt}
use Rattle.std.proofs.lemmas.List.{length-map}
use Rattle.std.proofs.lemmas.List.Sums.{fold-append}
use Rattle.std.proofs.lemmas.Option.{slice_get_within, slice_get-map}
use Rattle.can_node.specs.Pairs.{Pair}
use Rattle.can_node.specs.Histories.{Past, no_past}
use Rattle.can_node.specs.Copies.{Drives, Samples, OnOneLine}
use Rattle.can_station.specs.declared.event.Event.{Event}
use Rattle.can_station.specs.declared.transmission.Transmission.{Transmission}
use Rattle.can_station.specs.declared.plan.Talker.{Talker}
use Rattle.can_station.specs.declared.plan.Controller.{Controller}
use Rattle.can_station.specs.declared.plan.LineFault.{LineFault}
use Rattle.can_station.specs.declared.plan.NodeFault.{NodeFault}
use Rattle.can_station.specs.declared.plan.SegmentPlan.{SegmentPlan}
use Rattle.can_station.specs.Faults.{line_level, is_inverted, sampled_level, stands}
use Rattle.can_segment.specs.Traces.{Act, Bit, with_start, with_act, act_of, past_of}
use Rattle.can_segment.specs.Runs.{IsBit, ActsAt, Run, firsts, drives}
use Rattle.can_segment.specs.Runs.Run.{no_bit, one_more}
use Rattle.can_segment.specs.Attempts.{IsPastOf}
use Rattle.can_segment.specs.Copies.{is_falsified}
use Rattle.can_segment.proofs.NextBits.{act_found}
use Rattle.can_segment.proofs.Shown.{first_at}

or_false : (x y : Bool) → (x || y) ≡ false → (x ≡ false) × (y ≡ false)
or_false true y e = absurd (cc e)
or_false false y e = (refl, e)

and_false : (x : Bool) → (x && false) ≡ false
and_false true = refl
and_false false = refl

pub same_found : {X : Type 0} (a b : X) → Some a ≡ Some b → a ≡ b
same_found a b e = cc e

option_same : {X Y : Type 0} (f : X → Y) (found : Option X) (x : X) (y : Y) → found ≡ Some x →
    option_map f found ≡ Some y → y ≡ f x
option_same f None x y e k = absurd (cc e)
option_same f (Some z) x y e k = sym (ap f (same_found x z (sym e)) ∙ same_found (f z) y k)

-- a node that is on acts at a bit so
pub record Acts (plan : SegmentPlan) (on node : ℕ) (trace : List Bit) (bit : Bit) : Type 0 where
  pub act : Act
  pub here : slice_get bit.acts node ≡ Some (Some act)
  pub samples : act.sampled ≡ sampled_level plan.node_faults.items node (length trace) bit.level

acts_by : (plan : SegmentPlan) (on node : ℕ) (Rules : Act → Type 0) (trace : List Bit) (bit : Bit) → on ≤ length trace →
    ActsAt plan on node Rules trace bit → Acts plan on node trace bit
acts_by plan on node Rules trace bit late h = let a =
    h.from_there_on late in record { act = a.0; here = a.1; samples = a.2.samples }

-- and one that is not on does nothing
none_by : (plan : SegmentPlan) (on node : ℕ) (Rules : Act → Type 0) (trace : List Bit) (bit : Bit) → length trace < on →
    ActsAt plan on node Rules trace bit → slice_get bit.acts node ≡ Some None
none_by plan on node Rules trace bit early h = h.before early

pub record NodeActs (plan : SegmentPlan) (on node : ℕ) (trace : List Bit) (bit : Bit) : Type 0 where
  pub before : length trace < on → slice_get bit.acts node ≡ Some None
  pub from_there_on : on ≤ length trace → Acts plan on node trace bit

pub node_acts : (plan : SegmentPlan) (on node : ℕ) (trace : List Bit) (bit : Bit) → IsBit plan trace bit →
    slice_get (firsts plan) node ≡ Some on → NodeActs plan on node trace bit
node_acts plan on node trace bit h e =
    elim (first_at (λ (talker : Talker). talker.on) (λ (controller : Controller). controller.on) plan.talkers.items
    plan.controllers.items node on e) [
      | inl is ↦ (let a = h.talkers node is.0 is.1 in
          subst (λ n. NodeActs plan n node trace bit) is.2
          (record {
            before = λ early. none_by plan _ node _ trace bit early a;
            from_there_on =
                λ late. acts_by plan _ node _ trace bit late a;
          }))
      | inr is ↦ (let a = h.controllers is.0 is.1 is.3 in
          subst (λ n. NodeActs plan on n trace bit) (sym is.2)
          (subst (λ n. NodeActs plan n (length plan.talkers.items + is.0) trace bit) is.4
          (record {
            before = λ early. none_by plan _ _ _ trace bit early a;
            from_there_on =
                λ late. acts_by plan _ _ _ trace bit late a;
          })))
    ]

start_keeps : (past : Past) (begun : Option Transmission) →
    ((with_start past begun).pairs ≡ past.pairs) × ((with_start past begun).first ≡ past.first)
start_keeps past None = (refl, refl)
start_keeps past (Some sent) = (refl, refl)

pair_of : Act → Pair
pair_of act = record { driven = act.driven; sampled = act.sampled }

pub act_pairs : (past : Past) (act : Act) →
    (with_act past (Some act)).pairs ≡ past.pairs ++ record { driven = act.driven; sampled = act.sampled } ∷ []
act_pairs past act = ap (λ p. p ++ record { driven = act.driven; sampled = act.sampled } ∷ [])
    (start_keeps past act.begun).0

act_first : (past : Past) (act : Option Act) → (with_act past act).first ≡ past.first
act_first past None = refl
act_first past (Some act) = (start_keeps past act.begun).1

pub past_more : (on node : ℕ) (trace : List Bit) (bit : Bit) →
    past_of on node (trace ++ bit ∷ []) ≡ with_act (past_of on node trace) (act_of node bit)
past_more on node trace bit = fold-append (λ past b. with_act past (act_of node b)) (no_past on) trace (bit ∷ [])

pub first_from : (node : ℕ) (past : Past) (trace : List Bit) →
    (fold (λ p bit. with_act p (act_of node bit)) past trace).first ≡ past.first
first_from node past [] = refl
first_from node past (bit ∷ trace) = first_from node (with_act past (act_of node bit)) trace
    ∙ act_first past (act_of node bit)

-- what holds of each bit at which the node was on
pub record Acting (plan : SegmentPlan) (node on : ℕ) (trace : List Bit) (b : ℕ) : Type 0 where
  pub bit : Bit
  pub act : Act
  pub bit_is : slice_get trace b ≡ Some bit
  pub act_is : slice_get bit.acts node ≡ Some (Some act)
  pub pair_is : slice_get (past_of on node trace).pairs (b - on) ≡ Some
      (record { driven = act.driven; sampled = act.sampled })
  pub samples : act.sampled ≡ sampled_level plan.node_faults.items node b bit.level
  pub line : bit.level ≡ line_level plan.line_faults.items b (list_all drives bit.acts)

-- what a run says of a node
pub record NodeRun (plan : SegmentPlan) (node on : ℕ) (trace : List Bit) : Type 0 where
  pub size : length (past_of on node trace).pairs ≡ length trace - on
  pub at : (b : ℕ) → on ≤ b → b < length trace → Acting plan node on trace b

pub get_left : {X : Type 0} (xs ys : List X) (k : ℕ) (x : X) → slice_get xs k ≡ Some x → slice_get (xs ++ ys) k ≡ Some x
get_left [] ys k x e = absurd (cc e)
get_left (y ∷ xs) ys zero x e = e
get_left (y ∷ xs) ys (suc k) x e = get_left xs ys k x e

pub get_end : {X : Type 0} (xs : List X) (x : X) (k : ℕ) → k ≡ length xs → slice_get (xs ++ x ∷ []) k ≡ Some x
get_end xs x k e = subst (λ n. slice_get (xs ++ x ∷ []) n ≡ Some x) (sym e) (at_end xs)
  where
    at_end : (xs : List _) → slice_get (xs ++ x ∷ []) (length xs) ≡ Some x
    at_end [] = refl
    at_end (y ∷ xs) = at_end xs

pub node_run : {plan : SegmentPlan} {trace : List Bit} {levels : List Bool} {events : List Event} (node on : ℕ) →
    Run plan trace levels events → slice_get (firsts plan) node ≡ Some on → NodeRun plan node on trace
node_run node on no_bit e = record { size = omega arith; at = λ b late early. absurd (omega (arith, early)) }
node_run {plan = plan} node on (one_more {trace = trace} bit run is) e =
    let h = node_run node on run e in
    let acts = node_acts plan on node trace bit is e in
    let size = length-append trace (bit ∷ []) in
    elim (cases_lt (length trace) on) [
      | inl early ↦ (
          let same : past_of on node (trace ++ bit ∷ []) ≡ past_of on node trace =
          past_more on node trace bit
          ∙ ap (with_act (past_of on node trace)) (act_found bit.level bit.acts node None (acts.before early)) in
          record {
            size = omega (arith, ap (λ (p : Past). length p.pairs) same, h.size, size, early);
            at = λ b late before. absurd (omega (arith, late, before, size, early));
          })
      | inr late ↦ (
          let a = acts.from_there_on late in
          let more : (past_of on node (trace ++ bit ∷ [])).pairs ≡ (past_of on node trace).pairs
          ++ record { driven = a.act.driven; sampled = a.act.sampled } ∷ [] =
          ap (λ (p : Past). p.pairs)
          (past_more on node trace bit
          ∙ ap (with_act (past_of on node trace)) (act_found bit.level bit.acts node (Some a.act) a.here))
          ∙ act_pairs (past_of on node trace) a.act in
          record {
            size = omega (
              arith,
              ap length more,
              length-append (past_of on node trace).pairs
                  (record { driven = a.act.driven; sampled = a.act.sampled } ∷ []),
              h.size,
              size,
              late,
            );
            at = λ b from before. elim (cases_lt b (length trace)) [
              | inl earlier ↦ (let w = h.at b from earlier in record {
                bit = w.bit;
                act = w.act;
                bit_is = get_left trace (bit ∷ []) b w.bit w.bit_is;
                act_is = w.act_is;
                pair_is = ap (λ p. slice_get p (b - on)) more
                    ∙ get_left (past_of on node trace).pairs _ (b - on) _ w.pair_is;
                samples = w.samples;
                line = w.line;
              })
              | inr last ↦ (let now : b ≡ length trace = omega (arith, last, before, size) in record {
                bit = bit;
                act = a.act;
                bit_is = get_end trace bit b now;
                act_is = a.here;
                pair_is = ap (λ p. slice_get p (b - on)) more
                    ∙ get_end (past_of on node trace).pairs _ (b - on) (omega (arith, now, h.size));
                samples = a.samples ∙ ap (λ n. sampled_level plan.node_faults.items node n bit.level) (sym now);
                line = is.level_is ∙ ap (λ n. line_level plan.line_faults.items n (list_all drives bit.acts)) (sym now);
              })
            ];
          })
    ]

-- where no fault stands on the line it has the level that the nodes make
no_line_fault : (faults : List LineFault) (bit : ℕ) (made : Bool) →
    list_any (λ (fault : LineFault). stands fault.bit fault.until bit) faults ≡ false → line_level faults bit made ≡ made
no_line_fault [] bit made none = refl
no_line_fault (fault ∷ faults) bit made none =
    let here = or_false (stands fault.bit fault.until bit)
    (list_any (λ (f : LineFault). stands f.bit f.until bit) faults) none in
    ap (λ b. line_level faults bit (cond b fault.level made)) here.0 ∙ no_line_fault faults bit made here.1

-- and a node with no fault samples that of the line
no_node_fault : (faults : List NodeFault) (node bit : ℕ) (level : Bool) → is_inverted faults node bit ≡ false →
    sampled_level faults node bit level ≡ level
no_node_fault faults node bit level none = ap (λ b. cond b (not level) level) none

all_false : {X : Type 0} (p : X → Bool) (xs : List X) (k : ℕ) (x : X) → slice_get xs k ≡ Some x → p x ≡ false →
    list_all p xs ≡ false
all_false p [] k x e not_it = absurd (cc e)
all_false p (y ∷ xs) zero x e not_it = let same : p y ≡ false =
    ap p (same_found y x e) ∙ not_it in ap (λ b. b && list_all p xs) same
all_false p (y ∷ xs) (suc k) x e not_it = rw (all_false p xs k x e not_it) (and_false (p y))

-- what the node samples at a bit
sampled_at : (plan : SegmentPlan) (node on : ℕ) (trace : List Bit) (bit : ℕ) (x : Bool) → NodeRun plan node on trace →
    Samples (past_of on node trace) bit x → (a : Acting plan node on trace bit) × (x ≡ a.act.sampled)
sampled_at plan node on trace bit x h s =
    let first = first_from node (no_past on) trace in
    let within = slice_get_within (map (λ (pair : Pair). pair.sampled) (past_of on node trace).pairs) s.place x
    s.level_is in
    let a = h.at bit (omega (arith, s.bit_is, first))
    (omega (
      arith,
      s.bit_is,
      first,
      within,
      length-map {B = Bool} (past_of on node trace).pairs (λ (pair : Pair). pair.sampled),
      h.size,
    )) in
    let place : s.place ≡ bit - on = omega (arith, s.bit_is, first) in
    let found = sym (slice_get-map (λ (pair : Pair). pair.sampled) (past_of on node trace).pairs s.place)
    ∙ s.level_is in (
      a,
      option_same (λ (pair : Pair). pair.sampled) (slice_get (past_of on node trace).pairs s.place) _ x
          (ap (slice_get (past_of on node trace).pairs) place ∙ a.pair_is) found,
    )

-- and what it drives
driven_at : (plan : SegmentPlan) (node on : ℕ) (trace : List Bit) (bit : ℕ) (x : Bool) → NodeRun plan node on trace →
    Drives (past_of on node trace) bit x → (a : Acting plan node on trace bit) × (x ≡ a.act.driven)
driven_at plan node on trace bit x h s =
    let first = first_from node (no_past on) trace in
    let within = slice_get_within (map (λ (pair : Pair). pair.driven) (past_of on node trace).pairs) s.place x
    s.level_is in
    let a = h.at bit (omega (arith, s.bit_is, first))
    (omega (
      arith,
      s.bit_is,
      first,
      within,
      length-map {B = Bool} (past_of on node trace).pairs (λ (pair : Pair). pair.driven),
      h.size,
    )) in
    let place : s.place ≡ bit - on = omega (arith, s.bit_is, first) in
    let found = sym (slice_get-map (λ (pair : Pair). pair.driven) (past_of on node trace).pairs s.place)
    ∙ s.level_is in (
      a,
      option_same (λ (pair : Pair). pair.driven) (slice_get (past_of on node trace).pairs s.place) _ x
          (ap (slice_get (past_of on node trace).pairs) place ∙ a.pair_is) found,
    )

-- the level that a node samples which is not falsified
fair_level : (plan : SegmentPlan) (node on : ℕ) (trace : List Bit) (bit : ℕ) (a : Acting plan node on trace bit) →
    is_falsified plan node bit ≡ false → a.act.sampled ≡ list_all drives a.bit.acts
fair_level plan node on trace bit a fair =
    let parts = or_false (list_any (λ (fault : LineFault). stands fault.bit fault.until bit) plan.line_faults.items)
    (is_inverted plan.node_faults.items node bit) fair in
    a.samples ∙ no_node_fault plan.node_faults.items node bit a.bit.level parts.1 ∙ a.line
    ∙ no_line_fault plan.line_faults.items bit (list_all drives a.bit.acts) parts.0

-- two nodes of a run are on one line, where the plan's faults don't touch them
pub one_line : {plan : SegmentPlan} {trace : List Bit} {levels : List Bool} {events : List Event} (node other : ℕ)
    (sender receiver : Past) → Run plan trace levels events →
    IsPastOf plan trace node sender → IsPastOf plan trace other receiver →
    OnOneLine sender receiver (is_falsified plan node) (is_falsified plan other)
one_line {plan = plan} {trace = trace} node other sender receiver run s r =
    let hs = node_run node s.on run s.on_is in
    let hr = node_run other r.on run r.on_is in
    subst (λ p. OnOneLine p receiver (is_falsified plan node) (is_falsified plan other)) (sym s.past_is)
    (subst (λ p. OnOneLine (past_of s.on node trace) p (is_falsified plan node) (is_falsified plan other))
    (sym r.past_is) (record {
      ends = omega (
        arith,
        first_from node (no_past s.on) trace,
        first_from other (no_past r.on) trace,
        hs.size,
        hr.size,
        s.is_on,
        r.is_on,
      );
      equal = λ bit x y fair other_fair xs ys.
          let a = sampled_at plan node s.on trace bit x hs xs in
          let b = sampled_at plan other r.on trace bit y hr ys in
          let same : a.0.bit ≡ b.0.bit = same_found a.0.bit b.0.bit (sym a.0.bit_is ∙ b.0.bit_is) in
          a.1 ∙ fair_level plan node s.on trace bit a.0 fair ∙ ap (λ (w : Bit). list_all drives w.acts) same
          ∙ sym (fair_level plan other r.on trace bit b.0 other_fair) ∙ sym b.1;
      dominant = λ bit y other_fair ds ys.
          let a = driven_at plan node s.on trace bit false hs ds in
          let b = sampled_at plan other r.on trace bit y hr ys in
          let same : a.0.bit ≡ b.0.bit = same_found a.0.bit b.0.bit (sym a.0.bit_is ∙ b.0.bit_is) in
          b.1 ∙ fair_level plan other r.on trace bit b.0 other_fair
          ∙ sym (ap (λ (w : Bit). list_all drives w.acts) same)
          ∙ all_false drives a.0.bit.acts node (Some a.0.act) a.0.act_is (sym a.1);
    }))
