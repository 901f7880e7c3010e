-- A node that begins to send.
use Rattle.std.proofs.Common.{◌≡◌, ℕ, ◌+◌, Bool, true, false, List, [], ◌∷◌, ◌++◌, length, reverse, replicate, IsSome}
use Rattle.std.proofs.Common.{refl, sym, ap, subst, arith, ◌∙◌, length-append}
use Rattle.std.proofs.lemmas.List.{append-nil, reverse-append, reverse-reverse, length-map, length-replicate}
use Rattle.can_frame.specs.Frames.{FrameValue}
use Rattle.can_frame.specs.Fields.{senders_choice, fields}
use Rattle.can_frame.specs.Stuffing.{unstuffed}
use Rattle.can_frame.specs.Spelling.{Spells, tail_levels}
use Rattle.can_frame.proofs.Numbers.{head_same}
use Rattle.can_frame.proofs.OneStuffing.{grows}
use Rattle.can_frame.proofs.Spellings.{slot_stands_alone}
use Rattle.can_confinement.specs.declared.confinement.ErrorEvent.{ErrorEvent}
use Rattle.can_node.specs.declared.outcome.Outcome.TheVariants.{Nothing}
use Rattle.can_node.specs.declared.state.State.{State}
use Rattle.can_node.specs.declared.state.State.TheVariants.{Receiving, Transmitting}
use Rattle.can_frame.specs.declared.spelling.Spelling.{Spelling}
use Rattle.can_node.specs.declared.node.Node.{Node}
use Rattle.can_node.specs.Pairs.{Pair, listening, dominating, recessive}
use Rattle.can_node.specs.Sends.{IsSendBit}
use Rattle.can_frame.specs.Sending.{IsSpelling}
use Rattle.can_node.specs.Takes.{Reads}
use Rattle.can_node.specs.Takes.Reads.{no_slot, with_slot}
use Rattle.can_node.specs.Phases.{Phase, wants_start}
use Rattle.can_node.specs.Phases.Phase.{Send, Take}
use Rattle.can_node.specs.Episodes.{Episode, AreOn}
use Rattle.can_node.specs.Episodes.Episode.{begun, joined}
use Rattle.can_node.specs.Histories.{Past, IsOnOutside, with_episode}
use Rattle.can_node.specs.Histories.Whole.{then}
use Rattle.can_node.specs.Machine.{Agrees, Begins, InState, ReaderStands, may_start, sof_of}
use Rattle.can_node.specs.Machine.Agrees.{in_sync, in_idle, in_take, in_send, in_last, in_active, in_overload}
use Rattle.can_node.specs.Machine.Agrees.{in_passive, in_wait, in_delimiter, in_intermission, in_suspend, in_off}
use Rattle.can_node.specs.Node.{StandsAfter, with_begin}
use Rattle.can_confinement.specs.Confinement.{counts_after}
use Rattle.can_confinement.specs.Counters.{counts_of}
use Rattle.can_node.proofs.Bits.{same_past}

-- a text that is not empty
record Begun (text : List Bool) : Type 0 where
  pub first : Bool
  pub rest : List Bool
  pub is : text ≡ first ∷ rest

begun_at : (a r : List Bool) (x : Bool) → Begun (a ++ x ∷ r)
begun_at [] r x = record { first = x; rest = r; is = refl }
begun_at (y ∷ a) r x = record { first = y; rest = a ++ x ∷ r; is = refl }

one_unstuffed : (x : Bool) → unstuffed (x ∷ []) ≡ x ∷ []
unfolding unstuffed
one_unstuffed x = refl

stuffed_sof : (frame : FrameValue) (check w : List Bool) → unstuffed (reverse w)
    ≡ reverse (fields frame senders_choice ++ check) → (rest : List Bool) × (w ≡ false ∷ rest)
unfolding unstuffed
stuffed_sof frame check [] e =
    let t = fields frame senders_choice ++ check in
    absurd (omega (arith, ap length (sym (reverse-reverse t) ∙ ap reverse (sym e))))
stuffed_sof frame check (x ∷ w) e =
    let t = fields frame senders_choice ++ check in
    let g = grows (reverse w) (x ∷ []) in
    let back : reverse t ≡ g.by ++ x ∷ [] =
    sym e ∙ ap unstuffed (reverse-append (x ∷ []) w) ∙ g.is ∙ ap (λ r. g.by ++ r) (one_unstuffed x) in
    let first : t ≡ x ∷ reverse g.by = sym (reverse-reverse t) ∙ ap reverse back ∙ reverse-append g.by (x ∷ []) in
    (w, ap (λ b. b ∷ w) (head_same x false (reverse g.by) _ (sym first)))

-- the first bit of a sender, before which SOF may stand on the bus
record First (frame : FrameValue) (given : List Bool) : Type 0 where
  pub driven : Bool
  pub expected : Bool
  pub bit : IsSendBit frame given [] [] driven expected

first_idle : (frame : FrameValue) (spelling : Spelling) → IsSpelling frame spelling → First frame []
first_idle frame spelling k =
    let alone = slot_stands_alone frame senders_choice true false spelling.levels.items k.spells in
    let d = begun_at alone.0 (replicate 8 true) true in
    let s = begun_at alone.0 (replicate 8 true) false in
    record {
      driven = d.first;
      expected = s.first;
      bit = record {
        later = d.rest;
        later_seen = s.rest;
        send = record {
          drives = subst (Spells frame senders_choice true) (alone.1 ∙ d.is) k.spells;
          samples = subst (Spells frame senders_choice false) s.is alone.2;
        };
        same_place = refl;
      };
    }

joined_by : (frame : FrameValue) (head items rest : List Bool) → items ≡ head ++ true ∷ replicate 8 true →
    items ≡ false ∷ rest → Spells frame senders_choice true items →
    Spells frame senders_choice false (head ++ false ∷ replicate 8 true) → First frame (false ∷ [])
joined_by frame [] items rest is sof drives samples = let no_sof : false ≡ true =
    head_same false true rest (replicate 8 true) (sym sof ∙ is) in absurd (cc no_sof)
joined_by frame (h ∷ head) items rest is sof drives samples =
    let h_is : h ≡ false = head_same h false (head ++ true ∷ replicate 8 true) rest (sym is ∙ sof) in
    let d = begun_at head (replicate 8 true) true in
    let s = begun_at head (replicate 8 true) false in
    record {
      driven = d.first;
      expected = s.first;
      bit = record {
        later = d.rest;
        later_seen = s.rest;
        send = record {
          drives = subst (Spells frame senders_choice true) (is ∙ ap (λ b. b ∷ (head ++ true ∷ replicate 8 true)) h_is
              ∙ ap (λ t. false ∷ t) d.is) drives;
          samples = subst (Spells frame senders_choice false) (ap (λ b. b ∷ (head ++ false ∷ replicate 8 true)) h_is
              ∙ ap (λ t. false ∷ t) s.is) samples;
        };
        same_place = refl;
      };
    }

first_joined : (frame : FrameValue) (spelling : Spelling) → IsSpelling frame spelling → First frame (false ∷ [])
first_joined frame spelling k =
    let alone = slot_stands_alone frame senders_choice true false spelling.levels.items k.spells in
    let sof = stuffed_sof frame k.spells.check k.spells.stuffed k.spells.is_stuffed.rest in
    joined_by frame alone.0 spelling.levels.items (sof.0 ++ tail_levels true) alone.1
    (k.spells.whole ∙ ap (λ w. w ++ tail_levels true) sof.1) k.spells alone.2

-- a receiver that has read nothing yet
reads_none : {given levels : List Bool} {pairs : List Pair} {events : List ErrorEvent} →
    Reads given levels pairs events → pairs ≡ [] → (levels ≡ []) × (events ≡ [])
reads_none (no_slot [] never) e = (refl, refl)
reads_none (no_slot (x ∷ levels) never) e = absurd (omega (arith, ap length e))
reads_none (with_slot before more slot is) e =
    absurd (omega (
      arith,
      ap length e,
      length-append (listening before) (record { driven = false; sampled = slot } ∷ listening more),
      length-append (listening before ++ dominating (slot ∷ [])) (listening more),
      length-append (listening before) (dominating (slot ∷ [])),
    ))

no_pairs : (start : ℕ) (given : List Bool) (may_begin : Bool) (pairs : List Pair) →
    wants_start (Take start given may_begin) pairs ≡ true → (pairs ≡ []) × (may_begin ≡ true)
no_pairs start given may_begin [] e = (refl, e)
no_pairs start given may_begin (p ∷ pairs) e = absurd (cc e)

-- the episode ends before the next bit, and the node sends from there on
record Starts (next : State) (frame : FrameValue) (at : ℕ) (phase : Phase) (part : List Pair)
    (events : List ErrorEvent) : Type 0 where
  pub start : ℕ
  pub given : List Bool
  pub episode : (before : List ErrorEvent) → IsOnOutside phase (before ++ events) →
      Episode at before phase part events Nothing (Send start given frame)
  pub still_on : (before : List ErrorEvent) → IsOnOutside phase (before ++ events) → AreOn (before ++ events)
  pub place : ℕ
  pub next_is : next ≡ Transmitting start place
  pub agrees : (later : ℕ) → Agrees (Transmitting start place) given later (Send start given frame) [] []

begin_starts : {state : State} {text : List Bool} {at : ℕ} {phase : Phase} {part : List Pair} {events : List ErrorEvent}
    (next : State) (now : ℕ) (frame : FrameValue) (spelling : Spelling) →
    Agrees state text at phase part events → may_start state ≡ true → now ≡ at + length part →
    IsSpelling frame spelling → Begins state now next → Starts next frame at phase part events
begin_starts {at = at} next now frame spelling (in_idle n) may clock k begins =
    let first = first_idle frame spelling k in
    let here : now ≡ at + n = clock ∙ ap (λ m. at + m) (length-map (recessive n) _ ∙ length-replicate n true) in
    record {
      start = at + n;
      given = [];
      episode = λ before on. begun n frame k.is_frame (subst AreOn (append-nil before) on);
      still_on = λ before on. on;
      place = 0;
      next_is = begins ∙ ap (λ m. Transmitting m 0) here;
      agrees = λ later. in_send [] frame [] [] first.driven first.expected refl first.bit refl;
    }
begin_starts {text = text} {at = at} next now frame spelling
    (in_take {start = start} given levels may_begin pairs events is on goes wants sof place) may clock k begins =
    let none_yet = no_pairs start given may_begin pairs (sym wants ∙ may) in
    let nothing = reads_none goes none_yet.0 in
    let given_is : given ≡ false ∷ [] = sof none_yet.1 in
    let first : First frame given = subst (First frame) (sym given_is) (first_joined frame spelling k) in
    let text_is : text ≡ given = is ∙ ap (λ l. given ++ l) nothing.0 ∙ append-nil given in
    record {
      start = start;
      given = given;
      episode = λ before still. subst (λ p. Episode at before (Take start given may_begin) p events Nothing
          (Send start given frame)) (sym none_yet.0)
          (subst (λ es. Episode at before (Take start given may_begin) [] es Nothing (Send start given frame))
          (sym nothing.1)
          (subst (λ b. Episode at before (Take start given b) [] [] Nothing (Send start given frame)) (sym none_yet.1)
          (joined start given frame k.is_frame
          (subst AreOn (ap (λ es. before ++ es) nothing.1 ∙ append-nil before) still))));
      still_on = λ before still. still;
      place = 1;
      next_is = begins;
      agrees = λ later. in_send given frame [] [] first.driven first.expected (sym (append-nil given)) first.bit
          (omega (arith, ap length given_is));
    }
begin_starts next now frame spelling (in_sync broken b below) may clock k begins = absurd (cc may)
begin_starts next now frame spelling (in_send given frame_of before seen driven expected is bit place) may clock k
    begins = absurd (cc may)
begin_starts next now frame spelling in_last may clock k begins = absurd (cc may)
begin_starts next now frame spelling (in_active levels size below runs few) may clock k begins = absurd (cc may)
begin_starts next now frame spelling (in_overload levels size below runs few) may clock k begins = absurd (cc may)
begin_starts next now frame spelling (in_passive owed levels h) may clock k begins = absurd (cc may)
begin_starts next now frame spelling (in_wait run n is far due) may clock k begins = absurd (cc may)
begin_starts next now frame spelling (in_delimiter kind run n some below) may clock k begins = absurd (cc may)
begin_starts next now frame spelling (in_intermission below) may clock k begins = absurd (cc may)
begin_starts next now frame spelling (in_suspend below) may clock k begins = absurd (cc may)
begin_starts next now frame spelling (in_off rest broken below counted b short) may clock k begins = absurd (cc may)

pub begin_stands : (old new : Node) (frame : FrameValue) → may_start old.state ≡ true → IsSpelling frame new.spelling →
    Begins old.state old.clock new.state →
    new.counters ≡ old.counters → new.clock ≡ old.clock → (past : Past) → StandsAfter old past →
    StandsAfter new (with_begin past frame)
begin_stands old new frame may k begins counters_is clock_is past h =
    let st = h.in_state in
    let at = st.done.first + length st.done.pairs in
    let here : old.clock ≡ at + length st.part =
    omega (arith, h.clock_is, ap (λ p. p.first + length p.pairs) st.past_is, length-append st.done.pairs st.part) in
    let s = begin_starts new.state old.clock frame new.spelling st.agrees may here k begins in
    let done : Past = with_episode st.done st.phase st.part st.counting Nothing in
    let whole = then st.whole (s.episode st.done.events st.on) in
    record {
      text = s.given;
      in_state = subst (λ t. InState t new.spelling s.given (with_begin past frame)) (sym s.next_is) (record {
        done = done;
        phase = Send s.start s.given frame;
        part = [];
        counting = [];
        whole = whole;
        agrees = s.agrees _;
        holds = k;
        on = subst AreOn (sym (append-nil done.events)) (s.still_on st.done.events st.on);
        past_is = ap (λ p. with_begin p frame) st.past_is ∙
            same_past done.first _ _ _ _ _ _ _ _ (sym (append-nil done.pairs)) (sym (append-nil done.events)) refl
            (sym (append-nil done.outcomes));
      });
      reads = subst (λ t. ReaderStands t new.reader s.given) (sym s.next_is)
          (record { stands = λ is. absurd (cc is); reading = λ is. absurd (cc is) });
      clock_is = clock_is ∙ h.clock_is;
      counted = subst (λ c. counts_of c ≡ counts_after past.events) (sym counters_is) h.counted;
    }

pub begins_sending : (state next : State) (now : ℕ) → Begins state now next → IsSome (sof_of next)
begins_sending (Receiving start may stage) next now begins = subst (λ s. IsSome (sof_of s)) (sym begins) refl
begins_sending state next now begins = subst (λ s. IsSome (sof_of s)) (sym begins) refl
