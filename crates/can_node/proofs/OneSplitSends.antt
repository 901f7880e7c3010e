-- A frame that is sent: how a sender's pairs determine where its frame ends, and how.
use Rattle.std.proofs.Common.{◌≡◌, ℕ, Bool, true, false, List, [], ◌∷◌, ◌++◌, length, refl, sym, ap, subst, arith, ◌∙◌}
use Rattle.std.proofs.lemmas.List.{append_assoc, append-nil, append_cancel_left, map-append, length-append, length-map}
use Rattle.can_frame.specs.Frames.{FrameValue, IsFrameValue}
use Rattle.can_frame.specs.Fields.{senders_choice}
use Rattle.can_frame.proofs.Spellings.{one_spelling, one_frame}
use Rattle.can_confinement.specs.declared.confinement.Role.TheVariants.{Sender}
use Rattle.can_confinement.specs.declared.confinement.ErrorEvent.{ErrorEvent}
use Rattle.can_confinement.specs.declared.confinement.ErrorEvent.TheVariants.{SenderError, Sent}
use Rattle.can_node.specs.declared.outcome.ErrorKind.TheVariants.{Bit, Stuff, Ack}
use Rattle.can_node.specs.declared.outcome.Outcome.{Outcome}
use Rattle.can_node.specs.declared.outcome.Outcome.TheVariants.{Completed, Lost, Errored}
use Rattle.can_confinement.specs.Confinement.{state_after}
use Rattle.can_node.specs.Pairs.{Pair, driving}
use Rattle.can_node.specs.Sends.{IsSend, IsSendBit, IsArbitration, IsArbitrationStuffBit}
use Rattle.can_node.specs.Phases.{Phase, flag_of}
use Rattle.can_node.specs.Phases.Phase.{Send, Take, Intermission}
use Rattle.can_node.specs.Episodes.{Course, ack_events}
use Rattle.can_node.specs.Episodes.Course.{completed, lost, stuff_lost, unacknowledged, bit_differs}
use Rattle.can_node.specs.Copies.{sampled_in, driven_in}
use Rattle.can_node.proofs.Texts.{send_lengths, sampled_driving, sampled_append}
use Rattle.can_node.proofs.OneSplitLists.{driven_driving, last_same, HasLast, has_last}
use Rattle.can_node.proofs.OneSplitEvents.{SameEnd, same_end}

-- a frame is driven in one way and sampled in one way
record OneSend (driven others sampled samples : List Bool) : Type 0 where
  drives : driven ≡ others
  hears : sampled ≡ samples

one_send : (frame : FrameValue) (given driven others sampled samples : List Bool) → IsSend frame given driven sampled →
    IsSend frame given others samples → OneSend driven others sampled samples
one_send frame given driven others sampled samples h k = record {
  drives = append_cancel_left given driven others
      (one_spelling frame senders_choice true (given ++ driven) (given ++ others) h.drives k.drives);
  hears = append_cancel_left given sampled samples
      (one_spelling frame senders_choice false (given ++ sampled) (given ++ samples) h.samples k.samples);
}

head_is : (x y : Bool) (xs ys : List Bool) → x ∷ xs ≡ y ∷ ys → x ≡ y
head_is x y xs ys e = cc e

-- the level behind a beginning of a text
level_behind : (before later rest whole : List Bool) (level other : Bool) → before ++ level ∷ later ≡ whole →
    whole ≡ before ++ other ∷ rest → other ≡ level
level_behind before later rest whole level other e h =
    sym (head_is level other later rest (append_cancel_left before (level ∷ later) (other ∷ rest) (e ∙ h)))

driven_append : (p q : List Pair) → driven_in (p ++ q) ≡ driven_in p ++ driven_in q
driven_append p q = map-append (λ (pair : Pair). pair.driven) p q

-- what a longer list of a sender's pairs has behind a shorter one
record Longer (driven seen others samples : List Bool) (pair : Pair) (r : List Pair) : Type 0 where
  drives : others ≡ driven ++ pair.driven ∷ driven_in r
  hears : samples ≡ seen ++ pair.sampled ∷ sampled_in r

longer : (driven seen others samples : List Bool) (pair : Pair) (r : List Pair) → length driven ≡ length seen →
    length others ≡ length samples → driving others samples ≡ driving driven seen ++ pair ∷ r →
    Longer driven seen others samples pair r
longer driven seen others samples pair r size long e = record {
  drives = sym (driven_driving others samples long) ∙ ap driven_in e ∙ driven_append (driving driven seen) (pair ∷ r)
      ∙ ap (λ t. t ++ pair.driven ∷ driven_in r) (driven_driving driven seen size);
  hears = sym (sampled_driving others samples long) ∙ ap sampled_in e
      ∙ sampled_append (driving driven seen) (pair ∷ r)
      ∙ ap (λ t. t ++ pair.sampled ∷ sampled_in r) (sampled_driving driven seen size);
}

-- The bit behind these is the one that is reported here, where a longer part of the frame was sent without an error.
record IsExpected (pair : Pair) (driven expected : Bool) : Type 0 where
  drives : pair.driven ≡ driven
  hears : pair.sampled ≡ expected

expected_in : (frame : FrameValue) (given before seen others samples later heard : List Bool) (driven expected : Bool)
    (pair : Pair) (r : List Pair) → IsSendBit frame given before seen driven expected →
    IsSend frame given (others ++ later) (samples ++ heard) → length others ≡ length samples →
    driving others samples ≡ driving before seen ++ pair ∷ r → IsExpected pair driven expected
expected_in frame given before seen others samples later heard driven expected pair r bit send long e =
    let l = longer before seen others samples pair r bit.same_place long e in
    let one = one_send frame given _ _ _ _ bit.send send in record {
      drives = level_behind before bit.later (driven_in r ++ later) (others ++ later) driven pair.driven one.drives
          (ap (λ t. t ++ later) l.drives ∙ append_assoc before (pair.driven ∷ driven_in r) later);
      hears =
          level_behind seen bit.later_seen (sampled_in r ++ heard) (samples ++ heard) expected pair.sampled one.hears
          (ap (λ t. t ++ heard) l.hears ∙ append_assoc seen (pair.sampled ∷ sampled_in r) heard);
    }

-- A send that a bit ends which is not the expected one: what it drove and heard before, the level that it drives and
-- the one that it expects, and those that it drove and sampled.
pub data Stopped (before : List ErrorEvent) (start : ℕ) (given : List Bool) (frame : FrameValue) :
    (driven seen : List Bool) (drives expects : Bool) → Pair → List ErrorEvent → Outcome → Phase → Type 0 where
  was_lost : {driven seen : List Bool} → IsArbitration frame (given ++ driven) →
      Stopped before start given frame driven seen true true (record { driven = true; sampled = false }) [] Lost
      (Take start (given ++ seen ++ false ∷ []) false)
  was_stuffed : {driven seen : List Bool} → IsArbitrationStuffBit frame (given ++ driven) →
      Stopped before start given frame driven seen true true (record { driven = true; sampled = false }) []
      (Errored Stuff) (flag_of (state_after before) [] Sender)
  was_unacknowledged : {driven seen : List Bool} →
      Stopped before start given frame driven seen true false (record { driven = true; sampled = true })
      (ack_events (state_after before)) (Errored Ack) (flag_of (state_after before) (SenderError ∷ []) Sender)
  was_recessive : {driven seen : List Bool} → (IsArbitration frame (given ++ driven) → ⊥) →
      (IsArbitrationStuffBit frame (given ++ driven) → ⊥) →
      Stopped before start given frame driven seen true true (record { driven = true; sampled = false })
      (SenderError ∷ []) (Errored Bit) (flag_of (state_after before) [] Sender)
  was_dominant : {driven seen : List Bool} →
      Stopped before start given frame driven seen false false (record { driven = false; sampled = true })
      (SenderError ∷ []) (Errored Bit) (flag_of (state_after before) [] Sender)

pub data SendEnd (before : List ErrorEvent) (start : ℕ) (given : List Bool) (frame : FrameValue) :
    List Pair → List ErrorEvent → Outcome → Phase → Type 0 where
  all_sent : (driven sampled : List Bool) → IsSend frame given driven sampled →
      SendEnd before start given frame (driving driven sampled) (Sent ∷ []) Completed (Intermission Sender)
  stopped : (driven seen : List Bool) (drives expects : Bool) (pair : Pair) {events : List ErrorEvent}
      {outcome : Outcome} {next : Phase} → IsSendBit frame given driven seen drives expects →
      Stopped before start given frame driven seen drives expects pair events outcome next →
      SendEnd before start given frame (driving driven seen ++ pair ∷ []) events outcome next

pub send_end : {at start : ℕ} {before : List ErrorEvent} {given : List Bool} {frame : FrameValue} {pairs : List Pair}
    {events : List ErrorEvent} {outcome : Outcome} {next : Phase} →
    Course at before (Send start given frame) pairs events outcome next →
    SendEnd before start given frame pairs events outcome next
send_end (completed start given frame driven sampled send) = all_sent driven sampled send
send_end (lost start given frame driven seen bit place) = stopped driven seen true true _ bit (was_lost place)
send_end (stuff_lost start given frame driven seen bit place) = stopped driven seen true true _ bit (was_stuffed place)
send_end (unacknowledged start given frame driven seen bit) = stopped driven seen true false _ bit was_unacknowledged
send_end (bit_differs start given frame driven seen true bit no_loss no_stuff) =
    stopped driven seen true true _ bit (was_recessive (no_loss refl) (no_stuff refl))
send_end (bit_differs start given frame driven seen false bit no_loss no_stuff) =
    stopped driven seen false false _ bit was_dominant

-- that bit is not the expected one
not_expected : {before : List ErrorEvent} {start : ℕ} {given driven seen : List Bool} {frame : FrameValue}
    {drives expects : Bool} {pair : Pair} {events : List ErrorEvent} {outcome : Outcome} {next : Phase} →
    Stopped before start given frame driven seen drives expects pair events outcome next →
    IsExpected pair drives expects → ⊥
not_expected (was_lost place) h = let e = h.hears in cc e
not_expected (was_stuffed place) h = let e = h.hears in cc e
not_expected was_unacknowledged h = let e = h.hears in cc e
not_expected (was_recessive no_loss no_stuff) h = let e = h.hears in cc e
not_expected was_dominant h = let e = h.hears in cc e

not_both : (frame : FrameValue) (text : List Bool) → IsArbitration frame text → IsArbitrationStuffBit frame text → ⊥
not_both frame text h k = let e = h.no_stuff_bit in let f = k.stuff_bit in cc (e, f)

stopped_same : {before : List ErrorEvent} {start : ℕ} {given driven seen : List Bool} {frame : FrameValue}
    {drives expects : Bool} {pair : Pair} {events counted : List ErrorEvent} {outcome reported : Outcome}
    {next other : Phase} →
    Stopped before start given frame driven seen drives expects pair events outcome next →
    Stopped before start given frame driven seen drives expects pair counted reported other →
    SameEnd events counted outcome reported next other
stopped_same (was_lost place) (was_lost here) = same_end
stopped_same (was_lost place) (was_stuffed here) = absurd (not_both _ _ place here)
stopped_same (was_lost place) (was_recessive no_loss no_stuff) = absurd (no_loss place)
stopped_same (was_stuffed place) (was_lost here) = absurd (not_both _ _ here place)
stopped_same (was_stuffed place) (was_stuffed here) = same_end
stopped_same (was_stuffed place) (was_recessive no_loss no_stuff) = absurd (no_stuff place)
stopped_same was_unacknowledged was_unacknowledged = same_end
stopped_same (was_recessive no_loss no_stuff) (was_lost here) = absurd (no_loss here)
stopped_same (was_recessive no_loss no_stuff) (was_stuffed here) = absurd (no_stuff here)
stopped_same (was_recessive no_loss no_stuff) (was_recessive not_lost not_stuffed) = same_end
stopped_same was_dominant was_dominant = same_end

length_driving : (driven seen : List Bool) → length driven ≡ length seen →
    length (driving driven seen) ≡ length driven
length_driving driven seen e =
    sym (length-map {B = Bool} (driving driven seen) (λ (pair : Pair). pair.driven))
    ∙ ap length (driven_driving driven seen e)

-- what ends a send is no part of one that goes on
pub send_over : {before : List ErrorEvent} {start : ℕ} {given others samples : List Bool} {frame : FrameValue}
    {pairs : List Pair} {events : List ErrorEvent} {outcome : Outcome} {next : Phase} {drives expects : Bool}
    (r : List Pair) → SendEnd before start given frame pairs events outcome next →
    IsSendBit frame given others samples drives expects → driving others samples ≡ pairs ++ r → ⊥
send_over {given = given} {others = others} {samples = samples} {frame = frame} {drives = drives} r
    (all_sent driven sampled send) bit e =
    let one = one_send frame given _ _ _ _ send bit.send in
    omega (
      arith,
      ap length e,
      length-append (driving driven sampled) r,
      length_driving driven sampled (send_lengths frame given driven sampled send),
      length_driving others samples bit.same_place,
      ap length one.drives,
      length-append others (drives ∷ bit.later),
    )
send_over {given = given} {others = others} {samples = samples} {frame = frame} r
    (stopped driven seen d x pair here stop) bit e =
    not_expected stop (expected_in frame given driven seen others samples _ _ d x pair r here bit.send bit.same_place
    (e ∙ append_assoc (driving driven seen) (pair ∷ []) r))

-- equal pairs end a send in one way
pub send_same : {before : List ErrorEvent} {start : ℕ} {given : List Bool} {frame : FrameValue}
    {pairs more : List Pair} {events counted : List ErrorEvent} {outcome reported : Outcome} {next other : Phase} →
    SendEnd before start given frame pairs events outcome next →
    SendEnd before start given frame more counted reported other → more ≡ pairs →
    SameEnd events counted outcome reported next other
send_same (all_sent driven sampled send) (all_sent others samples again) e = same_end
send_same {given = given} {frame = frame} (all_sent driven sampled send) (stopped others seen d x pair here stop) e =
    absurd (not_expected stop (expected_in frame given others seen driven sampled [] [] d x pair [] here
    (whole frame given driven sampled send) (send_lengths frame given driven sampled send) (sym e)))
  where
    whole : (frame : FrameValue) (given driven sampled : List Bool) → IsSend frame given driven sampled →
        IsSend frame given (driven ++ []) (sampled ++ [])
    whole frame given driven sampled send =
        subst (λ t. IsSend frame given t (sampled ++ [])) (sym (append-nil driven))
        (subst (λ t. IsSend frame given driven t) (sym (append-nil sampled)) send)
send_same {given = given} {frame = frame} (stopped others seen d x pair here stop) (all_sent driven sampled send) e =
    absurd (not_expected stop (expected_in frame given others seen driven sampled [] [] d x pair [] here
    (subst (λ t. IsSend frame given t (sampled ++ [])) (sym (append-nil driven))
    (subst (λ t. IsSend frame given driven t) (sym (append-nil sampled)) send))
    (send_lengths frame given driven sampled send) e))
send_same {before = before} {start = start} {given = given} {frame = frame} {counted = counted} {reported = reported}
    {other = other} (stopped driven seen d x pair here stop) (stopped others samples c y last there halt) e =
    let parts = last_same (driving others samples) (driving driven seen) last pair e in
    let drives : others ≡ driven =
    sym (driven_driving others samples there.same_place) ∙ ap driven_in parts.0
    ∙ driven_driving driven seen here.same_place in
    let hears : samples ≡ seen =
    sym (sampled_driving others samples there.same_place) ∙ ap sampled_in parts.0
    ∙ sampled_driving driven seen here.same_place in
    let one = one_send frame given _ _ _ _ there.send here.send in
    let level : d ≡ c = level_behind others there.later here.later _ c d one.drives
    (ap (λ t. t ++ d ∷ here.later) (sym drives)) in
    let expect : x ≡ y = level_behind samples there.later_seen here.later_seen _ y x one.hears
    (ap (λ t. t ++ x ∷ here.later_seen) (sym hears)) in
    stopped_same stop
    (subst (λ p. Stopped before start given frame driven seen d x p counted reported other) parts.1
    (subst (λ b. Stopped before start given frame driven seen d b last counted reported other) (sym expect)
    (subst (λ b. Stopped before start given frame driven seen b y last counted reported other) (sym level)
    (subst (λ s. Stopped before start given frame driven s c y last counted reported other) hears
    (subst (λ t. Stopped before start given frame t samples c y last counted reported other) drives halt)))))

-- A frame that is sent whole has a last bit.
pub record LastOfSend (frame : FrameValue) (given driven sampled : List Bool) : Type 0 where
  pub before : List Bool
  pub seen : List Bool
  pub drives : Bool
  pub expects : Bool
  pub bit : IsSendBit frame given before seen drives expects
  pub is : driving driven sampled ≡ driving before seen ++ record { driven = drives; sampled = expects } ∷ []

driving_last : (ds ls : List Bool) (d l : Bool) → length ds ≡ length ls →
    driving (ds ++ d ∷ []) (ls ++ l ∷ []) ≡ driving ds ls ++ record { driven = d; sampled = l } ∷ []
driving_last [] [] d l e = refl
driving_last [] (y ∷ ls) d l e = absurd (omega (arith, e))
driving_last (x ∷ ds) [] d l e = absurd (omega (arith, e))
driving_last (x ∷ ds) (y ∷ ls) d l e =
    ap (λ t. record { driven = x; sampled = y } ∷ t) (driving_last ds ls d l (omega (arith, e)))

last_bit_of : (frame : FrameValue) (given driven sampled : List Bool) → IsSend frame given driven sampled →
    HasLast driven → HasLast sampled → LastOfSend frame given driven sampled
last_bit_of frame given driven sampled send d s =
    let size : length d.before ≡ length s.before =
    omega (
      arith,
      send_lengths frame given driven sampled send,
      ap length d.is,
      ap length s.is,
      length-append d.before (d.last ∷ []),
      length-append s.before (s.last ∷ []),
    ) in record {
      before = d.before;
      seen = s.before;
      drives = d.last;
      expects = s.last;
      bit = record {
        later = [];
        later_seen = [];
        send = subst (λ t. IsSend frame given t (s.before ++ s.last ∷ [])) d.is
            (subst (λ t. IsSend frame given driven t) s.is send);
        same_place = size;
      };
      is = ap (λ t. driving t sampled) d.is ∙ ap (driving (d.before ++ d.last ∷ [])) s.is
          ∙ driving_last d.before s.before d.last s.last size;
    }

pub last_of_send : (frame : FrameValue) (given driven sampled : List Bool) → IsFrameValue frame →
    IsSend frame given driven sampled → LastOfSend frame given driven sampled
last_of_send frame given [] [] is send =
    let both = one_frame frame frame senders_choice senders_choice true false (given ++ []) is is (omega arith)
    (omega arith) send.drives send.samples in
    absurd (cc both.1)
last_of_send frame given [] (s ∷ sampled) is send =
    absurd (omega (arith, send_lengths frame given [] (s ∷ sampled) send))
last_of_send frame given (d ∷ driven) [] is send =
    absurd (omega (arith, send_lengths frame given (d ∷ driven) [] send))
last_of_send frame given (d ∷ driven) (s ∷ sampled) is send =
    last_bit_of frame given (d ∷ driven) (s ∷ sampled) send (has_last d driven) (has_last s sampled)
