-- The branches of a frame that is read: what the reader's answer makes of the state.
use Rattle.std.proofs.Common.{◌≡◌, ℕ, ◌+◌, Bool, true, false, not, Some, None, List, [], ◌∷◌, ◌++◌, refl, sym, ap}
use Rattle.std.proofs.Common.{subst, ◌∙◌, arith, append_assoc}
use Rattle.std.proofs.lemmas.List.{append-nil}
use Rattle.can_frame.specs.Frames.{FrameValue}
use Rattle.can_frame.specs.Fronts.{BeginsRough, IsFront}
use Rattle.can_frame.specs.Answers.{FaultAnswers}
use Rattle.can_frame.specs.Reading.{StandsAfter, IsReading, InTail}
use Rattle.can_frame.specs.declared.reader.Reader.{Reader}
use Rattle.can_frame.specs.declared.step.FaultKind.{FaultKind}
use Rattle.can_frame.specs.declared.step.Step.TheVariants as answer
use Rattle.can_frame.proofs.ReaderLaws.{reading_is_undecided}
use Rattle.can_frame.proofs.Tails.{begins_rough, next_slot}
use Rattle.can_frame.proofs.Undecided.{part_rough}
use Rattle.can_confinement.specs.declared.confinement.Role.TheVariants.{Receiver}
use Rattle.can_confinement.specs.declared.confinement.ErrorEvent.{ErrorEvent}
use Rattle.can_confinement.specs.declared.confinement.ErrorEvent.TheVariants.{ReceiverError, Received}
use Rattle.can_confinement.specs.declared.confinement.ErrorState.{ErrorState}
use Rattle.can_node.specs.declared.outcome.Outcome.TheVariants.{Took, Errored}
use Rattle.can_node.specs.declared.state.State.{State}
use Rattle.can_node.specs.declared.state.State.TheVariants.{Receiving, LastEofBit}
use Rattle.can_node.specs.declared.state.Stage.{Stage}
use Rattle.can_node.specs.declared.state.Stage.TheVariants.{Region, AfterRegion, Slot, AfterSlot}
use Rattle.can_confinement.specs.Confinement.{state_after}
use Rattle.can_node.specs.Pairs.{Pair}
use Rattle.can_node.specs.Takes.{IsReadOn, IsBeforeSlot, Reads, acknowledged, name_of}
use Rattle.can_node.specs.Phases.{Phase, flag_of, wants_start}
use Rattle.can_node.specs.Phases.Phase.{Take, LastBit}
use Rattle.can_node.specs.Episodes.Course.{took, spoiled}
use Rattle.can_node.specs.Machine.{Agrees, IsAt, is_own_slot, pair_of, GoesReading}
use Rattle.can_node.specs.Machine.Agrees.{in_take, in_last}
use Rattle.can_node.specs.Machine.Lands.{goes_on, is_over}
use Rattle.can_node.proofs.Readers.{flag_reads_nothing}
use Rattle.can_node.proofs.Moves.{transition}
use Rattle.can_node.proofs.Places.{body_tail, elsewhere, own_slot, uneventful, part_no_slot, body_no_slot}
use Rattle.can_node.proofs.Places.{front_no_slot}
use Rattle.can_node.proofs.Places.{slot_fault, reads_more, reads_slot, region_tail, delimiter_tail, slot_dominant}
use Rattle.can_node.proofs.Places.{later_tail}

-- behind a bit of the frame the node may not begin in its place
no_start : (start : ℕ) (given : List Bool) (may : Bool) (pairs : List Pair) (pair : Pair) →
    wants_start (Take start given may) (pairs ++ pair ∷ []) ≡ false
no_start start given may [] pair = refl
no_start start given may (first ∷ pairs) pair = refl

-- where the reader is still reading, a text with which frames begin is read on
read_on : (reader : Reader) (text : List Bool) → StandsAfter reader text → IsReading reader → BeginsRough text →
    IsReadOn text
read_on reader text stands reading begins =
    record { begins = begins; undecided = reading_is_undecided reader text stands reading }

-- the frame goes on with a level that is not that of an own ACK slot
on_uneventful : {start at : ℕ} {may : Bool} {stage next : Stage} {text : List Bool} {phase : Phase} {part : List Pair}
    {events : List ErrorEvent} (level : Bool) →
    Agrees (Receiving start may stage) text at phase part events → (IsBeforeSlot text → ⊥) →
    IsReadOn (text ++ level ∷ []) → IsAt next (text ++ level ∷ []) →
    Agrees (Receiving start false next) (text ++ level ∷ []) at phase (part ++ pair_of (Receiving start may stage) level
    ∷ [])
    events
on_uneventful {start = start} {at = at} {stage = stage} {next = next} {text = text} level
    (in_take given levels may_begin pairs events is on reads may sof place) never new_on new_place =
    subst (λ b. Agrees (Receiving start false next) (text ++ level ∷ []) at (Take start given may_begin)
    (pairs ++ record { driven = not b; sampled = level } ∷ []) events) (sym (uneventful stage text place never))
    (in_take given (levels ++ level ∷ []) may_begin (pairs ++ record { driven = true; sampled = level } ∷ []) events
    (ap (λ t. t ++ level ∷ []) is ∙ append_assoc given levels (level ∷ [])) new_on
    (reads_more level reads (λ slot. never (subst IsBeforeSlot (sym is) slot)))
    (sym (no_start start given may_begin pairs (record { driven = true; sampled = level }))) sof new_place)

-- it goes on with that of the own ACK slot
on_slot : {start at : ℕ} {may : Bool} {next : Stage} {text : List Bool} {phase : Phase} {part : List Pair}
    {events : List ErrorEvent} (level : Bool) →
    Agrees (Receiving start may (Slot true)) text at phase part events → IsBeforeSlot text →
    IsReadOn (text ++ level ∷ []) → IsAt next (text ++ level ∷ []) →
    Agrees (Receiving start false next) (text ++ level ∷ []) at phase (part
    ++ record { driven = false; sampled = level } ∷ []) (events ++ acknowledged level)
on_slot {start = start} level (in_take given levels may_begin pairs events is on reads may sof place) slot new_on
    new_place =
    in_take given (levels ++ level ∷ []) may_begin (pairs ++ record { driven = false; sampled = level } ∷ [])
    (events ++ acknowledged level) (ap (λ t. t ++ level ∷ []) is ∙ append_assoc given levels (level ∷ [])) new_on
    (reads_slot level reads (subst IsBeforeSlot is slot))
    (sym (no_start start given may_begin pairs (record { driven = false; sampled = level }))) sof new_place

place_of : {start at : ℕ} {may : Bool} {stage : Stage} {text : List Bool} {phase : Phase} {part : List Pair}
    {events : List ErrorEvent} → Agrees (Receiving start may stage) text at phase part events → IsAt stage text
place_of (in_take given levels may_begin pairs events is on reads may sof place) = place

pub take_more : (start : ℕ) (may : Bool) (stage : Stage) (e : ErrorState) (level : Bool) →
    GoesReading (Receiving start may stage) e answer.More level (transition (Receiving start false Region) None)
take_more start may stage e level reader text at before phase part events err agrees h = (
  goes_on
      (rw append-nil (on_uneventful level agrees (part_no_slot text level h.answer.0)
      (read_on reader _ h.stands h.leaves (part_rough _ h.answer.0)) h.answer.0)) refl,
  λ is. h.leaves,
)

pub take_stuff : (start : ℕ) (may : Bool) (stage : Stage) (e : ErrorState) (level : Bool) →
    GoesReading (Receiving start may stage) e answer.StuffBit level (transition (Receiving start false Region) None)
take_stuff start may stage e level reader text at before phase part events err agrees h = (
  goes_on
      (rw append-nil (on_uneventful level agrees (part_no_slot text level h.answer.0)
      (read_on reader _ h.stands h.leaves (part_rough _ h.answer.0)) h.answer.0)) refl,
  λ is. h.leaves,
)

pub take_body : (start : ℕ) (may : Bool) (stage : Stage) (e : ErrorState) (level : Bool) (f : FrameValue)
    (right : Bool) →
    GoesReading (Receiving start may stage) e (answer.Body f right) level
    (transition (Receiving start false (AfterRegion right)) None)
take_body start may stage e level f right reader text at before phase part events err agrees h =
    let tail : InTail f right 0 (text ++ level ∷ []) = body_tail f right (text ++ level ∷ []) h.answer in (
      goes_on
          (rw append-nil (on_uneventful {next = AfterRegion right} level agrees (body_no_slot f right text level
          h.answer)
          (read_on reader _ h.stands h.leaves (begins_rough f right 0 _ tail)) (f, tail))) refl,
      λ is. h.leaves,
    )

pub tail_delimiter : (start : ℕ) (may right : Bool) (e : ErrorState) (level : Bool) →
    GoesReading (Receiving start may (AfterRegion right)) e answer.Tail level (transition (Receiving start false (Slot
    right)) None)
tail_delimiter start may right e level reader text at before phase part events err agrees h =
    let old = place_of agrees in (
      goes_on
          (rw append-nil (on_uneventful {next = Slot right} level agrees (elsewhere (AfterRegion right) text old refl)
          (read_on reader _ h.stands h.leaves h.answer.begins)
          (old.0, delimiter_tail old.0 right text level old.1 h.answer))) refl,
      λ is. h.leaves,
    )

pub tail_own_slot : (start : ℕ) (may : Bool) (e : ErrorState) (level : Bool) →
    GoesReading (Receiving start may (Slot true)) e answer.Tail level (transition (Receiving start false AfterSlot)
    (Some Received))
tail_own_slot start may e level reader text at before phase part events err agrees h =
    let old = place_of agrees in
    let low : level ≡ false = slot_dominant old.0 text level old.1 h.answer in
    let counts : acknowledged level ≡ Received ∷ [] = ap acknowledged low in (
      goes_on
          (rw (← counts) (on_slot {next = AfterSlot} level agrees (own_slot (Slot true) text old refl)
          (read_on reader _ h.stands h.leaves h.answer.begins)
          (old.0, true, 2, omega arith, next_slot old.0 true 1 text level old.1 refl (λ right. low)))) refl,
      λ is. h.leaves,
    )

pub tail_slot_on : (start : ℕ) (may : Bool) (e : ErrorState) (level : Bool) →
    GoesReading (Receiving start may (Slot false)) e answer.Tail level (transition (Receiving start false AfterSlot)
    None)
tail_slot_on start may e level reader text at before phase part events err agrees h =
    let old = place_of agrees in (
      goes_on
          (rw append-nil (on_uneventful {next = AfterSlot} level agrees (elsewhere (Slot false) text old refl)
          (read_on reader _ h.stands h.leaves h.answer.begins)
          (old.0, false, 2, omega arith, next_slot old.0 false 1 text level old.1 refl (λ right. absurd (cc right)))))
          refl,
      λ is. h.leaves,
    )

pub tail_later : (start : ℕ) (may : Bool) (e : ErrorState) (level : Bool) →
    GoesReading (Receiving start may AfterSlot) e answer.Tail level (transition (Receiving start false AfterSlot) None)
tail_later start may e level reader text at before phase part events err agrees h =
    let old = place_of agrees in (
      goes_on
          (rw append-nil (on_uneventful {next = AfterSlot} level agrees (elsewhere AfterSlot text old refl)
          (read_on reader _ h.stands h.leaves h.answer.begins) (
            old.0,
            old.1,
            old.2 + 1,
            omega (arith, old.3),
            later_tail old.0 old.1 old.2 text level old.3 old.4 h.answer,
          ))) refl,
      λ is. h.leaves,
    )

pub tail_never : (start : ℕ) (may : Bool) (e : ErrorState) (level : Bool) →
    GoesReading (Receiving start may Region) e answer.Tail level (transition (Receiving start false AfterSlot) None)
tail_never start may e level reader text at before phase part events err agrees h =
    absurd (region_tail text level (place_of agrees) h.answer)

pub take_taken : (start : ℕ) (may : Bool) (stage : Stage) (e : ErrorState) (level : Bool) (f : FrameValue) →
    GoesReading (Receiving start may stage) e (answer.Taken f) level
    (record { state = LastEofBit; event = None; outcome = Took start f })
take_taken start may stage e level f reader text at before phase part events err
    (in_take given levels may_begin pairs counted is on reads wants sof place) h =
    let never = front_no_slot f text level h.answer in
    let whole : text ++ level ∷ [] ≡ given ++ (levels ++ level ∷ []) =
    ap (λ t. t ++ level ∷ []) is ∙ append_assoc given levels (level ∷ []) in (
      is_over LastBit (rw (append-nil, uneventful stage text place never)
          (took start given may_begin (levels ++ level ∷ []) (pairs ++ record { driven = true; sampled = level } ∷ [])
          counted f
          (reads_more level reads (λ slot. never (subst IsBeforeSlot (sym is) slot)))
          (subst (IsFront f) whole h.answer))) (λ later. in_last),
      λ is. absurd (cc is),
    )

-- what the receiver has read and counted with the level of a fault
fault_reads : (kind : FaultKind) (given levels text : List Bool) (pairs : List Pair) (events : List ErrorEvent)
    (stage : Stage) (level b : Bool) → is_own_slot stage ≡ b → text ≡ given ++ levels →
    Reads given levels pairs events → IsAt stage text → (IsBeforeSlot text → level ≡ true) →
    Reads given (levels ++ level ∷ []) (pairs ++ record { driven = not b; sampled = level } ∷ []) events
fault_reads kind given levels text pairs events stage level false is e reads place high =
    reads_more level reads (λ slot. elsewhere stage text place is (subst IsBeforeSlot (sym e) slot))
fault_reads kind given levels text pairs events stage level true is e reads place high =
    let slot = own_slot stage text place is in
    let counts : events ++ acknowledged level ≡ events =
    ap (λ l. events ++ acknowledged l) (high slot) ∙ append-nil events in
    subst (Reads given (levels ++ level ∷ []) (pairs ++ record { driven = false; sampled = level } ∷ [])) counts
    (reads_slot level reads (subst IsBeforeSlot e slot))

pub take_fault : (start : ℕ) (may : Bool) (stage : Stage) (e : ErrorState) (level : Bool) (kind : FaultKind)
    (flag : State) →
    ((text : List Bool) (later : ℕ) → Agrees flag text later (flag_of e [] Receiver) [] []) →
    GoesReading (Receiving start may stage) e (answer.Fault kind) level
    (record { state = flag; event = Some ReceiverError; outcome = Errored (name_of kind) })
take_fault start may stage e level kind flag begins reader text at before phase part events err
    (in_take given levels may_begin pairs counted is on reads wants sof place) h = (
      is_over (flag_of (state_after (before ++ counted)) [] Receiver)
          (spoiled start given may_begin levels level (pairs ++ pair_of (Receiving start may stage) level ∷ []) counted
          kind
          (fault_reads kind given levels text pairs counted stage level (is_own_slot stage) refl is reads place
          (slot_fault kind text level h.answer))
          (record { read_on = subst IsReadOn is on; fault_is = subst (λ t. FaultAnswers kind t level) is h.answer }))
          (λ later. subst (λ s. Agrees flag (text ++ level ∷ []) later (flag_of s [] Receiver) [] []) err
          (begins (text ++ level ∷ []) later)),
      λ is. absurd (cc (is, flag_reads_nothing e [] Receiver flag begins)),
    )
