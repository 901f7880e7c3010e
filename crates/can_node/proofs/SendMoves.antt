-- One lemma for each branch of a sender's bit.
use Rattle.std.proofs.Common.{◌≡◌, ℕ, ◌+◌, ◌≤◌, ◌<◌, min, Bool, true, false, not, Some, None, List, [], ◌∷◌, ◌++◌}
use Rattle.std.proofs.Common.{length, reverse, take, refl, sym, ap, subst, arith, ◌∙◌, append_assoc, length-append}
use Rattle.std.proofs.Math.Bool.{beq}
use Rattle.std.proofs.lemmas.List.{append-nil}
use Rattle.can_frame.specs.Frames.{FrameValue}
use Rattle.can_frame.specs.Fields.{senders_choice}
use Rattle.can_frame.specs.Spelling.{Spells}
use Rattle.can_frame.specs.Stuffing.{unstuffed}
use Rattle.can_frame.specs.Reading.{Inside}
use Rattle.can_confinement.specs.declared.confinement.Role.TheVariants.{Sender}
use Rattle.can_confinement.specs.declared.confinement.ErrorEvent.{ErrorEvent}
use Rattle.can_confinement.specs.declared.confinement.ErrorEvent.TheVariants.{SenderError, Sent}
use Rattle.can_confinement.specs.declared.confinement.ErrorState.{ErrorState}
use Rattle.can_node.specs.declared.outcome.ErrorKind.TheVariants.{Bit, Stuff, Ack}
use Rattle.can_node.specs.declared.outcome.Outcome.TheVariants.{Completed, Lost, Errored}
use Rattle.can_node.specs.declared.state.State.{State}
use Rattle.can_node.specs.declared.state.State.TheVariants.{Receiving, InIntermission, Transmitting}
use Rattle.can_node.specs.declared.state.Stage.TheVariants.{Region}
use Rattle.can_node.specs.declared.state.Transition.{Transition}
use Rattle.can_frame.specs.declared.spelling.Spelling.{Spelling}
use Rattle.can_frame.specs.declared.spelling.SendBit.{SendBit}
use Rattle.can_frame.specs.declared.spelling.SendBit.TheVariants.{Arbitration, ArbitrationStuffBit, Other}
use Rattle.can_confinement.specs.Confinement.{state_after}
use Rattle.can_node.specs.Pairs.{Pair, driving}
use Rattle.can_node.specs.Sends.{IsSendBit, IsArbitration, IsArbitrationStuffBit}
use Rattle.can_frame.specs.Sending.{IsSpelling, IsBitAt, SaysBit, level_at, rtr_place}
use Rattle.can_node.specs.Phases.{Phase, flag_of}
use Rattle.can_node.specs.Phases.Phase.{Send, Take, Intermission}
use Rattle.can_node.specs.Episodes.{Course, ack_events}
use Rattle.can_node.specs.Episodes.Course.{completed, lost, stuff_lost, unacknowledged, bit_differs}
use Rattle.can_node.specs.Machine.{Agrees, Holds, Lands, GoesSending, LosesAt, Signals, listed}
use Rattle.can_node.specs.Machine.Agrees.{in_send, in_intermission}
use Rattle.can_node.specs.Machine.Lands.{goes_on, is_over}
use Rattle.can_node.proofs.Moves.{transition}
use Rattle.can_node.proofs.Starts.{reads_from}
use Rattle.can_node.proofs.SendPlaces.{here, front_here, next_bit, last_bit, rtr_few, lost_inside, arbitration_short}
use Rattle.can_node.proofs.SendPlaces.{slot_levels, same_levels, same_text}

driving_more : (a b : List Bool) (x y : Bool) → length a ≡ length b → driving a b
    ++ record { driven = x; sampled = y } ∷ [] ≡ driving (a ++ x ∷ []) (b ++ y ∷ [])
driving_more [] [] x y e = refl
driving_more [] (w ∷ b) x y e = absurd (omega (arith, e))
driving_more (v ∷ a) [] x y e = absurd (omega (arith, e))
driving_more (v ∷ a) (w ∷ b) x y e =
    ap (λ t. record { driven = v; sampled = w } ∷ t) (driving_more a b x y (omega (arith, e)))

-- the bit is the expected one, and not the last
sends_on : (start place next : ℕ) (spelling : Spelling) (level : Bool) (text : List Bool) (at : ℕ) (given : List Bool)
    (frame : FrameValue) (bef seen : List Bool) (driven expected : Bool) → text ≡ given ++ seen →
    IsSendBit frame given bef seen driven expected → place ≡ length given + length bef → IsSpelling frame spelling →
    expected ≡ level → (place + 1 ≡ length spelling.levels.items → ⊥) → next ≡ min (place + 1) 255 →
    Agrees (Transmitting start next) (text ++ level ∷ []) at (Send start given frame)
    (driving bef seen ++ record { driven = level_at spelling place; sampled = level } ∷ []) []
sends_on start place next spelling level text at given frame bef seen driven expected is bit place_is holds level_is
    more next_is =
    let h = here spelling frame given bef seen driven expected place holds bit place_is in
    let some : 0 < length bit.later = omega (arith, h.rest_is, more) in
    let n = next_bit frame given bef seen driven expected bit h.as_long some in
    let read : text ++ level ∷ [] ≡ given ++ (seen ++ expected ∷ []) = ap (λ t. t ++ level ∷ []) is
    ∙ append_assoc given seen (level ∷ []) ∙ ap (λ b. given ++ (seen ++ b ∷ [])) (sym level_is) in
    let here_next : next ≡ length given + length (bef ++ driven ∷ []) =
    omega (arith, next_is, place_is, length-append bef (driven ∷ []), h.rest_is, holds.few) in
    let pairs : driving (bef ++ driven ∷ []) (seen ++ expected ∷ []) ≡ driving bef seen
    ++ record { driven = level_at spelling place; sampled = level } ∷ [] =
    sym (driving_more bef seen driven expected bit.same_place)
    ∙ ap (λ d. driving bef seen ++ record { driven = d; sampled = expected } ∷ []) (sym h.level_is)
    ∙ ap (λ s. driving bef seen ++ record { driven = level_at spelling place; sampled = s } ∷ []) level_is in
    subst (λ p. Agrees (Transmitting start next) (text ++ level ∷ []) at (Send start given frame) p []) pairs
    (in_send given frame (bef ++ driven ∷ []) (seen ++ expected ∷ []) n.driven n.expected read n.bit here_next)

pub send_acknowledged : (start place next : ℕ) (spelling : Spelling) (e : ErrorState) →
    place + 9 ≡ length spelling.levels.items → next ≡ min (place + 1) 255 →
    GoesSending start place spelling e false (transition (Transmitting start next) None)
send_acknowledged start place next spelling e slot next_is text at before phase part events err
    (in_send given frame bef seen driven expected is bit place_is) holds =
    let h = here spelling frame given bef seen driven expected place holds bit place_is in
    let levels = slot_levels h.stands_at (omega (arith, slot, h.length_is, h.place_is)) in
    goes_on (sends_on start place next spelling false text at given frame bef seen driven expected is bit place_is holds
    levels.1 (λ last. omega (arith, slot, last)) next_is) refl

pub send_unacknowledged : (start place : ℕ) (spelling : Spelling) (e : ErrorState) (t : Transition) →
    place + 9 ≡ length spelling.levels.items →
    ((text : List Bool) (later : ℕ) → Agrees t.state text later (flag_of e (SenderError ∷ []) Sender) [] []) →
    listed t.event ≡ ack_events e → t.outcome ≡ Errored Ack → GoesSending start place spelling e true t
send_unacknowledged start place spelling e t slot flags event_is outcome_is text at before phase part events err
    (in_send given frame bef seen driven expected is bit place_is) holds =
    let h = here spelling frame given bef seen driven expected place holds bit place_is in
    let levels = slot_levels h.stands_at (omega (arith, slot, h.length_is, h.place_is)) in
    let state_is : e ≡ state_after before = err ∙ ap state_after (append-nil before) in
    let one : IsSendBit frame given bef seen true false = subst (λ d. IsSendBit frame given bef seen d false) levels.0
    (subst (IsSendBit frame given bef seen driven) levels.1 bit) in
    let course = unacknowledged {at = at} {before = before} start given frame bef seen one in
    is_over (flag_of e (SenderError ∷ []) Sender)
    (subst (λ d. Course at before (Send start given frame) (driving bef seen
    ++ record { driven = d; sampled = true } ∷ []) (listed t.event) t.outcome
    (flag_of e (SenderError ∷ []) Sender)) (sym (h.level_is ∙ levels.0))
    (subst (λ o. Course at before (Send start given frame) (driving bef seen
    ++ record { driven = true; sampled = true } ∷ []) (listed t.event) o (flag_of e (SenderError ∷ []) Sender))
    (sym outcome_is)
    (subst (λ es. Course at before (Send start given frame) (driving bef seen
    ++ record { driven = true; sampled = true } ∷ []) es (Errored Ack) (flag_of e (SenderError ∷ []) Sender))
    (sym event_is)
    (subst (λ s. Course at before (Send start given frame) (driving bef seen
    ++ record { driven = true; sampled = true } ∷ []) (ack_events s) (Errored Ack)
    (flag_of s (SenderError ∷ []) Sender)) (sym state_is) course))))
    (flags (text ++ true ∷ []))

pub send_echoed : (start place next : ℕ) (spelling : Spelling) (e : ErrorState) (level : Bool) →
    (place + 9 ≡ length spelling.levels.items → ⊥) → level ≡ level_at spelling place →
    (place + 1 ≡ length spelling.levels.items → ⊥) → next ≡ min (place + 1) 255 →
    GoesSending start place spelling e level (transition (Transmitting start next) None)
send_echoed start place next spelling e level elsewhere echo more next_is text at before phase part events err
    (in_send given frame bef seen driven expected is bit place_is) holds =
    let h = here spelling frame given bef seen driven expected place holds bit place_is in
    let same = same_levels h.stands_at (λ slot. elsewhere (omega (arith, slot, h.length_is, h.place_is))) in
    goes_on (sends_on start place next spelling level text at given frame bef seen driven expected is bit place_is holds
    (sym same ∙ sym h.level_is ∙ sym echo) more next_is) refl

pub send_completed : (start place : ℕ) (spelling : Spelling) (e : ErrorState) (level : Bool) →
    (place + 9 ≡ length spelling.levels.items → ⊥) → level ≡ level_at spelling place →
    place + 1 ≡ length spelling.levels.items →
    GoesSending start place spelling e level
    (record { state = InIntermission Sender 0; event = Some Sent; outcome = Completed })
send_completed start place spelling e level elsewhere echo last text at before phase part events err
    (in_send given frame bef seen driven expected is bit place_is) holds =
    let h = here spelling frame given bef seen driven expected place holds bit place_is in
    let same = same_levels h.stands_at (λ slot. elsewhere (omega (arith, slot, h.length_is, h.place_is))) in
    let level_is : expected ≡ level = sym same ∙ sym h.level_is ∙ sym echo in
    let send = last_bit frame given bef seen driven expected bit h.as_long (omega (arith, h.rest_is, last)) in
    let pairs : driving (bef ++ driven ∷ []) (seen ++ expected ∷ []) ≡ driving bef seen
    ++ record { driven = level_at spelling place; sampled = level } ∷ [] =
    sym (driving_more bef seen driven expected bit.same_place)
    ∙ ap (λ d. driving bef seen ++ record { driven = d; sampled = expected } ∷ []) (sym h.level_is)
    ∙ ap (λ s. driving bef seen ++ record { driven = level_at spelling place; sampled = s } ∷ []) level_is in
    is_over (Intermission Sender)
    (subst (λ p. Course at before (Send start given frame) p (Sent ∷ []) Completed (Intermission Sender)) pairs
    (completed start given frame (bef ++ driven ∷ []) (seen ++ expected ∷ []) send))
    (λ later. in_intermission {k = 0} (omega arith))

-- what the code's `==` of two levels computes
pub equal_levels : (a b : Bool) → beq a b ≡ true → a ≡ b
equal_levels true true e = refl
equal_levels true false e = absurd (cc e)
equal_levels false true e = absurd (cc e)
equal_levels false false e = refl

pub other_level : (a b : Bool) → beq a b ≡ false → a ≡ not b
other_level true true e = absurd (cc e)
other_level true false e = refl
other_level false true e = refl
other_level false false e = absurd (cc e)

-- a bit that differs from the bus, outside of the ACK slot
record Differs (spelling : Spelling) (frame : FrameValue) (given bef seen : List Bool) (place : ℕ)
    (level : Bool) : Type 0 where
  pub bit : IsSendBit frame given bef seen level level
  pub short : length (given ++ bef) + 10 ≤ length spelling.levels.items → given ++ bef ≡ given ++ seen
  pub text_is : take place spelling.levels.items ≡ given ++ bef
  pub few : place ≤ length spelling.levels.items
  pub later : List Bool
  pub spells : Spells frame senders_choice true ((given ++ bef) ++ level ∷ later)
  pub whole : length spelling.levels.items ≡ length ((given ++ bef) ++ level ∷ later)

differs : (spelling : Spelling) (frame : FrameValue) (given bef seen : List Bool) (driven expected : Bool) (place : ℕ)
    (level : Bool) → IsSendBit frame given bef seen driven expected → place ≡ length given + length bef →
    IsSpelling frame spelling →
    (place + 9 ≡ length spelling.levels.items → ⊥) → level_at spelling place ≡ level →
    Differs spelling frame given bef seen place level
differs spelling frame given bef seen driven expected place level bit place_is holds elsewhere drives =
    let h = here spelling frame given bef seen driven expected place holds bit place_is in
    let same = same_levels h.stands_at (λ slot. elsewhere (omega (arith, slot, h.length_is, h.place_is))) in
    let is_level : driven ≡ level = sym h.level_is ∙ drives in
    let text : spelling.levels.items ≡ (given ++ bef) ++ level ∷ bit.later =
    h.text_is ∙ ap (λ b. (given ++ bef) ++ b ∷ bit.later) is_level in
    record {
      bit = subst (λ d. IsSendBit frame given bef seen d level) is_level
          (subst (IsSendBit frame given bef seen driven) (sym same ∙ is_level) bit);
      short = λ early. same_text h.stands_at (omega (arith, early, h.length_is));
      text_is = ap (λ n. take n spelling.levels.items) h.place_is ∙ ap (take (length (given ++ bef))) h.text_is
          ∙ front_here (given ++ bef) (driven ∷ bit.later);
      few = omega (arith, h.rest_is);
      later = bit.later;
      spells = subst (Spells frame senders_choice true) text holds.spells;
      whole = ap length text;
    }

-- what the bit is, said of the text before it
says : (bit : SendBit) (spelling : Spelling) (frame : FrameValue) (place : ℕ) (a : List Bool) →
    IsSpelling frame spelling → IsBitAt bit spelling place → place ≤ length spelling.levels.items →
    take place spelling.levels.items ≡ a →
    SaysBit bit (reverse a) (rtr_place frame.id)
says bit spelling frame place a holds h few is =
    let small : spelling.rtr ≤ 32 = omega (arith, holds.rtr_is, rtr_few frame.id) in
    subst (SaysBit bit (reverse a)) holds.rtr_is (subst (λ t. SaysBit bit (reverse t) spelling.rtr) is (h few small))

-- where arbitration may be lost the node has sampled what it drove
record Arbitrates (spelling : Spelling) (frame : FrameValue) (given bef seen : List Bool) (place : ℕ) : Type 0 where
  pub differs : Differs spelling frame given bef seen place true
  pub arbitration : IsArbitration frame (given ++ bef)
  pub same : given ++ bef ≡ given ++ seen

arbitrates : (spelling : Spelling) (frame : FrameValue) (given bef seen : List Bool) (driven expected : Bool)
    (place : ℕ) → IsSendBit frame given bef seen driven expected → place ≡ length given + length bef →
    IsSpelling frame spelling →
    LosesAt place spelling → Arbitrates spelling frame given bef seen place
arbitrates spelling frame given bef seen driven expected place bit place_is holds loses =
    let d = differs spelling frame given bef seen driven expected place true bit place_is holds loses.elsewhere
    loses.drives in
    let a = given ++ bef in
    let say = says Arbitration spelling frame place a holds loses.bit_is d.few d.text_is in
    let arbitration : IsArbitration frame a = record { no_stuff_bit = say.0; after_sof = say.1; up_to_rtr = say.2 } in
    record {
      differs = d;
      arbitration = arbitration;
      same =
          d.short (omega (arith, d.whole, arbitration_short frame a d.later true holds.is_frame d.spells arbitration));
    }

-- so what it drove before is what its text is
pub lost_text : {start place : ℕ} {text : List Bool} {at : ℕ} {phase : Phase} {part : List Pair}
    {events : List ErrorEvent} (spelling : Spelling) → LosesAt place spelling →
    Agrees (Transmitting start place) text at phase part events →
    Holds phase spelling → take place spelling.levels.items ≡ text
lost_text {place = place} spelling loses (in_send given frame bef seen driven expected is bit place_is) holds =
    let h = arbitrates spelling frame given bef seen driven expected place bit place_is holds loses in
    h.differs.text_is ∙ h.same ∙ sym is

pub send_lost : (start place : ℕ) (spelling : Spelling) (e : ErrorState) → IsBitAt Arbitration spelling place →
    level_at spelling place ≡ true → (place + 9 ≡ length spelling.levels.items → ⊥) →
    GoesSending start place spelling e false
    (record { state = Receiving start false Region; event = None; outcome = Lost })
send_lost start place spelling e bit_is drives elsewhere text at before phase part events err
    (in_send given frame bef seen driven expected is bit place_is) holds =
    let h = arbitrates spelling frame given bef seen driven expected place bit place_is holds
    (record { bit_is = bit_is; drives = drives; elsewhere = elsewhere }) in
    let d = h.differs in
    let a = given ++ bef in
    let inside = lost_inside frame a d.later true holds.is_frame d.spells h.arbitration in
    let read : a ++ false ∷ [] ≡ text ++ false ∷ [] = ap (λ t. t ++ false ∷ []) (h.same ∙ sym is) in
    let begins : (later : ℕ) → Agrees (Receiving start false Region) (text ++ false ∷ []) later
    (Take start (text ++ false ∷ []) false) [] [] =
    λ later. reads_from (text ++ false ∷ []) _
    (subst (λ t. Inside t (reverse (false ∷ unstuffed (reverse a)))) read inside) start false
    (λ no_start. absurd (cc no_start)) later in
    let given_is : text ++ false ∷ [] ≡ given ++ seen ++ false ∷ [] = ap (λ t. t ++ false ∷ []) is in
    is_over (Take start (given ++ seen ++ false ∷ []) false)
    (subst (λ b. Course at before (Send start given frame) (driving bef seen
    ++ record { driven = b; sampled = false } ∷ []) [] Lost (Take start (given ++ seen ++ false ∷ []) false))
    (sym drives)
    (lost start given frame bef seen d.bit h.arbitration))
    (subst (λ g. (later : ℕ) → Agrees (Receiving start false Region) (text ++ false ∷ []) later (Take start g false) []
    [])
    given_is begins)

pub send_stuff_lost : (start place : ℕ) (spelling : Spelling) (e : ErrorState) (flag : State) →
    ((text : List Bool) (later : ℕ) → Agrees flag text later (flag_of e [] Sender) [] []) →
    IsBitAt ArbitrationStuffBit spelling place → level_at spelling place ≡ true →
    (place + 9 ≡ length spelling.levels.items → ⊥) →
    GoesSending start place spelling e false (record { state = flag; event = None; outcome = Errored Stuff })
send_stuff_lost start place spelling e flag flags bit_is drives elsewhere text at before phase part events err
    (in_send given frame bef seen driven expected is bit place_is) holds =
    let d = differs spelling frame given bef seen driven expected place true bit place_is holds elsewhere drives in
    let say = says ArbitrationStuffBit spelling frame place (given ++ bef) holds bit_is d.few d.text_is in
    let state_is : e ≡ state_after before = err ∙ ap state_after (append-nil before) in
    is_over (flag_of (state_after before) [] Sender)
    (subst (λ b. Course at before (Send start given frame) (driving bef seen
    ++ record { driven = b; sampled = false } ∷ []) [] (Errored Stuff) (flag_of (state_after before) [] Sender))
    (sym drives)
    (stuff_lost start given frame bef seen d.bit (record { stuff_bit = say.0; before_rtr = say.1 })))
    (subst (λ s. (later : ℕ) → Agrees flag (text ++ false ∷ []) later (flag_of s [] Sender) [] []) state_is
    (flags (text ++ false ∷ [])))

-- the course of a bit error, with the turn that signals it
bit_course : (start place : ℕ) (spelling : Spelling) (e : ErrorState) (t : Transition) (text : List Bool) (at : ℕ)
    (before : List ErrorEvent) (given : List Bool) (frame : FrameValue) (bef seen : List Bool) (level : Bool) →
    Signals t (flag_of e [] Sender) (Some SenderError) Bit → e ≡ state_after (before ++ []) →
    level_at spelling place ≡ level → IsSendBit frame given bef seen level level →
    (level ≡ true → IsArbitration frame (given ++ bef) → ⊥) →
    (level ≡ true → IsArbitrationStuffBit frame (given ++ bef) → ⊥) →
    Lands t.state t.outcome (text ++ not level ∷ []) at before (Send start given frame)
    (driving bef seen ++ record { driven = level_at spelling place; sampled = not level } ∷ []) (listed t.event)
bit_course start place spelling e t text at before given frame bef seen level signals err drives bit no_loss no_stuff =
    let state_is : e ≡ state_after before = err ∙ ap state_after (append-nil before) in
    let pairs : List Pair = driving bef seen ++ record { driven = level_at spelling place; sampled = not level } ∷ [] in
    let flag : Phase = flag_of (state_after before) [] Sender in
    is_over flag
    (subst (λ ev. Course at before (Send start given frame) pairs (listed ev) t.outcome flag) (sym signals.event_is)
    (subst (λ o. Course at before (Send start given frame) pairs (SenderError ∷ []) o flag) (sym signals.outcome_is)
    (subst (λ b. Course at before (Send start given frame) (driving bef seen
    ++ record { driven = b; sampled = not level } ∷ []) (SenderError ∷ []) (Errored Bit) flag) (sym drives)
    (bit_differs start given frame bef seen level bit no_loss no_stuff))))
    (subst (λ s. (later : ℕ) → Agrees t.state (text ++ not level ∷ []) later (flag_of s [] Sender) [] []) state_is
    (signals.flags (text ++ not level ∷ [])))

pub send_overruled : (start place : ℕ) (spelling : Spelling) (e : ErrorState) (t : Transition) →
    Signals t (flag_of e [] Sender) (Some SenderError) Bit → IsBitAt Other spelling place →
    level_at spelling place ≡ true →
    (place + 9 ≡ length spelling.levels.items → ⊥) → GoesSending start place spelling e false t
send_overruled start place spelling e t signals bit_is drives elsewhere text at before phase part events err
    (in_send given frame bef seen driven expected is bit place_is) holds =
    let d = differs spelling frame given bef seen driven expected place true bit place_is holds elsewhere drives in
    let say = says Other spelling frame place (given ++ bef) holds bit_is d.few d.text_is in
    bit_course start place spelling e t text at before given frame bef seen true signals err drives d.bit
    (λ high place_of. say.0 place_of.no_stuff_bit place_of.after_sof place_of.up_to_rtr)
    (λ high place_of. say.1 place_of.stuff_bit place_of.before_rtr)

pub send_undriven : (start place : ℕ) (spelling : Spelling) (e : ErrorState) (t : Transition) →
    Signals t (flag_of e [] Sender) (Some SenderError) Bit → level_at spelling place ≡ false →
    (place + 9 ≡ length spelling.levels.items → ⊥) → GoesSending start place spelling e true t
send_undriven start place spelling e t signals drives elsewhere text at before phase part events err
    (in_send given frame bef seen driven expected is bit place_is) holds =
    let d = differs spelling frame given bef seen driven expected place false bit place_is holds elsewhere drives in
    bit_course start place spelling e t text at before given frame bef seen false signals err drives d.bit
    (λ high. absurd (cc high)) (λ high. absurd (cc high))
