-- The SOF of a frame that a node sends: its own first bit, where it sampled a recessive level before; and the bit
-- before,
-- where that was a dominant one.
use Rattle.std.proofs.Common.{◌≡◌, inl, inr, ◌⊎◌, ℕ, zero, suc, ◌+◌, ◌-◌, ◌<◌, Bool, true, false, Some, List, [], ◌∷◌}
use Rattle.std.proofs.Common.{◌++◌, length, slice_get, refl, sym, ap, subst, arith, ◌∙◌}
use Rattle.std.proofs.lemmas.List.{append-nil, append_assoc, length-append, length-map}
use Rattle.can_frame.specs.Frames.{FrameValue}
use Rattle.can_confinement.specs.declared.confinement.Role.{Role}
use Rattle.can_confinement.specs.declared.confinement.ErrorEvent.{ErrorEvent}
use Rattle.can_confinement.specs.declared.confinement.ErrorState.{ErrorState}
use Rattle.can_confinement.specs.declared.confinement.ErrorState.TheVariants.{Active, Passive, Off}
use Rattle.can_node.specs.declared.outcome.Outcome.{Outcome}
use Rattle.can_node.specs.Pairs.{Pair, listening, recessive}
use Rattle.can_node.specs.Phases.{Phase, flag_of, sent_from}
use Rattle.can_node.specs.Phases.Phase.{Sync, Idle, Send, Take, LastBit, ActiveFlag, OverloadFlag, PassiveFlag}
use Rattle.can_node.specs.Phases.Phase.{Delimiter, Intermission, Suspend, BusOff}
use Rattle.can_node.specs.Waits.{Recoveries}
use Rattle.can_node.specs.Waits.Recoveries.{no_run, one_more}
use Rattle.can_node.specs.Episodes.{Course, Episode}
use Rattle.can_node.specs.Episodes.Course.{synced, resumed, completed, lost, stuff_lost, unacknowledged, bit_differs}
use Rattle.can_node.specs.Episodes.Course.{took, spoiled, recessive_last_bit, late_overload, flagged, overload_flagged}
use Rattle.can_node.specs.Episodes.Course.{passive_flagged, delimited, truncated, overloaded, intermission_ended, intermission_suspended}
use Rattle.can_node.specs.Episodes.Course.{pressed, hurried, waited, overtaken, recovered}
use Rattle.can_node.specs.Episodes.Episode.{begun, joined, ends, off_within, off_at_end}
use Rattle.can_node.specs.Histories.{Past, Whole, begins}
use Rattle.can_node.specs.Histories.Whole.{switched_on, then}
use Rattle.can_node.specs.Node.{with_begin, IsSending}
use Rattle.can_node.specs.Splits.{IsAttempt}
use Rattle.can_node.specs.Copies.{sampled_in}
use Rattle.can_node.specs.Attempts.{first_bit}
use Rattle.can_node.proofs.Texts.{sampled_append, sampled_listening, sof_place}
use Rattle.can_node.proofs.Heard.{continues_grows}

-- the last level that was sampled
abbrev EndsIn : List Pair → Bool → Type 0
EndsIn pairs level = slice_get (sampled_in pairs) (length pairs - 1) ≡ Some level

-- where the SOF is of a frame that begins behind these bits, of which the first has this number
abbrev IsSof : ℕ → List Pair → ℕ → Type 0
IsSof first pairs start =
    (EndsIn pairs true × (start ≡ first + length pairs)) ⊎ (EndsIn pairs false × (start + 1 ≡ first + length pairs))

abbrev Sofs : ℕ → List Pair → Phase → Type 0
Sofs first pairs Idle = EndsIn pairs true
Sofs first pairs (Take start given may_begin) = may_begin ≡ true →
    EndsIn pairs false × (start + 1 ≡ first + length pairs)
Sofs first pairs (Send start given frame) = IsSof first pairs start
Sofs first pairs phase = Unit {0}

at_end : (xs : List Bool) (level : Bool) → slice_get (xs ++ level ∷ []) (length xs) ≡ Some level
at_end [] level = refl
at_end (x ∷ xs) level = at_end xs level

-- behind levels of which this is the last
ends_in : (pairs : List Pair) (levels : List Bool) (level : Bool) →
    EndsIn (pairs ++ listening (levels ++ level ∷ [])) level
ends_in pairs levels level =
    let all = pairs ++ listening (levels ++ level ∷ []) in
    let text : sampled_in all ≡ (sampled_in pairs ++ levels) ++ level ∷ [] =
    sampled_append pairs (listening (levels ++ level ∷ []))
    ∙ ap (λ t. sampled_in pairs ++ t) (sampled_listening (levels ++ level ∷ []))
    ∙ sym (append_assoc (sampled_in pairs) levels (level ∷ [])) in
    let size : length all - 1 ≡ length (sampled_in pairs ++ levels) =
    omega (
      arith,
      length-append pairs (listening (levels ++ level ∷ [])),
      length-map {B = Pair} (levels ++ level ∷ []) (λ (l : Bool). record { driven = true; sampled = l }),
      length-append levels (level ∷ []),
      length-append (sampled_in pairs) levels,
      length-map {B = Bool} pairs (λ (pair : Pair). pair.sampled),
    ) in
    ap (λ t. slice_get t (length all - 1)) text ∙ ap (slice_get ((sampled_in pairs ++ levels) ++ level ∷ [])) size
    ∙ at_end (sampled_in pairs ++ levels) level

-- behind a text that ends in a run of recessive levels
ends_recessive : (pairs : List Pair) (text : List Bool) (n : ℕ) →
    EndsIn (pairs ++ listening (text ++ recessive n ++ true ∷ [])) true
ends_recessive pairs text n = ends_in pairs (text ++ recessive n) true

recessive_end : (n : ℕ) → true ∷ recessive n ≡ recessive n ++ true ∷ []
recessive_end zero = refl
recessive_end (suc n) = ap (λ t. true ∷ t) (recessive_end n)

run_of_eleven : (pairs : List Pair) (text : List Bool) → EndsIn (pairs ++ listening (text ++ recessive 11)) true
run_of_eleven pairs text =
    subst (λ t. EndsIn (pairs ++ listening t) true) (append_assoc text (recessive 10) (true ∷ []))
    (ends_recessive pairs text 10)

recovers : {n : ℕ} {text : List Bool} (pairs : List Pair) → Recoveries n text → 0 < n →
    EndsIn (pairs ++ listening text) true
recovers pairs no_run some = absurd (omega (arith, some))
recovers pairs (one_more {text = text} {broken = broken} runs b) some = run_of_eleven pairs (text ++ broken)

-- behind recessive levels, or none
idles : (pairs : List Pair) (n : ℕ) → EndsIn pairs true → EndsIn (pairs ++ listening (recessive n)) true
idles pairs zero h = subst (λ p. EndsIn p true) (sym (append-nil pairs)) h
idles pairs (suc n) h =
    subst (λ t. EndsIn (pairs ++ listening t) true) (sym (recessive_end n)) (ends_in pairs (recessive n) true)

flag_sofs : (first : ℕ) (pairs : List Pair) (e : ErrorState) (owed : List ErrorEvent) (role : Role) →
    Sofs first pairs (flag_of e owed role)
flag_sofs first pairs Active owed role = tt
flag_sofs first pairs Passive owed role = tt
flag_sofs first pairs Off owed role = tt

may_not : {X : Type 0} → false ≡ true → X
may_not e = absurd (cc e)

course_sofs : (past : Past) {phase next : Phase} {pairs : List Pair} {events : List ErrorEvent} {outcome : Outcome} →
    Course (past.first + length past.pairs) past.events phase pairs events outcome next →
    Sofs past.first (past.pairs ++ pairs) next
course_sofs past (synced broken b) = run_of_eleven past.pairs broken
course_sofs past (resumed n) = λ e. may_not e
course_sofs past (completed start given frame driven sampled send) = tt
course_sofs past (lost start given frame driven seen bit place) = λ e. may_not e
course_sofs past {pairs = all} (stuff_lost start given frame driven seen bit place) =
    flag_sofs past.first (past.pairs ++ all) _ _ _
course_sofs past {pairs = all} (unacknowledged start given frame driven seen bit) =
    flag_sofs past.first (past.pairs ++ all) _ _ _
course_sofs past {pairs = all} (bit_differs start given frame driven seen level bit no_loss no_stuff) =
    flag_sofs past.first (past.pairs ++ all) _ _ _
course_sofs past (took start given may_begin levels pairs events frame reads front) = tt
course_sofs past {pairs = all} (spoiled start given may_begin levels level pairs events kind reads fault) =
    flag_sofs past.first (past.pairs ++ all) _ _ _
course_sofs past recessive_last_bit = tt
course_sofs past late_overload = tt
course_sofs past (flagged role levels size) = tt
course_sofs past (overload_flagged role levels size) = tt
course_sofs past (passive_flagged owed role levels level before six) = tt
course_sofs past (delimited kind role run n) = tt
course_sofs past {pairs = all} (truncated kind role run n k some below) = flag_sofs past.first (past.pairs ++ all) _ _ _
course_sofs past (overloaded kind role run n) = tt
course_sofs past (intermission_ended role goes) = ends_recessive past.pairs [] 2
course_sofs past (intermission_suspended role waits) = tt
course_sofs past (pressed role k below) = tt
course_sofs past (hurried role) =
    λ e. (
      ends_in past.pairs (recessive 2) false,
      omega (arith, length-append past.pairs (listening (recessive 2 ++ false ∷ []))),
    )
course_sofs past waited = ends_recessive past.pairs [] 7
course_sofs past (overtaken k below) = λ e. may_not e
course_sofs past (recovered text whole) = recovers past.pairs whole (omega arith)

episode_sofs : (past : Past) {phase next : Phase} {pairs : List Pair} {events : List ErrorEvent} {outcome : Outcome} →
    Sofs past.first past.pairs phase →
    Episode (past.first + length past.pairs) past.events phase pairs events outcome next →
    Sofs past.first (past.pairs ++ pairs) next
episode_sofs past h (begun n frame is on) =
    inl (idles past.pairs n h, sof_place past.first n past.pairs past.first refl)
episode_sofs past h (joined start given frame is on) =
    let j = h refl in
    inr (subst (λ p. EndsIn p false) (sym (append-nil past.pairs)) j.0, omega (arith, j.1, length-append past.pairs []))
episode_sofs past h (ends course on) = course_sofs past course
episode_sofs past h (off_within pair event goes on then_goes off) = tt
episode_sofs past h (off_at_end pair event goes on course off) = tt

sofs : {past : Past} {phase : Phase} → Whole past phase → Sofs past.first past.pairs phase
sofs (switched_on first) = tt
sofs (then {past = past} whole episode) = episode_sofs past (sofs whole) episode

-- the last level decides
one_sof : (past other : Past) (start sof : ℕ) → past.first ≡ other.first → past.pairs ≡ other.pairs →
    IsSof past.first past.pairs start → IsSof other.first other.pairs sof → sof ≡ start
one_sof past other start sof first same (inl a) (inl b) = omega (arith, a.1, b.1, first, ap length same)
one_sof past other start sof first same (inr a) (inr b) = omega (arith, a.1, b.1, first, ap length same)
one_sof past other start sof first same (inl a) (inr b) =
    absurd (let there : EndsIn other.pairs true = subst (λ p. EndsIn p true) same a.0 in cc (there, b.0))
one_sof past other start sof first same (inr a) (inl b) =
    absurd (let there : EndsIn other.pairs false = subst (λ p. EndsIn p false) same a.0 in cc (there, b.0))

-- a node that reports an SOF sends
record SendsFrom (phase : Phase) (sof : ℕ) : Type 0 where
  given : List Bool
  frame : FrameValue
  is : phase ≡ Send sof given frame

sends_send : (start sof : ℕ) (given : List Bool) (frame : FrameValue) → Some sof ≡ Some start →
    SendsFrom (Send start given frame) sof
sends_send start sof given frame e = let same : start ≡ sof =
    cc e in record { given = given; frame = frame; is = ap (λ n. Send n given frame) same }

sends_from : (phase : Phase) (sof : ℕ) → Some sof ≡ sent_from phase → SendsFrom phase sof
sends_from (Send start given frame) sof e = sends_send start sof given frame e
sends_from Sync sof e = absurd (cc e)
sends_from Idle sof e = absurd (cc e)
sends_from (Take start given may_begin) sof e = absurd (cc e)
sends_from LastBit sof e = absurd (cc e)
sends_from (ActiveFlag role) sof e = absurd (cc e)
sends_from (OverloadFlag role) sof e = absurd (cc e)
sends_from (PassiveFlag owed role) sof e = absurd (cc e)
sends_from (Delimiter kind role run) sof e = absurd (cc e)
sends_from (Intermission role) sof e = absurd (cc e)
sends_from Suspend sof e = absurd (cc e)
sends_from BusOff sof e = absurd (cc e)

last_of : {X : Type 0} (xs ys : List X) (x y : X) → xs ++ x ∷ [] ≡ ys ++ y ∷ [] → x ≡ y
last_of [] [] x y e = cc e
last_of [] (b ∷ ys) x y e = absurd (omega (arith, ap length e, length-append (b ∷ ys) (y ∷ [])))
last_of (a ∷ xs) [] x y e = absurd (omega (arith, ap length e, length-append (a ∷ xs) (x ∷ [])))
last_of (a ∷ xs) (b ∷ ys) x y e = last_of xs ys x y (let rest : xs ++ x ∷ [] ≡ ys ++ y ∷ [] = cc e in rest)

no_more : {X : Type 0} (xs ys : List X) → length (xs ++ ys) ≡ length xs → xs ++ ys ≡ xs
no_more xs [] e = append-nil xs
no_more xs (y ∷ ys) e = absurd (omega (arith, e, length-append xs (y ∷ ys)))

-- the SOF that a node reports when it begins to send
begun_sof : (before : Past) (frame : FrameValue) (sof : ℕ) → IsSending (with_begin before frame) (Some sof) →
    IsSof before.first before.pairs sof
begun_sof before frame sof h =
    let hist = h.history in
    let s = sends_from hist.phase sof h.start_is in
    let here : Whole hist.done (Send sof s.given s.frame) = subst (Whole hist.done) s.is hist.whole in
    let begun_is : before.begun ++ (before.first + length before.pairs, frame) ∷ [] ≡ hist.done.begun
    ++ (hist.done.first + length hist.done.pairs, s.frame) ∷ [] =
    ap (λ (p : Past). p.begun) hist.past_is
    ∙ ap (λ phase. hist.done.begun ++ begins (hist.done.first + length hist.done.pairs) phase) s.is in
    let bit : before.first + length before.pairs ≡ hist.done.first + length hist.done.pairs =
    ap (λ (p : ℕ × FrameValue). p.0)
    (last_of before.begun hist.done.begun (before.first + length before.pairs, frame)
    (hist.done.first + length hist.done.pairs, s.frame) begun_is) in
    let first : before.first ≡ hist.done.first = ap (λ (p : Past). p.first) hist.past_is in
    let pairs : before.pairs ≡ hist.done.pairs ++ hist.part = ap (λ (p : Past). p.pairs) hist.past_is in
    let none : hist.done.pairs ++ hist.part ≡ hist.done.pairs =
    no_more hist.done.pairs hist.part (omega (arith, bit, first, ap length pairs)) in
    moved hist.done before sof (sym first) (sym (pairs ∙ none)) (sofs here)
  where
    moved : (done past : Past) (start : ℕ) → done.first ≡ past.first → done.pairs ≡ past.pairs →
        IsSof done.first done.pairs start → IsSof past.first past.pairs start
    moved done past start first same (inl a) =
        inl (subst (λ p. EndsIn p true) same a.0, omega (arith, a.1, first, ap length same))
    moved done past start first same (inr a) =
        inr (subst (λ p. EndsIn p false) same a.0, omega (arith, a.1, first, ap length same))

front_same : {X : Type 0} (xs ys more rest : List X) → length xs ≡ length ys → xs ++ more ≡ ys ++ rest → xs ≡ ys
front_same [] [] more rest e h = refl
front_same [] (y ∷ ys) more rest e h = absurd (omega (arith, e))
front_same (x ∷ xs) [] more rest e h = absurd (omega (arith, e))
front_same (x ∷ xs) (y ∷ ys) more rest e h =
    let tails : xs ++ more ≡ ys ++ rest = cc h in
    let heads : x ≡ y = cc h in
    let same = front_same xs ys more rest (omega (arith, e)) tails in
    cc (heads, same)

send_sof : {past : Past} {start : ℕ} {given : List Bool} {frame : FrameValue} → Whole past (Send start given frame) →
    IsSof past.first past.pairs start
send_sof whole = sofs whole

-- is the start of the attempt that begins there
pub starts_are_sofs : (past before : Past) (more : List Pair) (start sof end : ℕ) (frame given : FrameValue)
    (state : ErrorState) (outcome : Outcome) (attempt : IsAttempt past start frame state end outcome) →
    past.first ≡ before.first → past.pairs ≡ before.pairs ++ more →
    first_bit attempt ≡ before.first + length before.pairs → IsSending (with_begin before given) (Some sof) →
    sof ≡ start
starts_are_sofs past before more start sof end frame given state outcome attempt first pairs place sending =
    let g = continues_grows attempt.here.continues in
    let done : attempt.done.first ≡ before.first = sym g.first_is ∙ first in
    let whole : attempt.done.pairs ++ (attempt.pairs ++ g.more) ≡ before.pairs ++ more =
    sym (append_assoc attempt.done.pairs attempt.pairs g.more) ∙ sym g.pairs_are ∙ pairs in
    let same : attempt.done.pairs ≡ before.pairs =
    front_same attempt.done.pairs before.pairs _ more (omega (arith, place, done)) whole in
    one_sof attempt.done before start sof done same (send_sof attempt.here.whole) (begun_sof before given sof sending)
