-- One lemma for each branch of a state's function: what a sampled level makes of the state.
use Rattle.std.proofs.Common.{◌≡◌, ℕ, ◌+◌, ◌<◌, ◌≤◌, Bool, true, false, not, Option, Some, None, List, [], ◌∷◌, ◌++◌}
use Rattle.std.proofs.Common.{length, refl, sym, ap, suc, add-one, arith, ◌∙◌}
use Rattle.std.proofs.lemmas.List.{append_assoc, append-nil, map-append, replicate_more, length-map, length-replicate}
use Rattle.can_confinement.specs.declared.confinement.Role.{Role}
use Rattle.can_confinement.specs.declared.confinement.Role.TheVariants.{Receiver}
use Rattle.can_confinement.specs.declared.confinement.ErrorEvent.{ErrorEvent}
use Rattle.can_confinement.specs.declared.confinement.ErrorState.{ErrorState}
use Rattle.can_confinement.specs.declared.confinement.ErrorEvent.TheVariants.{Recovered}
use Rattle.can_node.specs.declared.flag.FlagKind.TheVariants.{Overload}
use Rattle.can_node.specs.declared.outcome.Outcome.TheVariants.{Nothing, CameBack}
use Rattle.can_node.specs.declared.state.State.{State}
use Rattle.can_node.specs.declared.state.State.TheVariants.{Integrating, BusIdle, Receiving, LastEofBit, DominantFlag}
use Rattle.can_node.specs.declared.state.State.TheVariants.{InIntermission}
use Rattle.can_node.specs.declared.state.State.TheVariants.{SuspendTransmission, BusOffRecovery}
use Rattle.can_node.specs.declared.state.Stage.TheVariants.{Region}
use Rattle.can_node.specs.declared.state.Transition.{Transition}
use Rattle.can_confinement.specs.Confinement.{state_after}
use Rattle.can_node.specs.Pairs.{listening, dominating, recessive}
use Rattle.can_node.specs.Waits.{Recoveries}
use Rattle.can_node.specs.Waits.Broken.{none, again}
use Rattle.can_node.specs.Waits.Recoveries.{one_more}
use Rattle.can_node.specs.Phases.{suspends}
use Rattle.can_node.specs.Phases.Phase.{Idle, Take, OverloadFlag, Intermission, Suspend}
use Rattle.can_node.specs.Episodes.Course.{synced, resumed, recessive_last_bit, late_overload, intermission_ended, intermission_suspended}
use Rattle.can_node.specs.Episodes.Course.{pressed}
use Rattle.can_node.specs.Episodes.Course.{hurried, waited, overtaken, recovered}
use Rattle.can_node.specs.Machine.{Agrees, Goes}
use Rattle.can_node.specs.Machine.Agrees.{in_sync, in_idle, in_last, in_overload, in_intermission, in_suspend, in_off}
use Rattle.can_node.specs.Machine.Lands.{goes_on, is_over}
use Rattle.can_node.proofs.Starts.{starts}

-- a transition that ends nothing that is reported
abbrev pub transition : State → Option ErrorEvent → Transition
transition state event = record { state = state; event = event; outcome = Nothing }

pub listening_more : (w : List Bool) (b : Bool) → listening w
    ++ record { driven = true; sampled = b } ∷ [] ≡ listening (w ++ b ∷ [])
listening_more w b = sym (map-append _ w (b ∷ []))

pub dominating_more : (w : List Bool) (b : Bool) → dominating w
    ++ record { driven = false; sampled = b } ∷ [] ≡ dominating (w ++ b ∷ [])
dominating_more w b = sym (map-append _ w (b ∷ []))

length-listening : (w : List Bool) → length (listening w) ≡ length w
length-listening w = length-map w _

pub sync_broken : (n now : ℕ) (e : ErrorState) → Goes (Integrating n) now e false (transition (Integrating 0) None)
sync_broken n now e text at before phase part events clock err (in_sync broken b below) =
    goes_on
    (rw listening_more
    (rw append-nil at (in_sync {text = false ∷ []} {at = at} {n = 0} ((broken ++ recessive n) ++ false ∷ [])
    (again b n below) (omega arith)))) refl

pub sync_longer : (n now : ℕ) (e : ErrorState) → n < 10 → Goes (Integrating n) now e true (transition (Integrating (n +
    1)) None)
sync_longer n now e room text at before phase part events clock err (in_sync broken b below) =
    goes_on (rw (listening_more, append_assoc, replicate_more) (in_sync {n = n + 1} broken b (omega arith))) refl

pub sync_ends : (n now : ℕ) (e : ErrorState) → 10 ≤ n → Goes (Integrating n) now e true (transition BusIdle None)
sync_ends n now e full text at before phase part events clock err (in_sync broken b below) =
    is_over Idle (let ten : n ≡ 10 = omega arith in rw (ten, listening_more, append_assoc) (synced broken b))
    (λ later. in_idle 0)

pub idle_on : (now : ℕ) (e : ErrorState) → Goes BusIdle now e true (transition BusIdle None)
idle_on now e text at before phase part events clock err (in_idle n) =
    goes_on (rw (listening_more, replicate_more) (in_idle (n + 1))) refl

pub idle_resumes : (now : ℕ) (e : ErrorState) → Goes BusIdle now e false (transition (Receiving now false Region) None)
idle_resumes now e text at before phase part events clock err (in_idle n) =
    let here : at + n ≡ now =
    sym (clock ∙ ap (λ k. at + k) (length-listening (recessive n) ∙ length-replicate n true)) in
    is_over (Take (at + n) (false ∷ []) false) (rw listening_more (resumed n)) (starts now (at + n) here false)

pub last_bit_uneventful : (now : ℕ) (e : ErrorState) → Goes LastEofBit now e true (transition (InIntermission Receiver
    0) None)
last_bit_uneventful now e text at before phase part events clock err in_last =
    is_over (Intermission Receiver) recessive_last_bit (λ later. in_intermission {k = 0} (omega arith))

pub overload_begins : (role : Role) (later : ℕ) → Agrees (DominantFlag Overload role 0 14) (false ∷ []) later
    (OverloadFlag role) [] []
overload_begins role later = in_overload [] refl (omega arith) refl (omega arith)

pub closing_late : (now : ℕ) (e : ErrorState) → Goes LastEofBit now e false (transition (DominantFlag Overload Receiver
    0 14) None)
closing_late now e text at before phase part events clock err in_last =
    is_over (OverloadFlag Receiver) late_overload (overload_begins Receiver)

pub intermission_on : (role : Role) (k now : ℕ) (e : ErrorState) → k < 2 →
    Goes (InIntermission role k) now e true (transition (InIntermission role (k + 1)) None)
intermission_on role k now e room text at before phase part events clock err (in_intermission below) =
    goes_on (rw (listening_more, replicate_more) (in_intermission {k = k + 1} (omega arith))) refl

pub intermission_pressed : (role : Role) (k now : ℕ) (e : ErrorState) → k < 2 →
    Goes (InIntermission role k) now e false (transition (DominantFlag Overload role 0 14) None)
intermission_pressed role k now e room text at before phase part events clock err (in_intermission below) =
    is_over (OverloadFlag role) (rw listening_more (pressed role k room)) (overload_begins role)

-- the error state of an episode that has counted nothing is that before it
state_before : (role : Role) (e : ErrorState) (b : Bool) (state : List ErrorEvent → ErrorState)
    (before : List ErrorEvent) →
    e ≡ state (before ++ []) → suspends role e ≡ b → suspends role (state before) ≡ b
state_before role e b state before err h = ap (suspends role) (ap state (sym (append-nil before)) ∙ sym err) ∙ h

pub intermission_ends : (role : Role) (k now : ℕ) (e : ErrorState) → 2 ≤ k → suspends role e ≡ false →
    Goes (InIntermission role k) now e true (transition BusIdle None)
intermission_ends role k now e full goes text at before phase part events clock err (in_intermission below) =
    let two : k ≡ 2 = omega arith in
    rw two (is_over Idle (intermission_ended role (state_before role e false state_after before err goes)) (λ later. in_idle 0))

pub intermission_waits : (role : Role) (k now : ℕ) (e : ErrorState) → 2 ≤ k → suspends role e ≡ true →
    Goes (InIntermission role k) now e true (transition (SuspendTransmission 0) None)
intermission_waits role k now e full waits text at before phase part events clock err (in_intermission below) =
    let two : k ≡ 2 = omega arith in
    rw two (is_over Suspend (intermission_suspended role (state_before role e true state_after before err waits))
    (λ later. in_suspend {k = 0} (omega arith)))

pub intermission_hurried : (role : Role) (k now : ℕ) (e : ErrorState) → 2 ≤ k → (b : Bool) → suspends role e ≡ b →
    Goes (InIntermission role k) now e false (transition (Receiving now (not b) Region) None)
intermission_hurried role k now e full b is text at before phase part events clock err (in_intermission below) =
    let two : k ≡ 2 = omega arith in
    let here : at + 2 ≡ now = omega (arith, clock, length-listening (recessive k), length-replicate k true) in
    let said = state_before role e b state_after before err is in
    rw two (is_over (Take (at + 2) (false ∷ []) (not b)) (rw said at (hurried {at = at} {before = before} role))
    (starts now (at + 2) here (not b)))

pub suspend_on : (k now : ℕ) (e : ErrorState) → k < 7 → Goes (SuspendTransmission k) now e true (transition
    (SuspendTransmission (k + 1)) None)
suspend_on k now e room text at before phase part events clock err (in_suspend below) =
    goes_on (rw (listening_more, replicate_more) (in_suspend {k = k + 1} (omega arith))) refl

pub suspend_ends : (k now : ℕ) (e : ErrorState) → 7 ≤ k → Goes (SuspendTransmission k) now e true (transition BusIdle
    None)
suspend_ends k now e full text at before phase part events clock err (in_suspend below) =
    let seven : k ≡ 7 = omega arith in rw seven (is_over Idle waited (λ later. in_idle 0))

pub suspend_overtaken : (k now : ℕ) (e : ErrorState) →
    Goes (SuspendTransmission k) now e false (transition (Receiving now false Region) None)
suspend_overtaken k now e text at before phase part events clock err (in_suspend below) =
    let here : at + k ≡ now =
    sym (clock ∙ ap (λ n. at + n) (length-listening (recessive k) ∙ length-replicate k true)) in
    is_over (Take (at + k) (false ∷ []) false) (rw listening_more (overtaken k below)) (starts now (at + k) here false)

pub off_broken : (runs n now : ℕ) (e : ErrorState) →
    Goes (BusOffRecovery runs n) now e false (transition (BusOffRecovery runs 0) None)
off_broken runs n now e text at before phase part events clock err (in_off rest broken below counted b short) =
    let is : ((rest ++ broken ++ recessive n) ++ false ∷ [])
    ≡ (rest ++ (broken ++ recessive n ++ false ∷ []) ++ recessive 0) =
    simp (append_assoc, append-nil) refl in
    goes_on
    (rw (listening_more, is) (in_off {n = 0} rest (broken ++ recessive n ++ false ∷ []) below counted
    (again b n short) (omega arith))) refl

pub off_longer : (runs n now : ℕ) (e : ErrorState) → n < 10 →
    Goes (BusOffRecovery runs n) now e true (transition (BusOffRecovery runs (n + 1)) None)
off_longer runs n now e room text at before phase part events clock err (in_off rest broken below counted b short) =
    goes_on (rw (listening_more, append_assoc, replicate_more)
    (in_off {n = n + 1} rest broken below counted b (omega arith))) refl

-- one more whole run
run_ends : (rest broken : List Bool) (n : ℕ) → 10 ≤ n → n < 11 → (rest ++ broken ++ recessive n) ++ true ∷ [] ≡ rest
    ++ broken ++ recessive 11
run_ends rest broken n full short = let ten : n ≡ 10 = omega arith in
    rw ten (append_assoc (rest ++ broken) (recessive 10) (true ∷ []))

pub off_counts : (runs n now : ℕ) (e : ErrorState) → 10 ≤ n → runs < 127 →
    Goes (BusOffRecovery runs n) now e true (transition (BusOffRecovery (runs + 1) 0) None)
off_counts runs n now e full room text at before phase part events clock err
    (in_off rest broken below counted b short) =
    let is : ((rest ++ broken ++ recessive n) ++ true ∷ []) ≡ ((rest ++ broken ++ recessive 11) ++ [] ++ recessive 0) =
    run_ends rest broken n full short ∙ sym (append-nil _ ∙ append-nil _) in
    goes_on
    (rw (listening_more, is) (in_off {runs = runs + 1} {n = 0} (rest ++ broken ++ recessive 11) [] (omega arith)
    (rw (← add-one) at (one_more counted b)) none (omega arith))) refl

pub off_ends : (runs n now : ℕ) (e : ErrorState) → 10 ≤ n → 127 ≤ runs →
    Goes (BusOffRecovery runs n) now e true (record { state = BusIdle; event = Some Recovered; outcome = CameBack })
off_ends runs n now e full last text at before phase part events clock err (in_off rest broken below counted b short) =
    let all : suc runs ≡ 128 = omega arith in
    let whole : Recoveries 128 (rest ++ broken ++ recessive 11) = rw all at (one_more counted b) in
    is_over Idle (rw (listening_more, run_ends rest broken n full short) (recovered _ whole)) (λ later. in_idle 0)
