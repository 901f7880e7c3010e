-- Bits with which a node goes on, one after another.
use Rattle.std.proofs.Common.{◌≡◌, ℕ, zero, suc, ◌+◌, ◌<◌, ◌≤◌, ◌++◌, min, nat_le, Bool, true, false, List, [], ◌∷◌}
use Rattle.std.proofs.Common.{◌||◌, length, take, get_or, inl, inr, refl, sym, ap, arith, cond, not, subst, ◌∙◌}
use Rattle.std.proofs.lemmas.Bool.Decides.{leb_tells}
use Rattle.std.proofs.lemmas.List.{length-take, take_all, take_more}
use Rattle.can_frame.specs.Sending.{StandAhead}
use Rattle.can_frame.specs.Sending.SendsOn.{echoed}
use Rattle.can_frame.specs.declared.spelling.Spelling.{Spelling}
use Rattle.can_confinement.specs.declared.confinement.ErrorState.{ErrorState}
use Rattle.can_confinement.specs.declared.confinement.Role.{Role}
use Rattle.can_confinement.specs.declared.confinement.Role.TheVariants.{Receiver, Sender}
use Rattle.can_confinement.specs.declared.counters.Counters.{Counters}
use Rattle.can_node.specs.declared.node.Node.{Node}
use Rattle.can_node.specs.declared.state.State.{State}
use Rattle.can_confinement.specs.Confinement.{state_of}
use Rattle.can_confinement.specs.Counters.{counts_of}
use Rattle.can_node.specs.declared.state.State.TheVariants.{InDelimiter, BusIdle, PassiveErrorFlag, BusOffRecovery}
use Rattle.can_node.specs.declared.state.State.TheVariants.{InIntermission, Transmitting, SuspendTransmission}
use Rattle.can_node.specs.declared.state.State.TheVariants.{AwaitingDelimiter}
use Rattle.can_frame.proofs.ReadingOn.{goes_on-take}
use Rattle.can_node.specs.Machine.{Goes, is_in_region, is_sending, is_taking, level_in, may_start, uneventful}
use Rattle.can_node.specs.Phases.{suspends}
use Rattle.can_node.specs.PlainBits.{GoesOnBy, LeavesPlainly, MayGoOnBy, StaysOut, is_plain, out_behind, out_behind_all}
use Rattle.can_node.specs.PlainBits.{StaysBy, StaysNoLonger, stays_out}
use Rattle.can_node.specs.PlainBits.MayGoOnBy.{reads_on, sends_on, waits_on}
use Rattle.can_node.proofs.ErrorMoves.{delimit_ends, delimit_on}
use Rattle.can_node.proofs.FlagMoves.{wait_over}
use Rattle.can_node.proofs.Moves.{intermission_ends, intermission_on, suspend_ends, suspend_on}
use Rattle.can_node.proofs.PassiveMoves.{passive_dominant, passive_recessive}
use Rattle.can_node.proofs.PlainBits.{behind, goes_plainly, goes_sending, not_the_last, off_broken_plain}
use Rattle.can_node.proofs.PlainBits.{off_counts_plain, off_longer_plain}

-- so with the first of them
ahead_taken : (spelling : Spelling) (place n : ℕ) (levels : List Bool) → StandAhead spelling place levels →
    StandAhead spelling place (take n levels)
ahead_taken spelling place zero levels h = tt
ahead_taken spelling place (suc n) [] h = tt
ahead_taken spelling place (suc n) (level ∷ levels) h =
    (h.0, h.1, h.2, ahead_taken spelling (place + 1) n levels h.3)

out_taken : (state : State) (n : ℕ) (levels : List Bool) → StaysOut state levels → StaysOut state (take n levels)
out_taken state zero levels h = tt
out_taken state (suc n) [] h = tt
out_taken state (suc n) (level ∷ levels) h = (h.0, out_taken (out_behind state level) n levels h.1)

pub may_taken : (is_sender : Bool) (n : ℕ) (levels : List Bool) (node : Node) → MayGoOnBy is_sender levels node →
    MayGoOnBy is_sender (take n levels) node
may_taken is_sender n levels node (sends_on start place is here ahead short) =
    sends_on start place is here (ahead_taken node.spelling place n levels ahead)
    (omega (arith, short, length-take n levels))
may_taken is_sender n levels node (waits_on is out) = waits_on is (out_taken node.state n levels out)
may_taken is_sender n levels node (reads_on is here goes) =
    reads_on is here (goes_on-take node.reader n levels goes)

-- one level more in bus off or in a flag
pub out_more : (state : State) (levels : List Bool) (level : Bool) → StaysOut state levels →
    stays_out level (out_behind_all state levels) ≡ true → StaysOut state (levels ++ level ∷ [])
out_more state [] level h stays = (stays, tt)
out_more state (x ∷ xs) level h stays = (h.0, out_more (out_behind state x) xs level h.1 stays)

pub behind_more : (state : State) (levels : List Bool) (level : Bool) →
    out_behind_all state (levels ++ level ∷ []) ≡ out_behind (out_behind_all state levels) level
behind_more state [] level = refl
behind_more state (x ∷ xs) level = behind_more (out_behind state x) xs level

pub stays_at : (state : State) (i : ℕ) (levels : List Bool) → StaysOut state levels → i < length levels →
    stays_out (get_or levels i false) (out_behind_all state (take i levels)) ≡ true
stays_at state i [] h within = absurd (omega (arith, within))
stays_at state zero (x ∷ xs) h within = h.0
stays_at state (suc i) (x ∷ xs) h within = stays_at (out_behind state x) i xs h.1 (omega (arith, within))

-- as many levels as were gone through, and one more
pub stays_none : (state : State) (levels : List Bool) → StaysBy state levels 0 state
stays_none state levels = record { few = omega arith; stays = tt; next_is = refl }

pub stays_more : (state here next : State) (levels : List Bool) (i : ℕ) → i < length levels →
    StaysBy state levels i here → stays_out (get_or levels i false) here ≡ true →
    next ≡ out_behind here (get_or levels i false) → StaysBy state levels (i + 1) next
stays_more state here next levels i within by stays is =
    let level = get_or levels i false in
    let so_far = take i levels in
    record {
      few = omega (arith, within);
      stays = rw (take_more levels i false within)
          (out_more state so_far level by.stays (ap (stays_out level) (sym by.next_is) ∙ stays));
      next_is = rw (take_more levels i false within)
          (is ∙ ap (λ s. out_behind s level) by.next_is ∙ sym (behind_more state so_far level));
    }

pub stays_end : (state here : State) (levels : List Bool) (i : ℕ) → StaysBy state levels i here →
    stays_out (get_or levels i false) here ≡ false → StaysNoLonger state levels i
stays_end state here levels i by ends within = ap (stays_out (get_or levels i false)) (sym by.next_is) ∙ ends

-- with all of them
pub stays_all : (state here : State) (levels : List Bool) (i : ℕ) → length levels ≤ i → StaysBy state levels i here →
    StaysBy state levels (length levels) here
stays_all state here levels i past by =
    let all : i ≡ length levels = let few = by.few in omega (arith, past, few) in
    subst (λ n. StaysBy state levels n here) all by

pub whole_stay : (state next : State) (levels : List Bool) (count : ℕ) → StaysBy state levels count next →
    StaysNoLonger state levels count → StaysOut state levels → next ≡ out_behind_all state levels
whole_stay state next levels count by ends out = elim (leb_tells (length levels) count) [
  | inl all ↦ by.next_is ∙ ap (out_behind_all state) (take_all count levels all.1)
  | inr more ↦
      let within : count < length levels = let less = more.1 in omega (arith, less) in
      absurd (let not = ends within in let stays = stays_at state count levels out within in cc (not, stays))
]

pub is_not : (b : Bool) → not b ≡ false → b ≡ true
is_not true h = refl
is_not false h = absurd (cc h)

-- or in a passive error flag
flag_next : (role : Role) (owes : Bool) (ones dominant more none : ℕ) (level : Bool) →
    more ≡ cond level (ones + 1) 0 → none ≡ cond (not level) (dominant + 1) 0 →
    PassiveErrorFlag role owes more none ≡ out_behind (PassiveErrorFlag role owes ones dominant) level
flag_next role owes ones dominant more none true is too = rw (is, too) refl
flag_next role owes ones dominant more none false is too = rw (is, too) refl

pub flag_more : (role : Role) (owes : Bool) (o z ones zeros more none : ℕ) (levels : List Bool) (i : ℕ) →
    i < length levels → StaysBy (PassiveErrorFlag role owes o z) levels i (PassiveErrorFlag role owes ones zeros) →
    stays_out (get_or levels i false) (PassiveErrorFlag role owes ones zeros) ≡ true →
    more ≡ cond (get_or levels i false) (ones + 1) 0 → none ≡ cond (not (get_or levels i false)) (zeros + 1) 0 →
    StaysBy (PassiveErrorFlag role owes o z) levels (i + 1) (PassiveErrorFlag role owes more none)
flag_more role owes o z ones zeros more none levels i within by stays is too =
    stays_more (PassiveErrorFlag role owes o z) (PassiveErrorFlag role owes ones zeros)
    (PassiveErrorFlag role owes more none) levels i within by stays
    (flag_next role owes ones zeros more none (get_or levels i false) is too)

-- the node behind so many bits at which nothing but its state changes
abbrev behind_by : Node → State → ℕ → Node
behind_by node state bits = record {
  state = state;
  reader = node.reader;
  spelling = node.spelling;
  counters = node.counters;
  clock = node.clock + bits;
}

-- one that sends
sends_by : (node : Node) (start place : ℕ) (levels : List Bool) → node.state ≡ Transmitting start place →
    StandAhead node.spelling place levels → place + length levels ≤ 255 →
    GoesOnBy true node levels (behind_by node (Transmitting start (place + length levels)) (length levels))
sends_by node start place [] here ahead short =
    let state : Transmitting start (place + 0) ≡ node.state = ap (λ p. Transmitting start p) (omega arith) ∙ sym here in
    let clock : node.clock + 0 ≡ node.clock = omega arith in
    rw (state, clock) refl
sends_by node start place (level ∷ levels) here ahead short =
    let mid = behind node (Transmitting start (place + 1)) in
    let n = length levels in
    let further : place + suc n ≡ place + 1 + n = omega arith in
    let later : node.clock + suc n ≡ node.clock + 1 + n = omega arith in (
      mid,
      goes_sending node start place (place + 1) level here
          (echoed ahead.0 (λ e. let short = ahead.1 in omega (arith, e, short)) ahead.2)
          (omega (arith, short)),
      ap (λ state. level_in state node.spelling) here ∙ sym ahead.2,
      rw (further, later) (sends_by mid start (place + 1) levels refl ahead.3 (omega (arith, short))),
    )

-- one that stays in bus off or in a flag, or waits on
pub record IsOut (state : State) (level : Bool) : Type 0 where
  pub plain : is_plain level state ≡ true
  pub leaves : (counters : Counters) (now : ℕ) → LeavesPlainly state counters now level (out_behind state level)
  pub drives : (spelling : Spelling) → level_in state spelling ≡ true
  pub begins : may_start state ≡ false
  pub sends : is_sending state ≡ false
  pub sends_then : is_sending (out_behind state level) ≡ false

few_of : (n most : ℕ) → nat_le n most ≡ true → n ≤ most
few_of n most h = elim (leb_tells n most) [ inl is ↦ is.1 | inr not ↦ absurd (let no = not.0 in cc (no, h)) ]

one_out : (state : State) (level : Bool) (next : State) → is_plain level state ≡ true →
    ((spelling : Spelling) → level_in state spelling ≡ true) → may_start state ≡ false → is_sending state ≡ false →
    out_behind state level ≡ next → is_sending next ≡ false →
    ((counters : Counters) (now : ℕ) → LeavesPlainly state counters now level next) → IsOut state level
one_out state level next plain drives begins sends next_is sends_then leaves = record {
  plain = plain;
  leaves = λ counters now. subst (LeavesPlainly state counters now level) (sym next_is) (leaves counters now);
  drives = drives;
  begins = begins;
  sends = sends;
  sends_then = ap is_sending next_is ∙ sends_then;
}

-- in bus off
off_out : (runs ones : ℕ) (level : Bool) (next : State) → stays_out level (BusOffRecovery runs ones) ≡ true →
    out_behind (BusOffRecovery runs ones) level ≡ next → is_sending next ≡ false →
    ((counters : Counters) (now : ℕ) → LeavesPlainly (BusOffRecovery runs ones) counters now level next) →
    IsOut (BusOffRecovery runs ones) level
off_out runs ones level next h next_is sends leaves =
    one_out (BusOffRecovery runs ones) level next h (λ spelling. refl) refl refl next_is sends leaves

-- with a recessive level that makes a turn which is the same in each error state
waits_out : (state next : State) → is_plain true state ≡ true → ((spelling : Spelling) → level_in state spelling ≡
    true) →
    may_start state ≡ false → is_sending state ≡ false → out_behind state true ≡ next → is_sending next ≡ false →
    is_taking next ≡ false → ((now : ℕ) (e : ErrorState) → Goes state now e true (uneventful next)) → IsOut state true
waits_out state next plain drives begins sends next_is sends_then reads goes =
    one_out state true next plain drives begins sends next_is sends_then (λ counters now. record {
      goes = goes now (state_of (counts_of counters));
      reads_none = reads;
    })

-- in the intermission, behind a frame that it read where that ends
intermission_out : (role : Role) (ones : ℕ) → (nat_le ones 1 ≡ false → role ≡ Receiver) → IsOut (InIntermission role ones) true
intermission_out role ones receiver = elim (leb_tells ones 1) [
  | inl few ↦
      let least = few.1 in
      waits_out (InIntermission role ones) (InIntermission role (ones + 1)) refl (λ spelling. refl) refl refl
      (ap (λ b. cond b (InIntermission role (ones + 1)) BusIdle) few.0) refl refl
      (λ now e. intermission_on role ones now e (omega (arith, least)))
  | inr many ↦
      let more = many.1 in
      waits_out (InIntermission role ones) BusIdle refl (λ spelling. refl) refl refl
      (ap (λ b. cond b (InIntermission role (ones + 1)) BusIdle) many.0) refl refl
      (λ now e. intermission_ends role ones now e (omega (arith, more)) (ap (λ r. suspends r e) (receiver many.0)))
]

pub is_out : (state : State) (level : Bool) → stays_out level state ≡ true → IsOut state level
is_out (BusOffRecovery runs ones) true h = elim (leb_tells ones 9) [
  | inl few ↦ off_out runs ones true (BusOffRecovery runs (ones + 1)) h
      (ap (λ b. cond b (BusOffRecovery runs (ones + 1)) (BusOffRecovery (runs + 1) 0)) few.0) refl
      (λ counters now. off_longer_plain runs ones counters now (let least = few.1 in omega (arith, least)))
  | inr many ↦
      let whole : 10 ≤ ones = let more = many.1 in omega (arith, more) in
      off_out runs ones true (BusOffRecovery (runs + 1) 0) h
      (ap (λ b. cond b (BusOffRecovery runs (ones + 1)) (BusOffRecovery (runs + 1) 0)) many.0) refl
      (λ counters now. off_counts_plain runs ones counters now whole (not_the_last runs ones h whole))
]
is_out (BusOffRecovery runs ones) false h =
    off_out runs ones false (BusOffRecovery runs 0) h refl refl (λ counters now. off_broken_plain runs ones counters
    now)
is_out (PassiveErrorFlag role owes ones zeros) true h =
    waits_out (PassiveErrorFlag role owes ones zeros) (PassiveErrorFlag role owes (ones + 1) 0) refl (λ spelling. refl)
    refl
    refl refl refl refl
    (λ now e. passive_recessive role owes ones zeros now e (let few = few_of ones 4 h in omega (arith, few)))
is_out (PassiveErrorFlag role true ones zeros) false h = absurd (cc h)
is_out (PassiveErrorFlag role false ones zeros) false h =
    one_out (PassiveErrorFlag role false ones zeros) false (PassiveErrorFlag role false 0 (zeros + 1)) refl
    (λ spelling. refl) refl refl refl refl (λ counters now. record {
      goes = passive_dominant role ones zeros now (state_of (counts_of counters))
          (let few = few_of zeros 4 h in omega (arith, few));
      reads_none = refl;
    })
is_out (AwaitingDelimiter kind role until first) true h =
    waits_out (AwaitingDelimiter kind role until first) (InDelimiter role 1) refl (λ spelling. refl) refl refl refl refl
    refl
    (λ now e. wait_over kind role until now first e)
is_out (InDelimiter role ones) true h = elim (leb_tells ones 6) [
  | inl few ↦
      let least = few.1 in
      waits_out (InDelimiter role ones) (InDelimiter role (ones + 1)) refl (λ spelling. refl) refl refl
      (ap (λ b. cond b (InDelimiter role (ones + 1)) (InIntermission role 0)) few.0) refl refl
      (λ now e. delimit_on role ones now e (omega (arith, least)))
  | inr many ↦
      let more = many.1 in
      waits_out (InDelimiter role ones) (InIntermission role 0) refl (λ spelling. refl) refl refl
      (ap (λ b. cond b (InDelimiter role (ones + 1)) (InIntermission role 0)) many.0) refl refl
      (λ now e. delimit_ends role ones now e (omega (arith, more)))
]
is_out (InIntermission Receiver ones) true h = intermission_out Receiver ones (λ more. refl)
is_out (InIntermission Sender ones) true h =
    intermission_out Sender ones (λ more. absurd (let on = ap (λ b. b || false) (sym more) ∙ h in cc on))
is_out (SuspendTransmission ones) true h = elim (leb_tells ones 6) [
  | inl few ↦
      let least = few.1 in
      waits_out (SuspendTransmission ones) (SuspendTransmission (ones + 1)) refl (λ spelling. refl) refl refl
      (ap (λ b. cond b (SuspendTransmission (ones + 1)) BusIdle) few.0) refl refl
      (λ now e. suspend_on ones now e (omega (arith, least)))
  | inr many ↦
      let more = many.1 in
      waits_out (SuspendTransmission ones) BusIdle refl (λ spelling. refl) refl refl
      (ap (λ b. cond b (SuspendTransmission (ones + 1)) BusIdle) many.0) refl refl
      (λ now e. suspend_ends ones now e (omega (arith, more)))
]
is_out state level h = absurd (cc h)

out_by : (node : Node) (levels : List Bool) → StaysOut node.state levels →
    GoesOnBy false node levels (behind_by node (out_behind_all node.state levels) (length levels))
out_by node [] out =
    let clock : node.clock + 0 ≡ node.clock = omega arith in
    rw clock refl
out_by node (level ∷ levels) out =
    let next = out_behind node.state level in
    let mid = behind node next in
    let n = length levels in
    let later : node.clock + suc n ≡ node.clock + 1 + n = omega arith in
    let is = is_out node.state level out.0 in (
      mid,
      goes_plainly node level next is.plain (is.leaves node.counters node.clock),
      is.drives node.spelling,
      rw later (out_by mid levels out.1),
    )

-- its state determines which it is
pub sending_by : (node : Node) (start place next n : ℕ) (levels : List Bool) (is_sender : Bool) →
    node.state ≡ Transmitting start place → n ≡ length levels → next ≡ min (place + n) 255 →
    place ≤ 255 → MayGoOnBy is_sender levels node →
    GoesOnBy is_sender node levels (behind_by node (Transmitting start next) n)
sending_by node start place next n levels is_sender here size next_is fits (sends_on s p is there ahead short) =
    let same : Transmitting s p ≡ Transmitting start place = sym there ∙ here in
    let started : s ≡ start = cc same in
    let placed : p ≡ place = cc same in
    let end : next ≡ p + length levels = omega (arith, size, next_is, short, placed) in
    rw (is, sym started, end, size) (sends_by node s p levels there ahead short)
sending_by node start place next n [] is_sender here size next_is fits (waits_on is out) =
    let end : Transmitting start next ≡ node.state =
    ap (λ p. Transmitting start p) (omega (arith, size, next_is, fits)) ∙ sym here in
    let clock : node.clock + n ≡ node.clock = omega (arith, size) in
    rw (end, clock) refl
sending_by node start place next n (level ∷ levels) is_sender here size next_is fits (waits_on is out) =
    absurd (let not : stays_out level node.state ≡ false = ap (stays_out level) here in
    let stays = out.0 in cc (not, stays))
sending_by node start place next n levels is_sender here size next_is fits (reads_on is there goes) =
    absurd (let elsewhere : is_in_region node.state ≡ false = ap is_in_region here in cc (elsewhere, there))

pub waiting_by : (node : Node) (next : State) (n : ℕ) (levels : List Bool) (is_sender : Bool) →
    ((start place : ℕ) → node.state ≡ Transmitting start place → ⊥) → is_in_region node.state ≡ false →
    n ≡ length levels → (StaysOut node.state levels → next ≡ out_behind_all node.state levels) →
    MayGoOnBy is_sender levels node → GoesOnBy is_sender node levels (behind_by node next n)
waiting_by node next n levels is_sender not elsewhere size next_is (sends_on s p is there ahead short) =
    absurd (not s p there)
waiting_by node next n levels is_sender not elsewhere size next_is (waits_on is out) =
    rw (is, next_is out, size) (out_by node levels out)
waiting_by node next n levels is_sender not elsewhere size next_is (reads_on is here goes) =
    absurd (cc (elsewhere, here))

-- no more levels than it has places
pub short_by : (node : Node) (start place : ℕ) (levels : List Bool) (is_sender : Bool) →
    node.state ≡ Transmitting start place → MayGoOnBy is_sender levels node → length levels ≤ 255
short_by node start place levels is_sender here (sends_on s p is there ahead short) = omega (arith, short)
short_by node start place [] is_sender here (waits_on is out) = omega arith
short_by node start place (level ∷ levels) is_sender here (waits_on is out) =
    absurd (let not : stays_out level node.state ≡ false = ap (stays_out level) here in
    let stays = out.0 in cc (not, stays))
short_by node start place levels is_sender here (reads_on is there goes) =
    absurd (let elsewhere : is_in_region node.state ≡ false = ap is_in_region here in cc (elsewhere, there))
