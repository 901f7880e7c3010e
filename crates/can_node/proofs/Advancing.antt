-- A node's state and its reader behind one bit more.
use Rattle.std.proofs.Common.{◌≡◌, inl, inr, ℕ, ◌+◌, ◌<◌, Bool, true, false, [], ◌∷◌, ◌++◌, take, refl, sym, subst}
use Rattle.can_frame.specs.Reading.{StandsAfter as ReaderStandsAfter, IsReading, IsPush}
use Rattle.can_frame.specs.declared.step.Step.TheVariants.{More, StuffBit}
use Rattle.can_frame.specs.declared.reader.Reader.{Reader}
use Rattle.can_frame.specs.declared.step.Step.{Step}
use Rattle.can_confinement.specs.declared.confinement.ErrorState.{ErrorState}
use Rattle.can_node.specs.declared.state.State.{State}
use Rattle.can_frame.specs.declared.spelling.Spelling.{Spelling}
use Rattle.can_node.specs.declared.state.State.TheVariants.{BusIdle, Receiving, BusOffRecovery, Transmitting}
use Rattle.can_node.specs.declared.state.Stage.{Stage}
use Rattle.can_node.specs.declared.state.Stage.TheVariants.{Region}
use Rattle.can_node.specs.declared.state.Transition.{Transition}
use Rattle.can_node.specs.Machine.{Lands, Goes, GoesReading, GoesSending, LosesAt, Advances, listed, uneventful}
use Rattle.can_node.specs.Machine.{StaysInRegion}
use Rattle.can_node.specs.Machine.{is_taking, is_sending, level_of, level_in}
use Rattle.can_node.proofs.Moves.{idle_on, off_broken, off_longer}
use Rattle.can_node.proofs.TakeMoves.{take_more, take_stuff}
use Rattle.can_node.proofs.Readers.{still_reading, reads_on}
use Rattle.can_node.proofs.SendMoves.{lost_text}

-- a node that reads a frame
pub reading_advances : (start : ℕ) (may : Bool) (stage : Stage) (old new : Reader) (spelling : Spelling) (now : ℕ)
    (errors : ErrorState) (level : Bool) (step : Step) (transition : Transition) → IsPush old level step new →
    ((may : Bool) → GoesReading (Receiving start may stage) errors step level transition) →
    Advances (Receiving start may stage) old spelling now errors level transition new
reading_advances start may stage old new spelling now errors level step transition push goes text at before phase part
    events
    clock err agrees holds reads =
    let next = push.next text (reads.reading refl) (reads.stands refl) in
    let both = goes may new text at before phase part events err agrees next in
    record {
      after = text ++ level ∷ [];
      lands = both.0;
      reads =
          record { stands = λ is. next.stands; reading = both.1 };
    }

-- A node that sends one. If it begins to read it has lost arbitration, and its reader has read what it drove.
pub sending_advances : (start place : ℕ) (old new : Reader) (spelling : Spelling) (now : ℕ) (errors : ErrorState)
    (level : Bool) (transition : Transition) → GoesSending start place spelling errors level transition →
    (is_taking transition.state ≡ true → LosesAt place spelling) →
    (is_taking transition.state ≡ true → ReaderStandsAfter new (take place spelling.levels.items ++ level ∷ [])) →
    Advances (Transmitting start place) old spelling now errors level transition new
sending_advances start place old new spelling now errors level transition goes lost read text at before phase part
    events
    clock err agrees holds reads =
    let after = text ++ level ∷ [] in
    let lands = goes text at before phase part events err agrees holds in
    let stands : is_taking transition.state ≡ true → ReaderStandsAfter new after =
    λ is. subst (λ t. ReaderStandsAfter new (t ++ level ∷ [])) (lost_text spelling (lost is) agrees holds)
    (read is) in
    record {
      after = after;
      lands = lands;
      reads =
          record { stands = stands; reading = λ is. still_reading new after (stands is) (reads_on lands is).undecided };
    }

-- a node that reads on as before
pub staying_advances : (start : ℕ) (may : Bool) (stage : Stage) (old new : Reader) (spelling : Spelling) (now : ℕ)
    (errors : ErrorState) (level : Bool) (step : Step) → IsPush old level step new →
    StaysInRegion may stage step → Advances (Receiving start may stage) old spelling now errors level
    (uneventful (Receiving start may stage)) new
staying_advances start may stage old new spelling now errors level step push h =
    let more : step ≡ More → Advances (Receiving start false Region) old spelling now errors level
    (uneventful (Receiving start false Region)) new =
    λ is. reading_advances start false Region old new spelling now errors level More _
    (subst (λ s. IsPush old level s new) is push) (λ m. take_more start m Region errors level) in
    let stuff : step ≡ StuffBit → Advances (Receiving start false Region) old spelling now errors level
    (uneventful (Receiving start false Region)) new =
    λ is. reading_advances start false Region old new spelling now errors level StuffBit _
    (subst (λ s. IsPush old level s new) is push) (λ m. take_stuff start m Region errors level) in
    subst (λ m. Advances (Receiving start m stage) old spelling now errors level (uneventful (Receiving start m stage))
    new)
    (sym h.reads)
    (subst (λ g. Advances (Receiving start false g) old spelling now errors level (uneventful (Receiving start false g))
    new)
    (sym h.inside)
    (elim h.goes_on [ inl is ↦ more is | inr is ↦ stuff is ]))

pub no_taking : (state : State) → ((start : ℕ) (may : Bool) (stage : Stage) → state ≡ Receiving start may stage → ⊥) →
    is_taking state ≡ false
no_taking (Receiving start may stage) h = absurd (h start may stage refl)
no_taking state h = refl

pub no_sending : (state : State) → ((start place : ℕ) → state ≡ Transmitting start place → ⊥) → is_sending state ≡ false
no_sending (Transmitting start place) h = absurd (h start place refl)
no_sending state h = refl

own_level : (state : State) (spelling : Spelling) → is_sending state ≡ false → level_in state spelling ≡ level_of state
own_level (Transmitting start place) spelling no_send = absurd (cc no_send)
own_level state spelling no_send = refl

-- a node that neither reads nor sends one before this bit
pub other_advances : (state : State) (old new : Reader) (spelling : Spelling) (now : ℕ) (errors : ErrorState)
    (level : Bool) (transition : Transition) → is_sending state ≡ false → Goes state now errors level transition →
    (is_taking transition.state ≡ true → ReaderStandsAfter new (false ∷ [])) → (is_taking transition.state ≡ true →
    IsReading new) →
    Advances state old spelling now errors level transition new
other_advances state old new spelling now errors level transition no_send goes stands reading text at before phase part
    events
    clock err agrees holds reads =
    let lands = goes text at before phase part events clock err agrees in
    let own = sym (own_level state spelling no_send) in
    record {
      after = false ∷ [];
      lands = subst (λ d. Lands transition.state transition.outcome (false ∷ []) at before phase
          (part ++ record { driven = d; sampled = level } ∷ []) (events ++ listed transition.event)) own lands;
      reads = record { stands = stands; reading = reading };
    }

-- an idle bus
pub idle_advances : (old : Reader) (spelling : Spelling) (now : ℕ) (errors : ErrorState) →
    Advances BusIdle old spelling now errors true (uneventful BusIdle) old
idle_advances old spelling now errors = other_advances BusIdle old old spelling now errors true (uneventful BusIdle)
    refl
    (idle_on now errors) (λ is. absurd (cc is)) (λ is. absurd (cc is))

-- in bus off a dominant bit breaks a run of recessive ones, and a recessive one makes it longer
pub broken_advances : (runs ones : ℕ) (old : Reader) (spelling : Spelling) (now : ℕ) (errors : ErrorState) →
    Advances (BusOffRecovery runs ones) old spelling now errors false (uneventful (BusOffRecovery runs 0)) old
broken_advances runs ones old spelling now errors =
    other_advances (BusOffRecovery runs ones) old old spelling now errors false (uneventful (BusOffRecovery runs 0))
    refl
    (off_broken runs ones now errors) (λ is. absurd (cc is)) (λ is. absurd (cc is))

pub longer_advances : (runs ones : ℕ) (old : Reader) (spelling : Spelling) (now : ℕ) (errors : ErrorState) → ones < 10 →
    Advances (BusOffRecovery runs ones) old spelling now errors true (uneventful (BusOffRecovery runs (ones + 1))) old
longer_advances runs ones old spelling now errors few =
    other_advances (BusOffRecovery runs ones) old old spelling now errors true (uneventful (BusOffRecovery runs (ones +
    1))) refl
    (off_longer runs ones now errors few) (λ is. absurd (cc is)) (λ is. absurd (cc is))
