-- Nodes that are left alone while a listener follows the line for them.
use Rattle.std.proofs.Common.{◌≡◌, ◌⊎◌, inl, inr, ℕ, ◌+◌, Bool, true, false, Option, None, Some, List, [], ◌∷◌}
use Rattle.std.proofs.Common.{◌++◌, refl, sym, ap, subst, ◌∙◌}
use Rattle.std.proofs.lemmas.List.Sums.{fold-append}
use Rattle.can_frame.specs.Reading.{IsPush, ReadsOn, StandsAs, StandsAfter as ReaderStandsAfter, IsReading}
use Rattle.can_frame.specs.declared.step.Step.{Step}
use Rattle.can_frame.specs.declared.step.Step.TheVariants.{More, StuffBit, Tail, Taken}
use Rattle.can_frame.specs.Frames.{FrameValue}
use Rattle.can_frame.specs.declared.reader.Reader.{Reader}
use Rattle.can_confinement.specs.declared.confinement.ErrorEvent.{ErrorEvent}
use Rattle.can_confinement.specs.declared.confinement.ErrorEvent.TheVariants.{Received}
use Rattle.can_confinement.specs.declared.confinement.ErrorState.{ErrorState}
use Rattle.can_confinement.specs.declared.known_counts.KnownCounts.{KnownCounts}
use Rattle.can_confinement.specs.declared.known_counts.KnownCounts.TheVariants.{Zero}
use Rattle.can_confinement.specs.KnownCounts.{Knows}
use Rattle.can_confinement.specs.declared.counters.Counters.{Counters}
use Rattle.can_node.specs.declared.outcome.Outcome.{Outcome}
use Rattle.can_node.specs.declared.shared_sample.HeardLevel.{HeardLevel}
use Rattle.can_node.specs.declared.outcome.Outcome.TheVariants.{Nothing, Took}
use Rattle.can_node.specs.declared.state.State.{State}
use Rattle.can_node.specs.declared.state.State.TheVariants.{LastEofBit, BusIdle, Receiving}
use Rattle.can_node.specs.declared.state.Stage.{Stage}
use Rattle.can_node.specs.declared.state.Stage.TheVariants.{Region, AfterRegion, Slot, AfterSlot}
use Rattle.can_node.specs.declared.state.Transition.{Transition}
use Rattle.can_frame.specs.declared.spelling.Spelling.{Spelling}
use Rattle.can_node.specs.declared.node.Node.{Node}
use Rattle.can_node.specs.declared.shared_receiver.SharedReceiver.{SharedReceiver}
use Rattle.can_confinement.specs.Confinement.{no_counts, is_off, after_event, counts_after, state_of}
use Rattle.can_confinement.specs.Counters.{StandsAfter as CountersStandAfter, counts_of}
use Rattle.can_node.specs.Machine.{Advances, behind_end, Counts, Goes, GoesReading, IsMade, ReaderStands, Steps}
use Rattle.can_node.specs.Machine.{is_in_region}
use Rattle.can_node.specs.Machine.{is_sending, is_taking, level_in, may_start, uneventful}
use Rattle.can_node.specs.Machine.EventEffect.{stays_on}
use Rattle.can_node.specs.Node.{IsSample}
use Rattle.can_node.specs.SharedReceiver.{AllHear, AllTake, Follows, Idles, IsUnseen, ReadsAlong, Matches}
use Rattle.can_node.specs.SharedReceiver.{materialized, taken_up}
use Rattle.can_node.proofs.Samples.{counts_none, uneventful_steps, samples}
use Rattle.can_node.specs.PlainBits.{LeavesPlainly}
use Rattle.can_node.proofs.PlainSteps.{plain_steps}
use Rattle.can_node.proofs.Advancing.{idle_advances, other_advances, reading_advances}
use Rattle.can_node.proofs.Advancing.{staying_advances}
use Rattle.can_node.proofs.TakeMoves.{tail_delimiter, tail_later, take_taken}

abbrev listening : State → Reader → SharedReceiver
listening state reader = record { state = state; reader = reader }

follows_by : (known : KnownCounts) (old new : SharedReceiver) (bit : ℕ) (level : Bool) →
    ((node : Node) → Knows known node.counters →
    Steps old.state node.counters old.reader node.spelling bit level Nothing new.state node.counters new.reader) →
    Follows known old bit level new
follows_by known old new bit level steps node counts =
    samples (materialized node old bit) (materialized node new (bit + 1)) level Nothing (steps node counts) refl refl

staying_follows : (known : KnownCounts) (start : ℕ) (old new : Reader) (bit : ℕ) (level : Bool) (step : Step) →
    IsPush old level step new → (step ≡ More) ⊎ (step ≡ StuffBit) →
    Follows known (listening (Receiving start false Region) old) bit level (listening (Receiving start false Region)
    new)
staying_follows known start old new bit level step push goes_on =
    let here = Receiving start false Region in
    follows_by known (listening here old) (listening here new) bit level
    (λ node counts. uneventful_steps here here node.counters old new node.spelling bit level
    (λ errors. staying_advances start false Region old new node.spelling bit errors level step push
    (record { reads = refl; inside = refl; goes_on = goes_on })))

-- within the stuffed region of a frame
pub region_follows : (known : KnownCounts) (state : State) (old new : Reader) (bit : ℕ) (level : Bool) →
    is_in_region state ≡ true → ReadsOn old level new →
    Follows known (listening state old) bit level (listening state new)
region_follows known (Receiving start false Region) old new bit level is (inl more) =
    staying_follows known start old new bit level More more (inl refl)
region_follows known (Receiving start false Region) old new bit level is (inr stuff) =
    staying_follows known start old new bit level StuffBit stuff (inr refl)
region_follows known state old new bit level is on = absurd (cc is)

-- on an idle bus
pub idle_follows : (known : KnownCounts) (state : State) (reader : Reader) (bit : ℕ) (level : Bool) → state ≡ BusIdle →
    level ≡ true →
    Follows known (listening state reader) bit level (listening state reader)
idle_follows known state reader bit level is recessive = rw (is, recessive)
    (follows_by known (listening BusIdle reader) (listening BusIdle reader) bit true
    (λ node counts. uneventful_steps BusIdle BusIdle node.counters reader reader node.spelling bit true
    (λ errors. idle_advances reader node.spelling bit errors)))

pub idles : (state : State) (reader : Reader) → state ≡ BusIdle → Idles (listening state reader)
idles state reader is = record {
  drives = λ node bit. ap (λ s. level_in s node.spelling) is;
  follows = λ known bit. idle_follows known state reader bit true is refl;
  listens = ap is_sending is;
}

-- a frame received changes no count that is 0
counts_received : (counters : Counters) → counts_of counters ≡ no_counts → (events : List ErrorEvent) →
    Counts counters counters (Some Received) false events
counts_received counters none events =
    let after : CountersStandAfter counters events → counts_after (events ++ Received ∷ []) ≡ no_counts =
    λ h. fold-append after_event no_counts events (Received ∷ [])
    ∙ ap (λ counts. after_event counts Received) (sym h ∙ none) in
    record { stands = λ h. none ∙ sym (after h); effect = λ h. stays_on Received (ap is_off (after h)) }

counts_unseen : (known : KnownCounts) (counters : Counters) (event : Option ErrorEvent) → Knows known counters →
    (event ≡ None) ⊎ ((known ≡ Zero) × (event ≡ Some Received)) → (events : List ErrorEvent) →
    Counts counters counters event false events
counts_unseen known counters event counts (inl is) events = counts_none counters event is events
counts_unseen known counters event counts (inr is) events =
    rw is.1 (counts_received counters (subst (λ k. Knows k counters) is.0 counts) events)

unseen_follows : (known : KnownCounts) (old new : SharedReceiver) (bit : ℕ) (level : Bool) (transition : Transition) →
    IsUnseen known transition → new.state ≡ transition.state →
    ((spelling : Spelling) (errors : ErrorState) →
    Advances old.state old.reader spelling bit errors level transition new.reader) → Follows known old bit level new
unseen_follows known old new bit level transition unseen state_is advances =
    follows_by known old new bit level (λ node counts. record {
      transition = transition;
      errors = state_of (counts_of node.counters);
      shows = λ events h. ap state_of h;
      advances = advances node.spelling (state_of (counts_of node.counters));
      is_made = record {
        off = false;
        counts = counts_unseen known node.counters transition.event counts unseen.counts_none;
        ends_in = (state_is, sym unseen.reports_none);
      };
    })

-- a level of a frame with which all read on
pub reading_follows : (known : KnownCounts) (old : SharedReceiver) (start : ℕ) (may : Bool) (stage : Stage) (new :
    Reader)
    (bit : ℕ) (level : Bool) (step : Step) (transition : Transition) → old.state ≡ Receiving start may stage →
    IsPush old.reader level step new → ((errors : ErrorState) (may : Bool) →
    GoesReading (Receiving start may stage) errors step level transition) → IsUnseen known transition →
    Follows known old bit level (listening transition.state new)
reading_follows known old start may stage new bit level step transition is push goes unseen =
    unseen_follows known old (listening transition.state new) bit level transition unseen refl
    (λ spelling errors. rw is (reading_advances start may stage old.reader new spelling bit errors level step transition
    push
    (goes errors)))

-- a level outside of one
pub other_follows : (known : KnownCounts) (old : SharedReceiver) (new : Reader) (bit : ℕ) (level : Bool) (transition :
    Transition) →
    is_sending old.state ≡ false → ((errors : ErrorState) → Goes old.state bit errors level transition) →
    IsUnseen known transition → (is_taking transition.state ≡ true → ReaderStandsAfter new (false ∷ [])) →
    (is_taking transition.state ≡ true → IsReading new) → Follows known old bit level (listening transition.state new)
other_follows known old new bit level transition sends_none goes unseen stands reading =
    unseen_follows known old (listening transition.state new) bit level transition unseen refl
    (λ spelling errors. other_advances old.state old.reader new spelling bit errors level transition sends_none
    (goes errors) stands reading)

-- a level with which a flag, a delimiter or the intermission goes on
pub plain_follows : (known : KnownCounts) (old : SharedReceiver) (next : State) (bit : ℕ) (level : Bool) →
    is_sending old.state ≡ false → ((counters : Counters) → LeavesPlainly old.state counters bit level next) →
    Follows known old bit level (listening next old.reader)
plain_follows known old next bit level sends_none leaves =
    follows_by known old (listening next old.reader) bit level (λ node counts.
    plain_steps old.state next node.counters old.reader node.spelling bit level sends_none (leaves node.counters))

-- a node that has come as far as a listener
same_reads : (state : State) (one other : Reader) (text : List Bool) → (is_taking state ≡ true → StandsAs one other) →
    ReaderStands state one text → ReaderStands state other text
same_reads state one other text same reads = record {
  stands = λ is. (same is).stands text (reads.stands is);
  reading = λ is. (same is).reading (reads.reading is);
}

pub matches : (node : Node) (shared_receiver : SharedReceiver) → node.state ≡ shared_receiver.state → is_sending
    node.state ≡ false →
    (is_taking node.state ≡ true → StandsAs node.reader shared_receiver.reader) →
    Matches node shared_receiver
matches node shared_receiver is sends_none same = record {
  stands = λ past h. record {
    text = h.text;
    in_state = rw (sym is) h.in_state;
    reads = rw (sym is) (same_reads node.state node.reader shared_receiver.reader h.text same h.reads);
    clock_is = h.clock_is;
    counted = h.counted;
  };
  begins = ap may_start (sym is);
  listening = ap is_sending (sym is) ∙ sends_none;
}

-- One that reads on in the stuffed region drives recessive, and doesn't begin to send.
region_drives : (state : State) (spelling : Spelling) → is_in_region state ≡ true → level_in state spelling ≡ true
region_drives (Receiving start false Region) spelling is = refl
region_drives state spelling is = absurd (cc is)

pub region_begins : (state : State) → is_in_region state ≡ true → may_start state ≡ false
region_begins (Receiving start false Region) is = refl
region_begins state is = absurd (cc is)

region_listens : (state : State) → is_in_region state ≡ true → is_sending state ≡ false
region_listens (Receiving start false Region) is = refl
region_listens state is = absurd (cc is)

-- a bit of the stuffed region is read along
pub along_region : (shared_receiver : SharedReceiver) (reader : Reader) (level : Bool) → is_in_region
    shared_receiver.state ≡ true →
    ReadsOn shared_receiver.reader level reader → ReadsAlong shared_receiver level (listening shared_receiver.state
    reader)
along_region shared_receiver reader level inside reads = record {
  drives = λ other bit. region_drives shared_receiver.state other.spelling inside;
  begins = λ other bit. region_begins shared_receiver.state inside;
  follows = λ known bit. region_follows known shared_receiver.state shared_receiver.reader reader bit level inside
      reads;
  listens = region_listens shared_receiver.state inside;
}

end_follows : (known : KnownCounts) (start : ℕ) (stage : Stage) (behind : State) (old new : Reader) (bit : ℕ)
    (level : Bool) → is_sending behind ≡ false →
    ((errors : ErrorState) (may : Bool) → GoesReading (Receiving start may stage) errors Tail level (uneventful behind))
    →
    IsPush old level Tail new →
    Follows known (listening (Receiving start false stage) old) bit level (listening behind new)
end_follows known start stage behind old new bit level sends_none goes push =
    reading_follows known (listening (Receiving start false stage) old) start false stage new bit level Tail
    (uneventful behind) refl push goes
    (record { reports_none = refl; counts_none = inl refl; sends_none = sends_none })

-- so is a bit behind it with which the frame goes on, but the ACK slot
pub along_end : (state behind : State) (old new : Reader) (level : Bool) → behind_end state ≡ Some behind →
    IsPush old level Tail new → ReadsAlong (listening state old) level (listening behind new)
along_end (Receiving start false (AfterRegion right)) behind old new level is push =
    let next : Receiving start false (Slot right) ≡ behind = cc is in
    subst (λ s. ReadsAlong (listening (Receiving start false (AfterRegion right)) old) level (listening s new)) next
    (record {
      drives = λ other bit. refl;
      begins = λ other bit. refl;
      follows = λ known bit. end_follows known start (AfterRegion right)
          (Receiving start false (Slot right)) old new bit level refl
          (λ errors may. tail_delimiter start may right errors level) push;
      listens = refl;
    })
along_end (Receiving start false AfterSlot) behind old new level is push =
    let next : Receiving start false AfterSlot ≡ behind = cc is in
    subst (λ s. ReadsAlong (listening (Receiving start false AfterSlot) old) level (listening s new)) next (record {
      drives = λ other bit. refl;
      begins = λ other bit. refl;
      follows = λ known bit. end_follows known start AfterSlot (Receiving start false AfterSlot) old new bit level refl
          (λ errors may. tail_later start may errors level) push;
      listens = refl;
    })
along_end state behind old new level is push = absurd (cc is)

-- a frame that is taken: the reader has done its work
other_reader : (state : State) (old new other : Reader) (spelling : Spelling) (now : ℕ) (errors : ErrorState)
    (level : Bool) (transition : Transition) → is_taking transition.state ≡ false →
    Advances state old spelling now errors level transition new →
    Advances state old spelling now errors level transition other
other_reader state old new other spelling now errors level transition none advances text at before phase part events
    clock err
    agrees holds reads =
    let lands = advances text at before phase part events clock err agrees holds reads in
    record {
      after = lands.after;
      lands = lands.lands;
      reads = record { stands = λ is. absurd (cc (is, none)); reading = λ is. absurd (cc (is, none)) };
    }

pub all_take : (shared_receiver : SharedReceiver) (start : ℕ) (may : Bool) (stage : Stage) (level : Bool) (frame :
    FrameValue)
    (new : Reader) → shared_receiver.state ≡ Receiving start may stage → IsPush shared_receiver.reader level (Taken
    frame) new →
    AllTake shared_receiver level (record { start = start; frame = frame })
all_take shared_receiver start may stage level frame new here push node bit =
    let transition : Transition = record { state = LastEofBit; event = None; outcome = Took start frame } in
    samples (materialized node shared_receiver bit) (taken_up node bit) level (Took start frame) (rw here (record {
      transition = transition;
      errors = state_of (counts_of node.counters);
      shows = λ events h. ap state_of h;
      advances = other_reader (Receiving start may stage) shared_receiver.reader new node.reader node.spelling bit
          (state_of (counts_of node.counters)) level transition refl
          (reading_advances start may stage shared_receiver.reader new node.spelling bit (state_of (counts_of
          node.counters))
          level (Taken frame) transition push
          (λ may. take_taken start may stage (state_of (counts_of node.counters)) level frame));
      is_made = record { off = false; counts = counts_none node.counters None refl; ends_in = (refl, refl) };
    })) refl refl

-- One that reads a frame as all do: where it reads on its reader is that of all, and else it has done its work.
heard_advances : (start : ℕ) (may : Bool) (stage : Stage) (old new own : Reader) (spelling : Spelling) (now : ℕ)
    (errors : ErrorState) (level : Bool) (step : Step) (transition : Transition) (taking : Bool) → is_taking
    transition.state ≡ taking →
    (taking ≡ true → own ≡ new) → IsPush old level step new →
    ((may : Bool) → GoesReading (Receiving start may stage) errors step level transition) →
    Advances (Receiving start may stage) old spelling now errors level transition own
heard_advances start may stage old new own spelling now errors level step transition true is copied push goes =
    subst (Advances (Receiving start may stage) old spelling now errors level transition) (sym (copied refl))
    (reading_advances start may stage old new spelling now errors level step transition push goes)
heard_advances start may stage old new own spelling now errors level step transition false is copied push goes =
    other_reader (Receiving start may stage) old new own spelling now errors level transition is
    (reading_advances start may stage old new spelling now errors level step transition push goes)

pub all_hear : (shared_receiver : SharedReceiver) (bit : ℕ) (level : Bool) (heard : HeardLevel) (transition :
    Transition) (outcome : Outcome)
    (old new : Node) (taking : Bool) → AllHear shared_receiver level heard →
    ((may : Bool) →
    GoesReading (Receiving heard.start may heard.stage) (state_of (counts_of old.counters)) heard.step level transition)
    →
    is_taking transition.state ≡ taking → (taking ≡ true → new.reader ≡ heard.reader) →
    IsMade transition old.counters new.counters new.state outcome → new.spelling ≡ old.spelling → new.clock ≡ bit + 1 →
    IsSample (materialized old shared_receiver bit) level outcome new
all_hear shared_receiver bit level heard transition outcome old new taking all goes is copied made same clock_is =
    let errors = state_of (counts_of old.counters) in
    samples (materialized old shared_receiver bit) new level outcome
    (subst (λ state. Steps state old.counters shared_receiver.reader old.spelling bit level outcome new.state
    new.counters
    new.reader) (sym all.state_is) (record {
      transition = transition;
      errors = errors;
      shows = λ events h. ap state_of h;
      advances = heard_advances heard.start all.may_begin heard.stage shared_receiver.reader heard.reader new.reader
          old.spelling bit errors level heard.step transition taking is copied all.push goes;
      is_made = made;
    })) same clock_is
