-- The laws of the answers.
use Rattle.std.proofs.Common.{◌≡◌, ◌⊎◌, inl, inr, Bool, false, List, [], ◌∷◌, ◌++◌, refl, sym, ap, subst, ◌∙◌}
use Rattle.std.proofs.lemmas.List.{append-nil}
use Rattle.can_frame.specs.Frames.{FrameValue}
use Rattle.can_frame.specs.Fronts.{front_tail, IsFront, BeginsRough}
use Rattle.can_frame.specs.Answers.{Answers, FaultAnswers, IsFaulty, IsUndecided, IsLast}
use Rattle.can_frame.specs.Reading.{IsPush, IsReading, MayReadOn, Next, ReadsOn, StandsAfter, StandsAt, HasEnded}
use Rattle.can_frame.specs.Reading.{IsOpen, ReadsOnBy}
use Rattle.can_frame.specs.ReaderLaws.{ReadingIsUndecided, FrontsAreTaken, TakenAreFronts, FirstFaultsAreAnswered}
use Rattle.can_frame.specs.ReaderLaws.{AnsweredFaultsAreFirst}
use Rattle.can_frame.specs.declared.step.FaultKind.{FaultKind}
use Rattle.can_frame.specs.declared.step.FaultKind.TheVariants.{Stuff, Form, Ack, Crc}
use Rattle.can_frame.specs.declared.level_run.LevelRun.{LevelRun}
use Rattle.can_frame.specs.declared.step.Step.{Step}
use Rattle.can_frame.specs.declared.step.Step.TheVariants.{More, StuffBit, Body, Tail, Taken, Fault}
use Rattle.can_frame.specs.declared.reader.Place.{Place}
use Rattle.can_frame.specs.declared.reader.Reader.{Reader}
use Rattle.can_frame.specs.declared.reader.Place.TheVariants.{Region, AfterBody, Ended}
use Rattle.can_frame.proofs.Regions.{no_region}
use Rattle.can_frame.proofs.FrontLaws.{parts, no_front_begins}
use Rattle.can_frame.proofs.Tails.{no_front}
use Rattle.can_frame.proofs.Undecided.{region_undecided, tail_undecided}
use Rattle.can_frame.proofs.Numbers.{head_same, tail_same}
use Rattle.can_frame.proofs.OneAnswer.{front_rough, front_no_ack, front_no_crc, no_rough_fault, one_answer}

-- a front that begins with a text which begins no rough front
front_begins : (f : FrameValue) (w more : List Bool) → IsFront f (w ++ more) → BeginsRough w
front_begins f w more h =
    let p = parts f (w ++ more) h in
    record {
      rest = more;
      frame = f;
      is_rough =
          record { x = p.x; check = p.check; ack = false; region = p.region; is_region = p.is_region; whole = p.whole };
    }

pub fault_ends : (kind : FaultKind) (f : FrameValue) (text : List Bool) (level : Bool) (more : List Bool) →
    FaultAnswers kind text level → IsFront f ((text ++ level ∷ []) ++ more) → ⊥
fault_ends kind f text level more h k =
    let w = text ++ level ∷ [] in
    elim (no_rough_fault kind text level h (front_begins f w more k)) [
      | inl a ↦ front_no_ack f w more k a
      | inr a ↦ front_no_crc f w more k a
    ]

ended_taken : (step : Step) (before : List Bool) (level : Bool) (more : List Bool) (f : FrameValue) → IsLast step →
    Answers step before level → IsFront f ((before ++ level ∷ []) ++ more) → step ≡ Taken f
ended_taken More before level more f l a h = absurd l
ended_taken StuffBit before level more f l a h = absurd l
ended_taken (Body g q) before level more f l a h = absurd l
ended_taken Tail before level more f l a h = absurd l
ended_taken (Taken g) before level more f l a h = ap Taken (no_front_begins g f (before ++ level ∷ []) more a h).1
ended_taken (Fault kind) before level more f l a h = absurd (fault_ends kind f before level more a h)

place_taken : (place : Place) (run : LevelRun) (levels text : List Bool) (f : FrameValue) →
    StandsAt place run levels text → IsFront f text → place ≡ Ended (Taken f)
place_taken Region run levels text f h k =
    let p = parts f text k in
    absurd (no_region f p.x p.check p.region (front_tail false) text levels h.inside p.is_region p.whole)
place_taken (AfterBody g right seen) run levels text f h k = absurd (no_front g f right seen text h k)
place_taken (Ended step) run levels text f h k =
    ap Ended (ended_taken step h.before h.level h.more f h.last h.answer (subst (IsFront f) h.whole k))

pub fronts_are_taken : FrontsAreTaken
fronts_are_taken reader text f h k = place_taken reader.place reader.run reader.levels.items text f h k

pub taken_are_fronts : TakenAreFronts
taken_are_fronts reader text f h e =
    let d = subst (λ p. StandsAt p reader.run reader.levels.items text) e h in
    (d.before ++ d.level ∷ [], d.more, d.answer, d.whole)

-- a reader that is still reading has ended with nothing
reading_at : (place : Place) (run : LevelRun) (levels text : List Bool) → StandsAt place run levels text →
    IsOpen place → IsUndecided text
reading_at Region run levels text h o = region_undecided text levels h.inside
reading_at (AfterBody f right seen) run levels text h o = tail_undecided f right seen text h
reading_at (Ended step) run levels text h o = absurd o

pub reading_is_undecided : ReadingIsUndecided
reading_is_undecided reader text h o = reading_at reader.place reader.run reader.levels.items text h o

-- a last answer comes at a front or a fault
pub fault_is : (kind : FaultKind) (text : List Bool) (level : Bool) → FaultAnswers kind text level →
    IsFaulty (text ++ level ∷ [])
fault_is Stuff text level h = inl h.3
fault_is Form text level h = inl h.0
fault_is Ack text level h = inr (inl h)
fault_is Crc text level h = inr (inr h)

last_decides : (step : Step) (before : List Bool) (level : Bool) (text more : List Bool) → IsLast step →
    Answers step before level → IsUndecided text → text ≡ (before ++ level ∷ []) ++ more → ⊥
last_decides More before level text more l a u e = absurd l
last_decides StuffBit before level text more l a u e = absurd l
last_decides (Body f right) before level text more l a u e = absurd l
last_decides Tail before level text more l a u e = absurd l
last_decides (Taken f) before level text more l a u e = u.no_front f (before ++ level ∷ []) more e a
last_decides (Fault kind) before level text more l a u e =
    u.no_fault (before ++ level ∷ []) more e (fault_is kind before level a)

-- two texts that begin the same text, each with a level of its own behind it: they are the same, or one goes past the
-- other's level
pub record Same (b c : List Bool) (x y : Bool) : Type 0 where
  pub texts : b ≡ c
  pub levels : x ≡ y

meet : (b c : List Bool) (x y : Bool) (m n : List Bool) → (b ++ x ∷ []) ++ m ≡ (c ++ y ∷ []) ++ n →
    Same b c x y ⊎ (((k : List Bool) × (c ≡ (b ++ x ∷ []) ++ k)) ⊎ ((k : List Bool) × (b ≡ (c ++ y ∷ []) ++ k)))
meet [] [] x y m n e = inl (record { texts = refl; levels = head_same x y m n e })
meet [] (z ∷ c) x y m n e = inr (inl (c, ap (λ l. l ∷ c) (sym (head_same x z m ((c ++ y ∷ []) ++ n) e))))
meet (z ∷ b) [] x y m n e = inr (inr (b, ap (λ l. l ∷ b) (head_same z y ((b ++ x ∷ []) ++ m) n e)))
meet (z ∷ b) (a ∷ c) x y m n e =
    let h = head_same z a ((b ++ x ∷ []) ++ m) ((c ++ y ∷ []) ++ n) e in
    elim (meet b c x y m n (tail_same z a ((b ++ x ∷ []) ++ m) ((c ++ y ∷ []) ++ n) e)) [
      | inl s ↦ inl (record { texts = ap (λ l. l ∷ b) h ∙ ap (λ t. a ∷ t) s.texts; levels = s.levels })
      | inr (inl k) ↦ inr (inl (k.0, ap (λ l. l ∷ c) (sym h) ∙ ap (λ t. z ∷ t) k.1))
      | inr (inr k) ↦ inr (inr (k.0, ap (λ l. l ∷ b) h ∙ ap (λ t. a ∷ t) k.1))
    ]

faulty_no_front : (f : FrameValue) (w : List Bool) → IsFaulty w → IsFront f w → ⊥
faulty_no_front f w (inl h) k = h (front_rough f w k)
faulty_no_front f w (inr (inl h)) k = front_no_ack f w [] (subst (IsFront f) (sym (append-nil w)) k) h
faulty_no_front f w (inr (inr h)) k = front_no_crc f w [] (subst (IsFront f) (sym (append-nil w)) k) h

fault_of : (step : Step) (before : List Bool) (level : Bool) (place : Place) → IsLast step → Answers step before level →
    IsFaulty (before ++ level ∷ []) → place ≡ Ended step →
    (kind : FaultKind) × FaultAnswers kind before level × (place ≡ Ended (Fault kind))
fault_of More before level place l a h e = absurd l
fault_of StuffBit before level place l a h e = absurd l
fault_of (Body f right) before level place l a h e = absurd l
fault_of Tail before level place l a h e = absurd l
fault_of (Taken f) before level place l a h e = absurd (faulty_no_front f (before ++ level ∷ []) h a)
fault_of (Fault kind) before level place l a h e = (kind, a, e)

ended_faulty : (step : Step) (before : List Bool) (level : Bool) (more : List Bool) (place : Place) →
    HasEnded step ((before ++ level ∷ []) ++ more) → IsUndecided before → IsFaulty (before ++ level ∷ []) →
    place ≡ Ended step → (kind : FaultKind) × FaultAnswers kind before level × (place ≡ Ended (Fault kind))
ended_faulty step before level more place d u h e = elim (meet before d.before level d.level more d.more d.whole) [
  | inl s ↦
      let a : Answers step before level = subst (λ l. Answers step before l) (sym s.levels)
      (subst (λ t. Answers step t d.level) (sym s.texts) d.answer) in
      fault_of step before level place d.last a h e
  | inr (inl k) ↦ absurd (d.undecided.no_fault (before ++ level ∷ []) k.0 k.1 h)
  | inr (inr k) ↦ absurd (last_decides step d.before d.level before k.0 d.last d.answer u k.1)
]

first_fault : (place : Place) (run : LevelRun) (levels before : List Bool) (level : Bool) (more : List Bool) →
    StandsAt place run levels ((before ++ level ∷ []) ++ more) →
    IsUndecided before → IsFaulty (before ++ level ∷ []) → (kind : FaultKind) × FaultAnswers kind before level
    × (place ≡ Ended (Fault kind))
first_fault Region run levels before level more s u h =
    let w = before ++ level ∷ [] in absurd ((region_undecided (w ++ more) levels s.inside).no_fault w more refl h)
first_fault (AfterBody f right seen) run levels before level more s u h =
    let w = before ++ level ∷ [] in absurd ((tail_undecided f right seen (w ++ more) s).no_fault w more refl h)
first_fault (Ended step) run levels before level more s u h =
    ended_faulty step before level more (Ended step) s u h refl

pub first_faults_are_answered : FirstFaultsAreAnswered
first_faults_are_answered reader before level more s u h =
    first_fault reader.place reader.run reader.levels.items before level more s u h

pub answered_faults_are_first : AnsweredFaultsAreFirst
answered_faults_are_first reader text kind h e =
    let d = subst (λ p. StandsAt p reader.run reader.levels.items text) e h in
    (d.before, d.level, d.more, d.whole, d.undecided, d.answer)

-- a push where the region goes on with that level is one behind which it does
only_push : (old one new : Reader) (level : Bool) (answer step : Step) → IsPush old level answer one →
    IsPush old level step new → IsPush old level answer new
only_push old one new level answer step is made = record {
  next = λ text reading stands. let told = is.next text reading stands in
      let pushed = made.next text reading stands in
      subst (λ s. Next s new text level) (one_answer step answer text level pushed.answer told.answer) pushed;
  stands = made.stands;
  again = λ given ended. ((is.again given ended).0, (made.again given ended).1);
}

pub reads_on : (old new : Reader) (level : Bool) (step : Step) → MayReadOn level old → IsPush old level step new →
    ReadsOn old level new
reads_on old new level step may made = elim may.1 [
  | inl more ↦ inl (only_push old may.0 new level More step more made)
  | inr stuff ↦ inr (only_push old may.0 new level StuffBit step stuff made)
]

-- a reader that has read on with some levels reads on with one more
pub reads_on_by-more : (old mid new : Reader) (levels : List Bool) (level : Bool) → ReadsOnBy old levels mid →
    ReadsOn mid level new → ReadsOnBy old (levels ++ level ∷ []) new
reads_on_by-more old mid new [] level is h = (new, subst (λ r. ReadsOn r level new) is h, refl)
reads_on_by-more old mid new (first ∷ levels) level is h =
    (is.0, is.1, reads_on_by-more is.0 mid new levels level is.2 h)

-- one whose push has another answer may not
pub may_not : (old new : Reader) (level : Bool) (step : Step) → IsPush old level step new → (step ≡ More → ⊥) →
    (step ≡ StuffBit → ⊥) →
    (text : List Bool) → IsReading old → StandsAfter old text → MayReadOn level old → ⊥
may_not old new level step made more stuff text reading stands may =
    let pushed = made.next text reading stands in
    elim may.1 [
      | inl is ↦ more (one_answer step More text level pushed.answer (is.next text reading stands).answer)
      | inr is ↦ stuff (one_answer step StuffBit text level pushed.answer (is.next text reading stands).answer)
    ]
