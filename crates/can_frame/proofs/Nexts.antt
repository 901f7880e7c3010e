-- What a reader holds next.
use Rattle.std.proofs.Common.{◌≡◌, ℕ, ◌+◌, ◌≤◌, ◌<◌, Bool, true, false, not, List, [], ◌∷◌, ◌++◌, length, reverse, refl}
use Rattle.std.proofs.Common.{sym, ap, subst, ◌∙◌, arith, inl, inr}
use Rattle.std.proofs.lemmas.List.{append-nil}
use Rattle.can_frame.specs.Frames.{FrameValue}
use Rattle.can_frame.specs.Stuffing.{five_equal, newest}
use Rattle.can_frame.specs.FieldReading.{fields_length, frame_at}
use Rattle.can_frame.specs.LevelRuns.{EndsIn}
use Rattle.can_frame.specs.Answers.{Answers, IsLast, IsUndecided}
use Rattle.can_frame.specs.Reading.{Inside, InRegion, InTail, TailNext, HasEnded, StandsAt, StandsAfter, IsOpen, IsPush}
use Rattle.can_frame.specs.Reading.{Leaves, MayReadOn, MayTake, Next, Judges, StandsAs, WantsData, WantsStuffBit}
use Rattle.can_frame.specs.declared.level_run.LevelRun.{LevelRun}
use Rattle.can_frame.proofs.LevelRuns.{full_is}
use Rattle.can_frame.specs.declared.step.FaultKind.TheVariants.{Stuff, Form}
use Rattle.can_frame.specs.declared.step.Step.{Step}
use Rattle.can_frame.specs.declared.step.Step.TheVariants.{More, StuffBit, Body, Tail, Taken, Fault}
use Rattle.can_frame.specs.declared.reader.Place.{Place}
use Rattle.can_frame.specs.declared.reader.Place.TheVariants.{Region, AfterBody, Ended}
use Rattle.can_frame.specs.declared.reader.Reader.{Reader}
use Rattle.can_frame.proofs.Regions.{completes, length_few}
use Rattle.can_frame.proofs.Undecided.{region_undecided, tail_undecided}
use Rattle.can_frame.proofs.Steps.{next_reverse, stuff_fault, sof_fault, after_data, after_stuff, body_tail}
use Rattle.can_frame.proofs.Steps.{still_inside, complete_next, Kept}

ended : (step : Step) (text : List Bool) (level : Bool) → IsUndecided text → Answers step text level → IsLast step →
    HasEnded step (text ++ level ∷ [])
ended step text level u h l = record {
  before = text;
  level = level;
  more = [];
  whole = sym (append-nil (text ++ level ∷ []));
  undecided = u;
  answer = h;
  last = l;
}

-- `Leaves` by the place alone
abbrev LeavesAt : Step → Place → Type 0
LeavesAt More place = IsOpen place
LeavesAt StuffBit place = IsOpen place
LeavesAt (Body frame right) place = IsOpen place
LeavesAt Tail place = IsOpen place
LeavesAt (Taken frame) place = place ≡ Ended (Taken frame)
LeavesAt (Fault kind) place = place ≡ Ended (Fault kind)

leaves_at : (step : Step) (new : Reader) → LeavesAt step new.place → Leaves step new
leaves_at More new h = h
leaves_at StuffBit new h = h
leaves_at (Body frame right) new h = h
leaves_at Tail new h = h
leaves_at (Taken frame) new h = h
leaves_at (Fault kind) new h = h

next_by : (step : Step) (new : Reader) (p : Place) (text : List Bool) (level : Bool) → new.place ≡ p →
    Answers step text level →
    StandsAt p new.run new.levels.items (text ++ level ∷ []) → LeavesAt step p → Next step new text level
next_by step new p text level e a s l = record {
  answer = a;
  stands = subst (λ q. StandsAt q new.run new.levels.items (text ++ level ∷ [])) (sym e) s;
  leaves = leaves_at step new (subst (LeavesAt step) (sym e) l);
}

pub tail_goes_on : (step : Step) (f : FrameValue) (right : Bool) (seen : ℕ) (text : List Bool) (level : Bool)
    (new : Reader) → step ≡ Tail → new.place ≡ AfterBody f right (seen + 1) →
    TailNext step f right seen text level → Next step new text level
tail_goes_on step f right seen text level new e place h =
    let t = subst (λ s. TailNext s f right seen text level) e h in
    subst (λ s. Next s new text level) (sym e)
    (next_by Tail new (AfterBody f right (seen + 1)) text level place t.answer t.goes tt)

pub tail_few : (step : Step) (f : FrameValue) (right : Bool) (seen : ℕ) (text : List Bool) (level : Bool) →
    step ≡ Tail → TailNext step f right seen text level → seen + 1 ≤ 8
tail_few step f right seen text level e h = let t = subst (λ s. TailNext s f right seen text level) e h in t.goes.few

pub tail_ends : (step : Step) (f : FrameValue) (right : Bool) (seen : ℕ) (text : List Bool) (level : Bool)
    (new : Reader) → (step ≡ Tail → ⊥) → new.place ≡ Ended step → InTail f right seen text →
    TailNext step f right seen text level → Next step new text level
tail_ends More f right seen text level new other place t h = absurd h.goes
tail_ends StuffBit f right seen text level new other place t h = absurd h.goes
tail_ends (Body frame ok) f right seen text level new other place t h = absurd h.goes
tail_ends Tail f right seen text level new other place t h = absurd (other refl)
tail_ends (Taken frame) f right seen text level new other place t h =
    next_by (Taken frame) new (Ended (Taken frame)) text level place h.answer
    (ended (Taken frame) text level (tail_undecided f right seen text t) h.answer tt) refl
tail_ends (Fault kind) f right seen text level new other place t h =
    next_by (Fault kind) new (Ended (Fault kind)) text level place h.answer
    (ended (Fault kind) text level (tail_undecided f right seen text t) h.answer tt) refl

pub next_sof : (u text : List Bool) (level : Bool) (new : Reader) → Inside text u → u ≡ [] → level ≡ true →
    new.place ≡ Ended (Fault Form) → Next (Fault Form) new text level
next_sof u text level new h none e place =
    let a = sof_fault text u level h none e in
    next_by (Fault Form) new (Ended (Fault Form)) text level place a
    (ended (Fault Form) text level (region_undecided text u h) a tt) refl

pub next_sixth : (u text : List Bool) (level : Bool) (new : Reader) → Inside text u → five_equal (reverse text) ≡ true →
    level ≡ newest (reverse text) →
    new.place ≡ Ended (Fault Stuff) → Next (Fault Stuff) new text level
next_sixth u text level new h five same place =
    let a = stuff_fault text u level h five same in
    next_by (Fault Stuff) new (Ended (Fault Stuff)) text level place a
    (ended (Fault Stuff) text level (region_undecided text u h) a tt) refl

-- the answer at the end of a region
abbrev pub Bodies : Step → Place → List Bool → Type 0
Bodies step place u =
    (right : Bool) × Judges right u × (step ≡ Body (frame_at u) right) × (place ≡ AfterBody (frame_at u) right 0)

next_body : (u text : List Bool) (level : Bool) (new : Reader) (step : Step) → Kept (text ++ level ∷ []) u →
    length u ≡ fields_length u + 15 → five_equal (reverse (text ++ level ∷ [])) ≡ false →
    Bodies step new.place u → Next step new text level
next_body u text level new step kept full ended b =
    let both = body_tail (text ++ level ∷ []) u b.0 kept full ended b.1 in
    subst (λ s. Next s new text level) (sym b.2)
    (next_by (Body (frame_at u) b.0) new (AfterBody (frame_at u) b.0 0) text level b.3 both.0 both.1 tt)

ends_next : (text : List Bool) (level : Bool) (run : LevelRun) → EndsIn (level ∷ reverse text) run →
    EndsIn (reverse (text ++ level ∷ [])) run
ends_next text level run h = subst (λ t. EndsIn t run) (sym (next_reverse text level)) h

pub next_stuff_body : (u text : List Bool) (level : Bool) (new : Reader) (step : Step) → Inside text u →
    five_equal (reverse text) ≡ true → level ≡ not (newest (reverse text)) →
    length u ≡ fields_length u + 15 → Bodies step new.place u → Next step new text level
next_stuff_body u text level new step h five opposite full b =
    let a = after_stuff u text level h five opposite in next_body u text level new step a.kept full a.ended b

pub next_stuff : (u text : List Bool) (level : Bool) (new : Reader) → Inside text u → five_equal (reverse text) ≡ true →
    level ≡ not (newest (reverse text)) → EndsIn (level ∷ reverse text) new.run →
    (length u ≡ fields_length u + 15 → ⊥) → new.levels.items ≡ u → new.place ≡ Region → Next StuffBit new text level
next_stuff u text level new h five opposite ends part items place =
    let w = text ++ level ∷ [] in
    let a = after_stuff u text level h five opposite in
    let inside = still_inside w u a.kept (λ full. absurd (part full)) in
    let stands : InRegion new.run new.levels.items w =
    record { ends = ends_next text level new.run ends; inside = subst (Inside w) (sym items) inside } in
    next_by StuffBit new Region text level place (completes w u inside, five) stands tt

pub next_data_body : (u v text : List Bool) (level : Bool) (new : Reader) (step : Step) → Inside text u →
    five_equal (reverse text) ≡ false → (u ≡ [] → level ≡ false) →
    (length u < 118 → v ≡ u ++ level ∷ []) → length v ≡ fields_length v + 15 →
    five_equal (level ∷ reverse text) ≡ false → Bodies step new.place v → Next step new text level
next_data_body u v text level new step h plain sof keeps full few b =
    let a = after_data u text level h plain sof in
    let e : v ≡ u ++ level ∷ [] = keeps (omega (arith, a.short, length_few u)) in
    next_body v text level new step (subst (Kept (text ++ level ∷ [])) (sym e) a.kept) full
    (ap five_equal (next_reverse text level) ∙ few) b

pub next_more : (u text : List Bool) (level : Bool) (new : Reader) → Inside text u → five_equal (reverse text) ≡ false →
    (u ≡ [] → level ≡ false) → EndsIn (level ∷ reverse text) new.run →
    (length u < 118 → new.levels.items ≡ u ++ level ∷ []) →
    (length new.levels.items ≡ fields_length new.levels.items + 15 → five_equal (level ∷ reverse text) ≡ true) →
    new.place ≡ Region → Next More new text level
next_more u text level new h plain sof ends keeps part place =
    let w = text ++ level ∷ [] in
    let a = after_data u text level h plain sof in
    let e : new.levels.items ≡ u ++ level ∷ [] = keeps (omega (arith, a.short, length_few u)) in
    let inside = still_inside w new.levels.items (subst (Kept w) (sym e) a.kept)
    (λ full. ap five_equal (next_reverse text level) ∙ part full) in
    let stands : InRegion new.run new.levels.items w =
    record { ends = ends_next text level new.run ends; inside = inside } in
    next_by More new Region text level place (completes w new.levels.items inside, plain) stands tt

-- a level of the text with which the region goes on
next_plain : (u text : List Bool) (level : Bool) (new : Reader) → Inside text u → five_equal (reverse text) ≡ false →
    (u ≡ [] → ⊥) → EndsIn (level ∷ reverse text) new.run →
    (length u < 118 → new.levels.items ≡ u ++ level ∷ []) → (length u + 1 ≡ fields_length u + 15 → ⊥) →
    new.place ≡ Region → Next More new text level
next_plain u text level new h plain some ends keeps other place =
    let sof : u ≡ [] → level ≡ false = λ none. absurd (some none) in
    let a = after_data u text level h plain sof in
    let e : new.levels.items ≡ u ++ level ∷ [] = keeps (omega (arith, a.short, length_few u)) in
    next_more u text level new h plain sof ends keeps
    (λ full. absurd (other (complete_next u level (subst (λ t. length t ≡ fields_length t + 15) e full)))) place

region_stands : (p : Place) (run : LevelRun) (u text : List Bool) → p ≡ Region → StandsAt p run u text →
    InRegion run u text
region_stands p run u text e h = subst (λ q. StandsAt q run u text) e h

pub plain_push : (old new : Reader) (level : Bool) → old.place ≡ Region → new.place ≡ Region →
    ((text : List Bool) → EndsIn text old.run → (five_equal text ≡ false) × EndsIn (level ∷ text) new.run) →
    (old.levels.items ≡ [] → ⊥) →
    (length old.levels.items < 118 → new.levels.items ≡ old.levels.items ++ level ∷ []) →
    (length old.levels.items + 1 ≡ fields_length old.levels.items + 15 → ⊥) → IsPush old level More new
plain_push old new level here place push some keeps other =
    let next : (text : List Bool) → StandsAfter old text → Next More new text level = λ text s.
    let h = region_stands old.place old.run old.levels.items text here s in
    let p = push (reverse text) h.ends in
    next_plain old.levels.items text level new h.inside p.0 some p.1 keeps other place in
    record {
      next = λ text r s. next text s;
      stands = λ text s. (next text s).stands;
      again = λ given e. absurd (cc (here, e));
    }

pub stuff_push : (old new : Reader) (level : Bool) → old.place ≡ Region → new.place ≡ Region →
    ((text : List Bool) → EndsIn text old.run → (five_equal text ≡ true) × (level ≡ not (newest text))
    × EndsIn (level ∷ text) new.run) →
    new.levels.items ≡ old.levels.items → (length old.levels.items ≡ fields_length old.levels.items + 15 → ⊥) →
    IsPush old level StuffBit new
stuff_push old new level here place push items part =
    let next : (text : List Bool) → StandsAfter old text → Next StuffBit new text level = λ text s.
    let h = region_stands old.place old.run old.levels.items text here s in
    let p = push (reverse text) h.ends in
    next_stuff old.levels.items text level new h.inside p.0 p.1 p.2 part items place in
    record {
      next = λ text r s. next text s;
      stands = λ text s. (next text s).stands;
      again = λ given e. absurd (cc (here, e));
    }

-- a reader that wants such a level does so by the text that it stands after
pub wants_data_push : (reader new : Reader) (level : Bool) → WantsData reader → new.place ≡ reader.place →
    ((text : List Bool) → EndsIn text reader.run → EndsIn (level ∷ text) new.run) →
    (length reader.levels.items < 118 → new.levels.items ≡ reader.levels.items ++ level ∷ []) →
    IsPush reader level More new
wants_data_push reader new level wants place push keeps =
    plain_push reader new level wants.here (place ∙ wants.here)
    (λ text ends. (sym (full_is text reader.run ends) ∙ wants.is_free, push text ends)) wants.some keeps
    wants.unfinished

pub wants_stuff_push : (reader new : Reader) (level : Bool) → WantsStuffBit level reader → new.place ≡ reader.place →
    ((text : List Bool) → EndsIn text reader.run → EndsIn (level ∷ text) new.run) →
    new.levels.items ≡ reader.levels.items → IsPush reader level StuffBit new
wants_stuff_push reader new level wants place push items =
    stuff_push reader new level wants.here (place ∙ wants.here)
    (λ text ends. (
      sym (full_is text reader.run ends) ∙ wants.is_due,
      wants.is_other ∙ ap not ends.level_is,
      push text ends,
    )) items wants.unfinished

-- it reads on with it: it ends in this run then
pub data_read : (reader : Reader) (run : LevelRun) (level : Bool) → WantsData reader →
    ((text : List Bool) → EndsIn text reader.run → EndsIn (level ∷ text) run) → MayReadOn level reader
data_read reader run level wants push =
    let new : Reader = record {
      run = run;
      levels = record { items = reader.levels.items ++ level ∷ [] };
      place = reader.place;
      told = reader.told;
    } in (
      new,
      inl (wants_data_push reader new level wants refl push (λ few. refl)),
    )

pub stuff_read : (reader : Reader) (run : LevelRun) (level : Bool) → WantsStuffBit level reader →
    ((text : List Bool) → EndsIn text reader.run → EndsIn (level ∷ text) run) → MayReadOn level reader
stuff_read reader run level wants push =
    let new : Reader = record { run = run; levels = reader.levels; place = reader.place; told = reader.told } in (
      new,
      inr (wants_stuff_push reader new level wants refl push refl),
    )

-- behind the region
pub tail_push : (old new : Reader) (level : Bool) (step : Step) (f : FrameValue) (right : Bool) (seen : ℕ) →
    old.place ≡ AfterBody f right seen → new.place ≡ AfterBody f right (seen + 1) → step ≡ Tail →
    ((text : List Bool) → InTail f right seen text → TailNext step f right seen text level) → IsPush old level Tail new
tail_push old new level step f right seen here place is goes =
    let next : (text : List Bool) → StandsAfter old text → Next Tail new text level = λ text s.
    let h : InTail f right seen text = subst (λ p. StandsAt p old.run old.levels.items text) here s in
    tail_goes_on Tail f right seen text level new refl place
    (subst (λ t. TailNext t f right seen text level) is (goes text h)) in
    record {
      next = λ text r s. next text s;
      stands = λ text s. (next text s).stands;
      again = λ given e. absurd (cc (here, e));
    }

pub taken_push : (reader : Reader) (level : Bool) (step : Step) (taken f : FrameValue) (right : Bool) (seen : ℕ) →
    reader.place ≡ AfterBody f right seen → step ≡ Taken taken →
    ((text : List Bool) → InTail f right seen text → TailNext step f right seen text level) →
    MayTake level taken reader
taken_push reader level step taken f right seen here is goes =
    let new : Reader = record {
      run = reader.run;
      levels = reader.levels;
      place = Ended (Taken taken);
      told = Taken taken;
    } in
    let next : (text : List Bool) → StandsAfter reader text → Next (Taken taken) new text level = λ text s.
    let h : InTail f right seen text = subst (λ p. StandsAt p reader.run reader.levels.items text) here s in
    tail_ends (Taken taken) f right seen text level new (λ e. absurd (cc e)) refl h
    (subst (λ t. TailNext t f right seen text level) is (goes text h)) in (
      new,
      record {
        next = λ text r s. next text s;
        stands = λ text s. (next text s).stands;
        again = λ given e. absurd (cc (here, e));
      },
    )

-- two readers within the stuffed region that hold the same
pub stands_as : (one other : Reader) → one.place ≡ Region → other.place ≡ Region → one.run ≡ other.run →
    one.levels.items ≡ other.levels.items → StandsAs one other
stands_as one other here there runs items = record {
  stands = λ text s. subst (λ p. StandsAt p other.run other.levels.items text) (sym there)
      (subst (λ u. InRegion other.run u text) items
      (subst (λ r. InRegion r one.levels.items text) runs
      (region_stands one.place one.run one.levels.items text here s)));
  reading = λ reading. subst IsOpen (sym there) tt;
}

-- two readers behind the same frame, with as many levels since
pub stands_behind_as : (one other : Reader) (f : FrameValue) (right : Bool) (seen : ℕ) →
    one.place ≡ AfterBody f right seen → other.place ≡ AfterBody f right seen → StandsAs one other
stands_behind_as one other f right seen here there = record {
  stands = λ text s. subst (λ p. StandsAt p other.run other.levels.items text) (sym there)
      (subst (λ p. StandsAt p one.run one.levels.items text) here s);
  reading = λ reading. subst IsOpen (sym there) tt;
}

-- what a reader keeps as its newest answer says nothing of the text
abbrev with_told : Reader → Step → Reader
with_told r told = record { run = r.run; levels = r.levels; place = r.place; told = told }

leaves_told : (step : Step) (new : Reader) (told : Step) → Leaves step new → Leaves step (with_told new told)
leaves_told More new told h = h
leaves_told StuffBit new told h = h
leaves_told (Body frame right) new told h = h
leaves_told Tail new told h = h
leaves_told (Taken frame) new told h = h
leaves_told (Fault kind) new told h = h

pub told_push : (old new : Reader) (level : Bool) (step : Step) → IsPush old level step new →
    IsPush old level step (with_told new step)
told_push old new level step h = record {
  next = λ text r s. let n =
      h.next text r s in record { answer = n.answer; stands = n.stands; leaves = leaves_told step new step n.leaves };
  stands = h.stands;
  again = h.again;
}
