-- The clock table: a word for each segment, the number of bits that it made, and a stop word after them. No clock
-- passes the run's bits, and none is further ahead of another than the slack that the table was made for.
use Rattle.std.specs.Prelude.{◌≡◌, ℕ, ◌+◌, ◌*◌, ◌<◌, ◌≤◌, ◌≢◌, Bool, true, false, List, [], ◌^◌, length, replicate}
use Rattle.std.specs.Prelude.{slice_index, slice_set}
use mathlib.Core.Option.{some}
use lib.ListN.{get_elem?}
use Rattle.atomic_table.specs.Table.{State, Me, Step}
use Rattle.atomic_table.specs.Seated.{TableId}
use Rattle.gw_threads.specs.declared.views.Pace.{Pace}
use Rattle.gw_threads.specs.declared.views.Pacer.{Pacer}

-- the word of a segment's clock: the seven words behind it lie idle, so that no two clocks share a line of a
-- processor's cache; the stop word stands where the clock of one segment more would
abbrev pub word_of : ℕ → ℕ
word_of segment = 8 * segment

abbrev pub pacer : ℕ → ℕ → ℕ → List ℕ → ℕ → Bool → Bool → Pacer
pacer first end made seen lent stopped warned = record {
  first = first;
  end = end;
  made = made;
  seen = seen;
  lent = lent;
  stopped = stopped;
  warned = warned;
}

-- what the seat of this number knows: each number seen is a lower bound, where its own clocks stand, that these are
-- clocks of segments, and that the stop word is set where it has set it
pub record Knows (p : Pace) (owner : ℕ → ℕ) (words : List ℕ) (id : ℕ) (v : Pacer) : Type 0 where
  pub seen : (j : ℕ) → j < p.segments → slice_index v.seen j ≤ slice_index words (word_of j)
  pub mine : (j : ℕ) → v.first ≤ j → j < v.end → (owner j ≡ id) × (slice_index words (word_of j) ≡ v.made)
  pub few : v.end ≤ p.segments
  pub told : v.stopped ≡ true → slice_index words (word_of p.segments) ≡ 1

-- what holds between any two steps
pub record Kept (p : Pace) (s : State (Unit {0}) Pacer) : Type 0 where
  -- which seat ticks a clock
  pub owner : ℕ → ℕ
  pub wide : length s.words ≡ word_of p.segments + 1
  pub pace : (i j : ℕ) → i < p.segments → j < p.segments →
      slice_index s.words (word_of i) ≤ slice_index s.words (word_of j) + p.slack
  pub done : (i : ℕ) → i < p.segments → slice_index s.words (word_of i) ≤ p.bits
  pub short : p.bits < 2 ^ 32
  pub knows : (id : ℕ) (v : Pacer) → get_elem? s.views id ≡ some v → Knows p owner s.words id v

-- the first seat ticks all clocks
abbrev pub first_pacer : Pace → Pacer
first_pacer p = pacer 0 p.segments 0 (replicate p.segments 0) 0 false false

-- of a seat's clocks: the first of them, all others, and none; the new seat has neither set the stop word nor seen it
-- set
abbrev pub one_of : Pacer → Pacer
one_of v = pacer v.first (v.first + 1) v.made v.seen 0 false false

abbrev pub rest_of : Pacer → Pacer
rest_of v = pacer (v.first + 1) v.end v.made v.seen v.lent v.stopped v.warned

abbrev pub watcher_of : Pacer → Pacer
watcher_of v = pacer 0 0 0 v.seen 0 false false

-- the seat that a seat with no clock was made from
abbrev pub lender_of : Pacer → Pacer
lender_of v = pacer v.first v.end v.made v.seen (v.lent + 1) v.stopped v.warned

-- a seat with its view, and the view of a seat
abbrev pub clock_of : Pacer → Me (Unit {0}) Pacer
clock_of v = (v, [])

abbrev pub pacer_of : Me (Unit {0}) Pacer → Pacer
pacer_of m = m.0

-- the clock i was seen at n
abbrev pub looked_at : Pacer → ℕ → ℕ → Pacer
looked_at v i n = pacer v.first v.end v.made (slice_set v.seen i n) v.lent v.stopped v.warned

-- the seat's clocks went on by so many bits
abbrev pub ticked : ℕ → Pacer → Pacer
ticked bits v = pacer v.first v.end (v.made + bits) v.seen v.lent v.stopped v.warned

-- the seat has set the stop word
abbrev pub with_stop : Pacer → Pacer
with_stop v = pacer v.first v.end v.made v.seen v.lent true v.warned

-- the seat has seen the stop word set
abbrev pub with_warning : Pacer → Pacer
with_warning v = pacer v.first v.end v.made v.seen v.lent v.stopped true

-- The seat ticks one clock, which comes to the run's bits at most, and has seen every other clock within the slack of
-- where it comes.
pub record MayTick (p : Pace) (bits : ℕ) (v : Pacer) : Type 0 where
  pub one : v.end ≡ v.first + 1
  pub short : v.made + bits ≤ p.bits
  pub near : (j : ℕ) → j < p.segments → ¬ (j ≡ v.first) → v.made + bits ≤ slice_index v.seen j + p.slack

-- a seat of this table, which has the words of all clocks, and one behind them
pub record IsAtTable (table : TableId) (p : Pace) (theirs : TableId) (me : Me (Unit {0}) Pacer) : Type 0 where
  pub same : theirs ≡ table
  pub words : table.words ≡ word_of p.segments + 1
  pub alone : me ≡ clock_of (pacer_of me)

-- what a step tells of the seat before and after
abbrev pub Play : Type 1
Play = Step (Unit {0}) → Me (Unit {0}) Pacer → ℕ → Me (Unit {0}) Pacer → Type 0

-- it has seen the clock whose word that is
abbrev pub Looks : Play
Looks st m r n = (i : ℕ) → st.word ≡ word_of i → n ≡ clock_of (looked_at (pacer_of m) i r)

-- its clock went on by what was added
abbrev pub Ticks : Play
Ticks st m r n = n ≡ clock_of (ticked st.first (pacer_of m))

-- it has set the stop word
abbrev pub Stops : Play
Stops st m r n = n ≡ clock_of (with_stop (pacer_of m))

-- it knows what it knew where the stop word was not set, and else that it was
pub record Watches (st : Step (Unit {0})) (m : Me (Unit {0}) Pacer) (r : ℕ) (n : Me (Unit {0}) Pacer) : Type 0 where
  pub unset : r ≡ 0 → n ≡ m
  pub set : r ≢ 0 → n ≡ clock_of (with_warning (pacer_of m))

-- what contracts see of a seat: what the table is for, and what the seat knows
pub record ClockPlace : Type 0 where
  pub pace : Pace
  pub view : Pacer

abbrev pub place_of : Pace → Me (Unit {0}) Pacer → ClockPlace
place_of p me = record { pace = p; view = pacer_of me }

-- the seat has neither set the stop word nor seen it set
pub record IsCalm (v : Pacer) : Type 0 where
  pub stopped_not : v.stopped ≡ false
  pub warned_not : v.warned ≡ false

-- a calm seat at a table of this pace that ticks one clock, which stands at this number
pub record TicksAt (p : Pace) (made : ℕ) (c : ClockPlace) : Type 0 where
  pub one : c.view.end ≡ c.view.first + 1
  pub made_is : c.view.made ≡ made
  pub pace_is : c.pace ≡ p
  pub calm : IsCalm c.view

-- a calm seat at a table of this pace that has dealt so many clocks, has the others, all at 0, and has lent no seat
pub record Deals (p : Pace) (dealt : ℕ) (c : ClockPlace) : Type 0 where
  pub first_is : c.view.first ≡ dealt
  pub end_is : c.view.end ≡ p.segments
  pub made_is : c.view.made ≡ 0
  pub pace_is : c.pace ≡ p
  pub lent_is : c.view.lent ≡ 0
  pub calm : IsCalm c.view

-- so many seats more were lent from this one, and nothing else of it has changed
pub record HasLent (count : ℕ) (old new : ClockPlace) : Type 0 where
  pub pace_is : new.pace ≡ old.pace
  pub first_is : new.view.first ≡ old.view.first
  pub lent_is : new.view.lent ≡ old.view.lent + count
  pub stopped_is : new.view.stopped ≡ old.view.stopped
  pub warned_is : new.view.warned ≡ old.view.warned

abbrev pub pace_of : ℕ → ℕ → ℕ → Pace
pace_of segments slack bits = record { segments = segments; slack = slack; bits = bits }

-- The seat of a run at the clock table: the table is for this pace, the seat has dealt a clock to each segment and lent
-- a seat to each of so many workers, and it has stopped no thread.
pub record HasPaced (p : Pace) (workers : ℕ) (c : ClockPlace) : Type 0 where
  pub pace_is : c.pace ≡ p
  pub dealt : c.view.first ≡ p.segments
  pub lent_is : c.view.lent ≡ workers
  pub calm : IsCalm c.view

-- the seat has seen each clock at the run's bits
abbrev pub SeesAllDone : ClockPlace → Type 0
SeesAllDone c = (j : ℕ) → j < c.pace.segments → c.pace.bits ≤ slice_index c.view.seen j

-- up to this number the seat's clock may go: it has seen every other clock within the slack of it
pub record MayGo (limit : ℕ) (c : ClockPlace) : Type 0 where
  pub near : (j : ℕ) → j < c.pace.segments → ¬ (j ≡ c.view.first) → limit ≤ slice_index c.view.seen j + c.pace.slack
  pub most : limit ≤ c.pace.bits

-- the seat's own clocks are as before, and so is all that it knows but what it saw of other clocks
pub record SameClocks (old new : ClockPlace) : Type 0 where
  pub pace_is : new.pace ≡ old.pace
  pub first_is : new.view.first ≡ old.view.first
  pub end_is : new.view.end ≡ old.view.end
  pub made_is : new.view.made ≡ old.view.made
  pub lent_is : new.view.lent ≡ old.view.lent
  pub stopped_is : new.view.stopped ≡ old.view.stopped
  pub warned_is : new.view.warned ≡ old.view.warned
