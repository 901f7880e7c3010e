-- Bits with which a node goes on that reads a frame by itself, one after another.
use Rattle.std.proofs.Common.{◌≡◌, ℕ, suc, ◌+◌, ◌≤◌, Bool, true, false, List, [], ◌∷◌, length, take, refl}
use Rattle.std.proofs.Common.{arith, subst}
use Rattle.std.proofs.lemmas.List.{take_all}
use Rattle.can_frame.specs.Reading.{GoesOnNoLonger, GoesOnWithAll, ReadsOnBy}
use Rattle.can_frame.specs.declared.reader.Reader.{Reader}
use Rattle.can_frame.proofs.ReadingOn.{reads_all}
use Rattle.can_node.specs.declared.node.Node.{Node}
use Rattle.can_node.specs.declared.state.State.{State}
use Rattle.can_node.specs.declared.state.State.TheVariants.{Transmitting, Receiving}
use Rattle.can_node.specs.declared.state.Stage.TheVariants.{Region}
use Rattle.can_node.specs.Machine.{is_in_region, level_in}
use Rattle.can_node.specs.PlainBits.{GoesOnBy, MayGoOnBy, stays_out}
use Rattle.can_node.specs.PlainBits.MayGoOnBy.{reads_on, sends_on, waits_on}
use Rattle.can_node.proofs.PlainBits.{goes_reading}

-- what a state is not in which a frame is read
record Reads (state : State) : Type 0 where
  pub drives : (node : Node) → level_in state node.spelling ≡ true
  pub waits_none : (level : Bool) → stays_out level state ≡ false
  pub sends_none : (start place : ℕ) → state ≡ Transmitting start place → ⊥

reads : (state : State) → is_in_region state ≡ true → Reads state
reads (Receiving start false Region) inside = record {
  drives = λ node. refl;
  waits_none = λ level. refl;
  sends_none = λ start place is. absurd (cc is);
}
reads state inside = absurd (cc inside)

-- the node behind so many bits, with this reader
abbrev read_by : Node → Reader → ℕ → Node
read_by node reader bits = record {
  state = node.state;
  reader = reader;
  spelling = node.spelling;
  counters = node.counters;
  clock = node.clock + bits;
}

goes_by : (node : Node) (reader : Reader) (levels : List Bool) → is_in_region node.state ≡ true →
    ReadsOnBy node.reader levels reader → GoesOnBy false node levels (read_by node reader (length levels))
goes_by node reader [] inside on =
    let clock : node.clock + 0 ≡ node.clock = omega arith in
    rw (on, clock) refl
goes_by node reader (level ∷ levels) inside on =
    let mid = read_by node on.0 1 in
    let n = length levels in
    let later : node.clock + suc n ≡ node.clock + 1 + n = omega arith in (
      mid,
      goes_reading node level on.0 inside on.1,
      (reads node.state inside).drives node,
      rw later (goes_by mid reader levels inside on.2),
    )

-- where it may go on with levels it reads on with them
goes_reading_by : (node : Node) (levels : List Bool) (is_sender : Bool) → is_in_region node.state ≡ true →
    MayGoOnBy is_sender levels node → (is_sender ≡ false) × GoesOnWithAll node.reader levels
goes_reading_by node levels is_sender inside (sends_on start place is there ahead short) =
    absurd ((reads node.state inside).sends_none start place there)
goes_reading_by node [] is_sender inside (waits_on is out) = (is, tt)
goes_reading_by node (level ∷ levels) is_sender inside (waits_on is out) =
    absurd (let none = (reads node.state inside).waits_none level in let stays = out.0 in cc (none, stays))
goes_reading_by node levels is_sender inside (reads_on is here goes) = (is, goes)

pub reading_by : (node : Node) (reader : Reader) (n count : ℕ) (levels : List Bool) (is_sender : Bool) →
    is_in_region node.state ≡ true → n ≡ length levels → count ≤ length levels →
    ReadsOnBy node.reader (take count levels) reader → GoesOnNoLonger node.reader levels count →
    MayGoOnBy is_sender levels node → GoesOnBy is_sender node levels (read_by node reader n)
reading_by node reader n count levels is_sender inside size few on ends may =
    let goes = goes_reading_by node levels is_sender inside may in
    let whole = reads_all node.reader levels count few ends goes.1 in
    let all : take count levels ≡ levels = take_all count levels (omega (arith, whole)) in
    rw (goes.0, size) (goes_by node reader levels inside (subst (λ ls. ReadsOnBy node.reader ls reader) all on))
