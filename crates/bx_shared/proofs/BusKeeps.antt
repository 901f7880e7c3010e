-- Each step of the bus's seat keeps the rule, whatever the words are by then.
use Rattle.std.proofs.Common.{◌≡◌, ℕ, ◌+◌, ◌-◌, ◌*◌, ◌^◌, ◌<◌, ◌==◌, List, get_or, refl, sym, ap, ◌∙◌, subst, arith}
use Rattle.std.proofs.Common.{Option, Some, None, Bool, true≢false, bit_and}
use Rattle.std.specs.Prelude.{IsSome}
use mathlib.Core.Option.{none, some}
use prog.Atomic.{either}
use Rattle.atomic_table.specs.Table.{step, keeps, Allows}
use Rattle.atomic_table.proofs.Lists.{exchanged}
use Rattle.bx_core.specs.TxBus.{Item}
use Rattle.bx_core.proofs.Reaches.{law_of}
use Rattle.bx_words.specs.Lanes.{lane_of, mark_of, IsTransmitting, LaneSet}
use Rattle.bx_words.specs.Payloads.{IsHead}
use Rattle.bx_shared.specs.declared.said.Said.TheVariants.{Mailbox}
use Rattle.bx_shared.specs.declared.route_view.RouteView.{RouteView}
use Rattle.bx_shared.specs.declared.bus_view.BusView.{BusView}
use Rattle.bx_shared.specs.Shown.{IsKept}
use Rattle.bx_shared.specs.Steps.{bus_seat}
use Rattle.bx_shared.specs.BusSteps.{GoesNext, IsHeadSent, AreBytesSent, bus_looked, bus_tried, bus_completed}
use Rattle.bx_shared.specs.BusSteps.{bus_failed, bus_reaped, head_read, BusLooks, Schedules, Starts, ReadsHead}
use Rattle.bx_shared.specs.BusSteps.{ReadsBytes, Completes, Fails, Reaps}
use Rattle.bx_shared.proofs.Moves.{Goes}
use Rattle.bx_shared.proofs.BusMoves.{with_bus, bus_knows}
use Rattle.bx_shared.proofs.Few.{bus_few}
use Rattle.bx_shared.proofs.Scheduling.{bus_looks, bus_misses, reads_head, reads_bytes, schedules}
use Rattle.bx_shared.proofs.Transmitting.{starts, completes, fails, reaps, transmits_in}

some_of : (o : Option Item) → IsSome o → (x : Item) × (o ≡ Some x)
some_of None h = absurd (true≢false (sym h))
some_of (Some x) h = (x, refl)

pub bus_looks-keep : (txfp : Bool) (slots id : ℕ) (b : BusView) (rs : List RouteView) →
    Allows (IsKept txfp) slots id (bus_seat b rs) 0 (λ n. n) (BusLooks (step slots 0 0 0 none) (bus_seat b rs))
bus_looks-keep txfp slots id b rs t k long me fits =
    (with_bus (bus_looked b (get_or t.words 0 0)) rs, keeps, tt, (bus_looks txfp t k id b rs me).kept, refl)

pub schedules-keep : (txfp : Bool) (slots id m old new : ℕ) (b : BusView) (rs : List RouteView) → m < 3 →
    b.reaps ≡ None → GoesNext b old m → LaneSet old m (lane_of old m + 4) new →
    Allows (IsKept txfp) slots id (bus_seat b rs) 0 (λ n. either (n == old) new n)
    (Schedules (step slots 0 old new (some (Mailbox m))) (bus_seat b rs))
schedules-keep txfp slots id m old new b rs small due goes ls t k long me fits =
    let w = get_or t.words 0 0 in
    exchanged w old new
    (Goes txfp t 0 id (λ r n. Schedules (step slots 0 old new (some (Mailbox m))) (bus_seat b rs) r n))
    (λ e. (
      with_bus (bus_tried b w new) rs,
      keeps,
      tt,
      (schedules txfp t k id m new b rs me small due (subst (λ (z : ℕ). GoesNext b z m) (sym e) goes)
          (subst (λ (z : ℕ). LaneSet z m (lane_of z m + 4) new) (sym e) ls)).then.kept,
      refl,
    ))
    (λ n. (with_bus (bus_tried b w new) rs, keeps, tt, (bus_misses txfp t k id new b rs me).kept, refl))

pub starts-keep : (txfp : Bool) (slots id m old new : ℕ) (b : BusView) (rs : List RouteView) → m < 3 → b.reaps ≡ None →
    mark_of old m ≡ 7 → LaneSet old m (lane_of old m + 8) new →
    Allows (IsKept txfp) slots id (bus_seat b rs) 0 (λ n. either (n == old) new n)
    (Starts (step slots 0 old new (some (Mailbox m))) (bus_seat b rs))
starts-keep txfp slots id m old new b rs small due mark ls t k long me fits =
    let w = get_or t.words 0 0 in
    exchanged w old new (Goes txfp t 0 id (λ r n. Starts (step slots 0 old new (some (Mailbox m))) (bus_seat b rs) r n))
    (λ e. let x = starts txfp t k id m new b rs me small (ap (λ z. mark_of z m) e ∙ mark) due
    (subst (λ (z : ℕ). LaneSet z m (lane_of z m + 8) new) (sym e) ls) in
    (with_bus x.0 rs, keeps, tt, x.2.then.kept, ((λ _. (refl, x.1)), λ n. absurd (n e))))
    (λ n. (
      with_bus (bus_tried b w new) rs,
      keeps,
      tt,
      (bus_misses txfp t k id new b rs me).kept,
      ((λ e. absurd (n e)), λ _. refl),
    ))

pub reads_head-keep : (txfp : Bool) (slots id m i : ℕ) (b : BusView) (rs : List RouteView) → i ≡ 1 + 2 * m → m < 3 →
    Allows (IsKept txfp) slots id (bus_seat b rs) i (λ n. n) (ReadsHead (step slots i 0 0 none) (bus_seat b rs))
reads_head-keep txfp slots id m i b rs at small =
    subst (λ (j : ℕ). Allows (IsKept txfp) slots id (bus_seat b rs) j (λ n. n)
    (ReadsHead (step slots j 0 0 none) (bus_seat b rs))) (sym at) (λ t k long me fits.
    let x = reads_head txfp t k id m b rs me small in
    let head = get_or t.words (1 + 2 * m) 0 in (
      with_bus (head_read b m head) rs,
      keeps,
      tt,
      x.0.kept,
      λ mailbox is. let same : m ≡ mailbox = omega arith in
          subst (λ (j : ℕ). (bus_seat (head_read b m head) rs ≡ bus_seat (head_read b j head) rs) × IsHead head
          × IsHeadSent b j head) same (refl, x.1, x.2),
    ))

pub reads_bytes-keep : (txfp : Bool) (slots id m i : ℕ) (b : BusView) (rs : List RouteView) → i ≡ 2 + 2 * m →
    Allows (IsKept txfp) slots id (bus_seat b rs) i (λ n. n) (ReadsBytes (step slots i 0 0 none) (bus_seat b rs))
reads_bytes-keep txfp slots id m i b rs at =
    subst (λ (j : ℕ). Allows (IsKept txfp) slots id (bus_seat b rs) j (λ n. n)
    (ReadsBytes (step slots j 0 0 none) (bus_seat b rs))) (sym at) (λ t k long me fits.
    let x = reads_bytes txfp t k id m b rs me in (
      with_bus b rs,
      keeps,
      tt,
      x.0.kept,
      (
        refl,
        λ mailbox is. let same : m ≡ mailbox = omega arith in
            subst (λ (j : ℕ). AreBytesSent b j (get_or t.words (2 + 2 * m) 0)) same x.1,
      ),
    ))

pub completes-keep : (txfp : Bool) (slots id mask : ℕ) (b : BusView) (rs : List RouteView) → IsSome b.sends →
    b.reaps ≡ None → ((w : ℕ) → w < 2 ^ 64 → LaneSet w b.mailbox 0 (bit_and w mask)) →
    Allows (IsKept txfp) slots id (bus_seat b rs) 0 (λ n. bit_and n mask)
    (Completes (step slots 0 mask 0 none) (bus_seat b rs))
completes-keep txfp slots id mask b rs sends due clears t k long me fits =
    let x = some_of b.sends sends in (
      with_bus (bus_completed b) rs,
      keeps,
      tt,
      (completes txfp t k id (bit_and (get_or t.words 0 0) mask) b rs x.0 me x.1 due
          (clears (get_or t.words 0 0) fits)).then.kept,
      (refl, bus_few k.core b (law_of k.core k.reached) (bus_knows txfp t k id b rs me)),
    )

pub fails-keep : (txfp : Bool) (slots id mask : ℕ) (b : BusView) (rs : List RouteView) → IsSome b.sends →
    ((w : ℕ) → w < 2 ^ 64 → IsTransmitting w b.mailbox →
    LaneSet w b.mailbox (lane_of w b.mailbox - 8) (bit_and w mask)) →
    Allows (IsKept txfp) slots id (bus_seat b rs) 0 (λ n. bit_and n mask)
    (Fails (step slots 0 mask 0 none) (bus_seat b rs))
fails-keep txfp slots id mask b rs sends clears t k long me fits =
    let x = some_of b.sends sends in
    let w = get_or t.words 0 0 in (
      with_bus (bus_failed b w) rs,
      keeps,
      tt,
      (fails txfp t k id (bit_and w mask) b rs x.0 me x.1 (clears w fits)).then.kept,
      (refl, transmits_in txfp t k id b rs x.0 me x.1),
    )

pub reaps-keep : (txfp : Bool) (slots id mask : ℕ) (b : BusView) (rs : List RouteView) → IsSome b.reaps →
    ((w : ℕ) → w < 2 ^ 64 → LaneSet w b.mailbox 0 (bit_and w mask)) →
    Allows (IsKept txfp) slots id (bus_seat b rs) 0 (λ n. bit_and n mask)
    (Reaps (step slots 0 mask 0 none) (bus_seat b rs))
reaps-keep txfp slots id mask b rs due clears t k long me fits =
    let x = some_of b.reaps due in (
      with_bus (bus_reaped b) rs,
      keeps,
      tt,
      (reaps txfp t k id (bit_and (get_or t.words 0 0) mask) b rs x.0 me x.1
          (clears (get_or t.words 0 0) fits)).then.kept,
      (refl, bus_few k.core b (law_of k.core k.reached) (bus_knows txfp t k id b rs me)),
    )
