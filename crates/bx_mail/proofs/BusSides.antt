-- Each call of the bus side does what an event of the mailbox core does.
use Rattle.std.proofs.Common.{◌≡◌, ℕ, ◌&&◌, Bool, true, false, true≢false, cond, not, List, [], ◌∷◌, refl, sym, ap}
use Rattle.std.proofs.Common.{◌∙◌, subst, Option, Some, None}
use Rattle.std.specs.Prelude.{IsSome, IfSome, IfNone, option_map}
use Rattle.std.specs.List.{find}
use Rattle.std.proofs.lemmas.Bool.{and_parts}
use Rattle.bx_core.specs.declared.waiting.Waiting.{Waiting}
use Rattle.bx_core.specs.declared.status.Status.{Status}
use Rattle.bx_core.specs.declared.status.Status.TheVariants.{Pending, Scheduled, Transmitting}
use Rattle.bx_core.specs.declared.event.Event.TheVariants.{Start, Complete, Fail, Reap}
use Rattle.bx_core.specs.Lists.{Each}
use Rattle.bx_core.specs.States.{State, lists_of, is_scheduled, is_transmitting, on_bus, in_turn}
use Rattle.bx_core.specs.Steps.{with_waiting, without, done_lists, reaped_lists, may_start}
use Rattle.bx_core.specs.Law.{Law, IsUntouched}
use Rattle.bx_core.specs.TxBus.{Item, BusPast, IsUndone, label_of, after_start, after_complete, after_fail}
use Rattle.bx_core.specs.PlainMail.{item_of, starts_from, Starts, Completes, Fails}
use Rattle.bx_core.specs.Stands.{BusStands}
use Rattle.bx_core.proofs.Found.{at_of, goes-start, goes-complete, goes-fail, goes-reap_after}
use Rattle.bx_core.proofs.Reaches.{keeps-after}
use Rattle.bx_core.proofs.BusSide.{starts-bus, starts-keeps, completes-bus, completes-keeps, completes-idle, fails-bus}
use Rattle.bx_core.proofs.BusSide.{fails-keeps, fails-idle, fails-reaped}
use Rattle.bx_core.proofs.Undone.{starts_undone}
use Rattle.bx_mail.specs.Boxes.{on_bus_now, scheduled_first, started_first, starting, left_first, failed_first, reaping}
use Rattle.bx_mail.specs.Sides.{BusSide, Runs, IsRunning}
use Rattle.bx_mail.proofs.Scheduling.{mail, at_first, set_first, remove_first, box_first, rest_first, none_found}
use Rattle.bx_mail.proofs.Scheduling.{sends_now, runs-sends, runs_on, Becomes, schedules-run}

-- start

abbrev StartsTo : State → Option Item → List Waiting → Type 0
StartsTo s x q = (t : State) × Starts s x t × Becomes s q t

not_ready_case : (w : Waiting) (ws : List Waiting) → may_start w ≡ false → Each IsUntouched ws →
    starts_from (find (λ (y : Waiting). is_scheduled y.status) (w ∷ ws)) ≡ false
not_ready_case w ws may rest = by_test (is_scheduled w.status)
  where
    by_test : (b : Bool) → starts_from (cond b (Some w) (find (λ (y : Waiting). is_scheduled y.status) ws)) ≡ false
    by_test true = may
    by_test false = ap starts_from (none_found is_scheduled refl ws rest)

starts-core : (s : State) (q : List Waiting) → Law s → s.txfp ≡ true → s.queue ≡ q →
    StartsTo s (starting q) (started_first q)
starts-core s [] l o e = (
  s,
  (ap (λ ws. starts_from (find (λ (y : Waiting). is_scheduled y.status) ws)) e, refl),
  record { law = l; claims = refl; queue = e },
)
starts-core s (w ∷ ws) l o e = by_test (may_start w) refl
  where
    by_test : (b : Bool) → may_start w ≡ b → StartsTo s (cond b (Some (item_of w)) None)
        (cond b (record w { status = Transmitting }) w ∷ ws)
    by_test true may =
        let x : Waiting = record w { status = Transmitting } in
        let t : State = with_waiting s (at_of s w) x in
        let turn : in_turn s ≡ Some w = ap (find (λ (y : Waiting). is_scheduled y.status)) e
        ∙ ap (λ b. cond b (Some w) (find (λ (y : Waiting). is_scheduled y.status) ws))
        (and_parts (is_scheduled w.status) (not w.abort_asked) may).0 in
        let goes = goes-start s w (at_first s w ws e) may in (
          t,
          (w, turn, refl, goes),
          record {
            law = (keeps-after s t (Start w.mailbox) (box_first s w ws l e) goes l).0;
            claims = refl;
            queue = set_first s w x ws e;
          },
        )
    by_test false may = (
      s,
      (
        ap (λ q. starts_from (find (λ (y : Waiting). is_scheduled y.status) q)) e
            ∙ not_ready_case w ws may (rest_first s w ws l o e),
        refl,
      ),
      record { law = l; claims = refl; queue = e },
    )

pub starts-run : (v : BusSide) (past : BusPast) → Runs v past →
    Runs (record v { boxes = started_first v.boxes }) (after_start past (starting v.boxes))
starts-run v past h =
    let c = starts-core h.core v.boxes h.law h.order h.boxes in
    let x = starting v.boxes in
    runs_on v past (after_start past x) (started_first v.boxes) h c.0 c.2.law c.2.claims c.2.queue
    (starts-keeps (mail h.core) (mail c.0) x h.law c.1 refl) (starts-bus h.core c.0 x past h.law c.1 h.bus)

pub starts-new : (v : BusSide) (past : BusPast) → Runs v past → IfSome (starting v.boxes) (λ x. IsUndone past x)
starts-new v past h =
    let c = starts-core h.core v.boxes h.law h.order h.boxes in
    starts_undone h.core c.0 (starting v.boxes) past h.law c.1 h.bus

pub starts-was_idle : (q : List Waiting) → IfSome (starting q) (λ x. on_bus_now q ≡ None)
starts-was_idle [] = tt
starts-was_idle (w ∷ ws) = by_status w.status w.abort_asked
  where
    by_status : (st : Status) (b : Bool) → IfSome (cond (is_scheduled st && not b) (Some (item_of w)) None)
        (λ x. cond (is_transmitting st) (Some (item_of w)) None ≡ None)
    by_status Pending b = tt
    by_status Scheduled true = tt
    by_status Scheduled false = refl
    by_status Transmitting b = tt

pub starts-now : (q : List Waiting) → IfSome (starting q) (λ x. on_bus_now (started_first q) ≡ Some x)
starts-now [] = tt
starts-now (w ∷ ws) = by_test (may_start w)
  where
    by_test : (b : Bool) → IfSome (cond b (Some (item_of w)) None)
        (λ x. on_bus_now (cond b (record w { status = Transmitting }) w ∷ ws) ≡ Some x)
    by_test true = refl
    by_test false = tt

pub starts-none : (q : List Waiting) → IfNone (starting q) (started_first q ≡ q)
starts-none [] = refl
starts-none (w ∷ ws) = by_test (may_start w)
  where
    by_test : (b : Bool) → IfNone (cond b (Some (item_of w)) None)
        (cond b (record w { status = Transmitting }) w ∷ ws ≡ w ∷ ws)
    by_test true = tt
    by_test false = refl

-- complete

sent_first : (w : Waiting) (ws : List Waiting) (x : Item) → on_bus_now (w ∷ ws) ≡ Some x →
    is_transmitting w.status ≡ true
sent_first w ws x e = by_test (is_transmitting w.status) e
  where
    by_test : (b : Bool) → cond b (Some (item_of w)) None ≡ Some x → b ≡ true
    by_test true e = refl
    by_test false e = cc

on_bus_first : (s : State) (w : Waiting) (ws : List Waiting) → s.queue ≡ w ∷ ws → is_transmitting w.status ≡ true →
    on_bus s ≡ Some w
on_bus_first s w ws e sends = ap (find (λ (y : Waiting). is_transmitting y.status)) e
    ∙ ap (λ b. cond b (Some w) (find (λ (y : Waiting). is_transmitting y.status) ws)) sends

abbrev CompletesTo : State → List Waiting → Type 0
CompletesTo s q = (t : State) × Completes s t × Becomes s q t

completes-core : (s : State) (q : List Waiting) (x : Item) → Law s → s.queue ≡ q → on_bus_now q ≡ Some x →
    CompletesTo s (left_first q)
completes-core s [] x l e on = cc
completes-core s (w ∷ ws) x l e on =
    let sends = sent_first w ws x on in
    let t : State = without s (at_of s w) w.route (done_lists (lists_of s w.route) w) in
    let goes = goes-complete s w (at_first s w ws e) sends in (
      t,
      (w, on_bus_first s w ws e sends, goes),
      record {
        law = (keeps-after s t (Complete w.mailbox) (box_first s w ws l e) goes l).0;
        claims = refl;
        queue =
            remove_first s w ws e;
      },
    )

pub completes-run : (v : BusSide) (past : BusPast) (x : Item) → on_bus_now v.boxes ≡ Some x → Runs v past →
    Runs (record v { boxes = left_first v.boxes }) (after_complete past (on_bus_now v.boxes))
completes-run v past x on h =
    let c = completes-core h.core v.boxes x h.law h.boxes on in
    runs_on v past (after_complete past (on_bus_now v.boxes)) (left_first v.boxes) h c.0 c.2.law c.2.claims c.2.queue
    (completes-keeps (mail h.core) (mail c.0) h.law c.1 refl)
    (subst (λ o. BusStands c.0 (after_complete past o)) (runs-sends v past h)
    (completes-bus h.core c.0 past h.law c.1 h.bus))

pub completes-rest : (v : BusSide) (past : BusPast) (x : Item) → on_bus_now v.boxes ≡ Some x → Runs v past →
    on_bus_now (left_first v.boxes) ≡ None
completes-rest v past x on h =
    let c = completes-core h.core v.boxes x h.law h.boxes on in
    let k = completes-keeps (mail h.core) (mail c.0) h.law c.1 refl in
    let order : c.0.txfp ≡ true = k.priority ∙ h.order in
    sym (sends_now c.0 (left_first v.boxes) c.2.law order c.2.queue) ∙ completes-idle h.core c.0 h.law c.1

-- fail

abbrev FailsTo : State → Option (ℕ × ℕ) → List Waiting → Type 0
FailsTo s x q = (t : State) × Fails s x t × Becomes s q t

fails-core : (s : State) (q : List Waiting) (x : Item) → Law s → s.queue ≡ q → on_bus_now q ≡ Some x →
    FailsTo s (reaping q) (failed_first q)
fails-core s [] x l e on = cc
fails-core s (w ∷ ws) x l e on = by_test w.abort_asked refl
  where
    y : Waiting
    y = record w { status = Scheduled }

    by_test : (b : Bool) → w.abort_asked ≡ b → FailsTo s (cond b (Some (w.route, w.number)) None) (cond b ws (y ∷ ws))
    by_test true asked =
        let sends = sent_first w ws x on in
        let at = at_first s w ws e in
        let m = box_first s w ws l e in
        let u : State = with_waiting s (at_of s w) y in
        let fails = goes-fail s w at sends in
        let t : State = without u (at_of u w) w.route (reaped_lists (lists_of u w.route) y) in
        let reaps = goes-reap_after s u w at asked fails in
        let lu = (keeps-after s u (Fail w.mailbox) m fails l).0 in
        let eu : u.queue ≡ y ∷ ws = set_first s w y ws e in (
          t,
          (w, u, on_bus_first s w ws e sends, asked, refl, fails, reaps),
          record {
            law = (keeps-after u t (Reap w.mailbox) m reaps lu).0;
            claims = refl;
            queue =
                remove_first u y ws eu;
          },
        )
    by_test false asked =
        let sends = sent_first w ws x on in
        let t : State = with_waiting s (at_of s w) y in
        let goes = goes-fail s w (at_first s w ws e) sends in (
          t,
          (w, on_bus_first s w ws e sends, asked, goes),
          record {
            law = (keeps-after s t (Fail w.mailbox) (box_first s w ws l e) goes l).0;
            claims = refl;
            queue =
                set_first s w y ws e;
          },
        )

pub fails-run : (v : BusSide) (past : BusPast) (x : Item) → on_bus_now v.boxes ≡ Some x → Runs v past →
    Runs (record v { boxes = failed_first v.boxes }) (after_fail past (reaping v.boxes))
fails-run v past x on h =
    let c = fails-core h.core v.boxes x h.law h.boxes on in
    let r = reaping v.boxes in
    runs_on v past (after_fail past r) (failed_first v.boxes) h c.0 c.2.law c.2.claims c.2.queue
    (fails-keeps (mail h.core) (mail c.0) r h.law c.1 refl) (fails-bus h.core c.0 r past h.law c.1 h.bus)

pub fails-rest : (v : BusSide) (past : BusPast) (x : Item) → on_bus_now v.boxes ≡ Some x → Runs v past →
    on_bus_now (failed_first v.boxes) ≡ None
fails-rest v past x on h =
    let c = fails-core h.core v.boxes x h.law h.boxes on in
    let k = fails-keeps (mail h.core) (mail c.0) (reaping v.boxes) h.law c.1 refl in
    let order : c.0.txfp ≡ true = k.priority ∙ h.order in
    sym (sends_now c.0 (failed_first v.boxes) c.2.law order c.2.queue)
    ∙ fails-idle h.core c.0 (reaping v.boxes) h.law c.1

pub fails-label : (v : BusSide) (past : BusPast) (x : Item) → on_bus_now v.boxes ≡ Some x → Runs v past →
    IfSome (reaping v.boxes) (λ y. option_map label_of (on_bus_now v.boxes) ≡ Some y)
fails-label v past x on h =
    let c = fails-core h.core v.boxes x h.law h.boxes on in
    subst (λ o. IfSome (reaping v.boxes) (λ y. option_map label_of o ≡ Some y)) (runs-sends v past h)
    (fails-reaped h.core c.0 (reaping v.boxes) c.1)

-- the same, where the boxes and the side before are told of by other names

pub some_item : (o : Option Item) → IsSome o → (x : Item) × (o ≡ Some x)
some_item (Some x) h = (x, refl)
some_item None h = absurd (true≢false (sym h))

pub scheduled-past : (v w : BusSide) (q : List Waiting) → v ≡ w → q ≡ scheduled_first w.boxes → (past : BusPast) →
    Runs v past → Runs (record w { boxes = q }) past
scheduled-past v w q e is past h =
    subst (λ ws. Runs (record w { boxes = ws }) past) (sym is) (schedules-run w past (subst (λ u. Runs u past) e h))

pub started-past : (v w : BusSide) (q : List Waiting) (x : Option Item) → v ≡ w → q ≡ started_first w.boxes →
    x ≡ starting w.boxes → (past : BusPast) → Runs v past → Runs (record w { boxes = q }) (after_start past x)
started-past v w q x e is told past h =
    subst (λ (y : List Waiting × Option Item). Runs (record w { boxes = y.0 }) (after_start past y.1))
    (λ i. (sym is i, sym told i)) (starts-run w past (subst (λ u. Runs u past) e h))

pub started-new : (v w : BusSide) (x : Option Item) → v ≡ w → x ≡ starting w.boxes → (past : BusPast) → Runs v past →
    IfSome x (λ y. IsUndone past y)
started-new v w x e told past h =
    subst (λ y. IfSome y (λ z. IsUndone past z)) (sym told) (starts-new w past (subst (λ u. Runs u past) e h))

pub completed-past : (v w : BusSide) (q : List Waiting) → v ≡ w → q ≡ left_first w.boxes → IsSome (on_bus_now v.boxes) →
    (past : BusPast) → Runs v past → Runs (record w { boxes = q }) (after_complete past (on_bus_now v.boxes))
completed-past v w q e is on past h =
    let x = some_item (on_bus_now v.boxes) on in
    let k = completes-run v past x.0 x.1 h in
    subst (λ ws. Runs (record w { boxes = ws }) (after_complete past (on_bus_now v.boxes))) (sym is)
    (subst (λ (u : BusSide). Runs (record u { boxes = left_first u.boxes })
    (after_complete past (on_bus_now v.boxes))) e k)

pub completed-rest : (v w : BusSide) (q : List Waiting) → v ≡ w → q ≡ left_first w.boxes → IsSome (on_bus_now v.boxes) →
    IsRunning w → on_bus_now q ≡ None
completed-rest v w q e is on h = let x =
    some_item (on_bus_now w.boxes) (subst (λ (u : BusSide). IsSome (on_bus_now u.boxes)) e on) in
    ap on_bus_now is ∙ completes-rest w h.0 x.0 x.1 h.1.runs

pub failed-past : (v w : BusSide) (q : List Waiting) (y : Option (ℕ × ℕ)) → v ≡ w → q ≡ failed_first w.boxes →
    y ≡ reaping w.boxes → IsSome (on_bus_now v.boxes) → (past : BusPast) → Runs v past →
    Runs (record w { boxes = q }) (after_fail past y)
failed-past v w q y e is told on past h =
    let x = some_item (on_bus_now w.boxes) (subst (λ (u : BusSide). IsSome (on_bus_now u.boxes)) e on) in
    subst (λ (z : List Waiting × Option (ℕ × ℕ)). Runs (record w { boxes = z.0 }) (after_fail past z.1))
    (λ i. (sym is i, sym told i)) (fails-run w past x.0 x.1 (subst (λ u. Runs u past) e h))

pub failed-rest : (v w : BusSide) (q : List Waiting) → v ≡ w → q ≡ failed_first w.boxes → IsSome (on_bus_now v.boxes) →
    IsRunning w → on_bus_now q ≡ None
failed-rest v w q e is on h = let x =
    some_item (on_bus_now w.boxes) (subst (λ (u : BusSide). IsSome (on_bus_now u.boxes)) e on) in
    ap on_bus_now is ∙ fails-rest w h.0 x.0 x.1 h.1.runs

pub failed-label : (v w : BusSide) (y : Option (ℕ × ℕ)) → v ≡ w → y ≡ reaping w.boxes → IsSome (on_bus_now v.boxes) →
    IsRunning w → IfSome y (λ z. option_map label_of (on_bus_now v.boxes) ≡ Some z)
failed-label v w y e told on h = let x =
    some_item (on_bus_now w.boxes) (subst (λ (u : BusSide). IsSome (on_bus_now u.boxes)) e on) in
    subst (λ (u : BusSide). IfSome y (λ z. option_map label_of (on_bus_now u.boxes) ≡ Some z)) (sym e)
    (subst (λ o. IfSome o (λ z. option_map label_of (on_bus_now w.boxes) ≡ Some z)) (sym told)
    (fails-label w h.0 x.0 x.1 h.1.runs))
