-- A bus side that took no post yet, and what taking one makes of it.
use Rattle.std.proofs.Common.{◌≡◌, ℕ, zero, suc, arith, ◌≤◌, List, [], ◌∷◌, ◌++◌, get_or, set, refl}
use Rattle.std.proofs.Common.{sym, ap, ◌∙◌, subst, true, Bool, Option, Some, None}
use Rattle.std.specs.Prelude.{replicate, slice_get}
use Rattle.std.proofs.lemmas.List.{length-replicate}
use Rattle.atomic_table.specs.Seated.{TableId}
use Rattle.can_frame.specs.Frames.{FrameValue}
use Rattle.bx_core.specs.declared.waiting.Waiting.{Waiting}
use Rattle.bx_core.specs.Lists.{Each, Has}
use Rattle.bx_core.specs.RouteTx.{no_route_past}
use Rattle.bx_core.specs.States.{RouteLists, no_lists, opening_by}
use Rattle.bx_core.specs.Steps.{may_start}
use Rattle.bx_core.specs.TxBus.{BusPast, no_bus_past}
use Rattle.bx_core.proofs.Reaches.{law-opening}
use Rattle.bx_mail.specs.declared.log.Log.{Log}
use Rattle.bx_mail.specs.declared.posting.Posting.{Posting}
use Rattle.bx_mail.specs.declared.posting.Asks.TheVariants.{Transmit, Abort}
use Rattle.bx_mail.specs.Boxes.{may_start_first, on_bus_now, aborted_of}
use Rattle.bx_mail.specs.Postings.{IsRequest}
use Rattle.bx_mail.specs.Rule.{bus_log, Taken}
use Rattle.bx_shared.specs.declared.tally.Tally.{Tally}
use Rattle.bx_mail.specs.Sides.{BusSide, Runs, HasRun, IsNewBus}
use Rattle.bx_mail.proofs.PostsTaken.{takes-aside, takes-abort, aborts-sends}

no_lists_at : (n r : ℕ) → get_or (replicate n no_lists) r no_lists ≡ no_lists
no_lists_at zero r = refl
no_lists_at (suc n) zero = refl
no_lists_at (suc n) (suc r) = no_lists_at n r

opens : (n : ℕ) (queue : TableId) (t : Tally) → n ≤ 8 →
    Runs (record { queue = queue; routes = n; got = []; boxes = []; aside = None; tally = t }) no_bus_past
opens n queue t few = record {
  core = opening_by true n;
  law = law-opening true n few;
  order = refl;
  free = refl;
  routes = length-replicate n no_lists;
  boxes = refl;
  bus = record {
    started_known = tt;
    done_is = λ r. ap (λ (l : RouteLists). l.done) (sym (no_lists_at n r));
    reaped_is = λ r. ap (λ (l : RouteLists). l.reaped) (sym (no_lists_at n r));
  };
  asks = λ r. no_route_past;
  stands = λ r. record {
    requested_is = ap (λ (l : RouteLists). l.requested) (sym (no_lists_at n r));
    aborted_is = ap (λ (l : RouteLists). l.aborted) (sym (no_lists_at n r));
    asked_waits = tt;
    asked_reaped = subst (λ (l : RouteLists). Each (Has {A = ℕ} []) l.reaped) (sym (no_lists_at n r)) tt;
  };
  asked = λ r. tt;
  aborted = λ r. tt;
  requested = λ r. refl;
  orderly = record { rising = λ r. record { rises = tt; in_range = tt }; beyond = λ r le. refl };
  aside = tt;
}

pub opened : (v : BusSide) → v.routes ≤ 8 → v.got ≡ [] → v.boxes ≡ [] → v.aside ≡ None → Runs v no_bus_past
opened v few got boxes aside =
    subst (λ (y : List Posting × List Waiting × Option Posting). Runs
    (record { queue = v.queue; routes = v.routes; got = y.0; boxes = y.1; aside = y.2; tally = v.tally }) no_bus_past)
    (λ i. (sym got i, sym boxes i, sym aside i)) (opens v.routes v.queue v.tally few)

pub new_runs : (n : ℕ) (v : BusSide) → n ≤ 8 → IsNewBus n v → HasRun v no_bus_past
new_runs n v few new = record {
  runs = opened v (let e = new.routes_is in omega (arith, few, e)) new.none_taken new.none_waits new.none_aside;
  tally = new.none_counted;
}

-- the pass of a bus side that took in no route's side
pub log_form : (u : Log) (got : List Posting) (made : ℕ) → u ≡ bus_log got made [] → u ≡ bus_log u.got u.made []
log_form u got made e = e ∙ sym (ap (λ (x : Log). bus_log x.got x.made []) e)

pub taken_form : (u n : Log) (p : Posting) → Taken u p n → u ≡ bus_log u.got u.made [] → n ≡ bus_log n.got n.made []
taken_form u n p t e =
    log_form n (u.got ++ p ∷ []) u.made (t.0 ∙ ap (λ (x : Log). bus_log (u.got ++ p ∷ []) u.made x.known) e)

abbrev side : TableId → Log → List Waiting → Option Posting → Tally → BusSide
side queue u boxes aside tally =
    record { queue = queue; routes = u.made; got = u.got; boxes = boxes; aside = aside; tally = tally }

pub took-request : (v : BusSide) (queue table : TableId) (u n : Log) (boxes : List Waiting) (aside : Option Posting)
    (tally : Tally) (p : Posting) (f : FrameValue) → side queue u boxes aside tally ≡ v → table ≡ queue →
    Taken u p n → v.aside ≡ None → p.what ≡ Transmit f →
    (past : BusPast) → Runs v past → Runs (side table n boxes (Some p) tally) past
took-request v queue table u n boxes aside tally p f e same t none is past h =
    let w = side queue u boxes aside tally in
    subst (λ (y : TableId × Log). Runs (side y.0 y.1 boxes (Some p) tally) past) (λ i. (sym same i, sym t.0 i))
    (takes-aside w p (ap (λ (x : BusSide). x.aside) e ∙ none) t.1 (subst IsRequest (sym is) tt) past
    (subst (λ x. Runs x past) (sym e) h))

pub took-abort : (v : BusSide) (queue table : TableId) (u n : Log) (boxes after : List Waiting) (aside : Option Posting)
    (tally : Tally) (p : Posting) → side queue u boxes aside tally ≡ v → table ≡ queue → Taken u p n → p.what ≡ Abort →
    after ≡ aborted_of p.route p.number boxes →
    (past : BusPast) → Runs v past → Runs (side table n after aside tally) past
took-abort v queue table u n boxes after aside tally p e same t is gone past h =
    subst (λ (y : TableId × Log × List Waiting). Runs (side y.0 y.1 y.2 aside tally) past)
    (λ i. (sym same i, sym t.0 i, sym gone i))
    (takes-abort (side queue u boxes aside tally) p t.1 is past (subst (λ x. Runs x past) (sym e) h))

pub abort-now : (v : BusSide) (queue : TableId) (u n : Log) (boxes after : List Waiting) (aside : Option Posting)
    (tally : Tally) (p : Posting) → side queue u boxes aside tally ≡ v → Taken u p n →
    after ≡ aborted_of p.route p.number boxes →
    (past : BusPast) → Runs (side queue u boxes aside tally) past → on_bus_now after ≡ on_bus_now v.boxes
abort-now v queue u n boxes after aside tally p e t gone past h = ap on_bus_now gone
    ∙ aborts-sends (side queue u boxes aside tally) p t.1 past h ∙ ap (λ (x : BusSide). on_bus_now x.boxes) e

-- what was written first may start
pub starts_set : (q r : List Waiting) (w x : Waiting) (b : Bool) → slice_get q 0 ≡ Some w → r ≡ set q 0 x →
    b ≡ may_start x → b ≡ may_start_first r
starts_set [] r w x b at is may = cc
starts_set (y ∷ ys) r w x b at is may = may ∙ sym (ap may_start_first is)
