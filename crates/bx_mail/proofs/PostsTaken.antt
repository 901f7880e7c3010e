-- What the bus side does with a post that it takes: a request is kept aside, an abort is done.
use Rattle.std.proofs.Common.{◌≡◌, ◌≢◌, ℕ, suc, arith, ◌<◌, inl, inr, Bool, true, false, cond, List, [], ◌∷◌, ◌++◌}
use Rattle.std.proofs.Common.{length, set, refl, sym, ap, ◌∙◌, subst, Option, Some, None, Ok, eq-eqb, append-nil}
use Rattle.std.specs.Prelude.{option_to_list}
use Rattle.std.specs.List.{remove}
use Rattle.std.proofs.lemmas.Bool.Decides.{eqb_tells}
use mathlib.Core.Logic.{dite}
use native.Mathlib.Decide.{dec_le}
use Rattle.bx_core.specs.declared.waiting.Waiting.{Waiting}
use Rattle.bx_core.specs.declared.event.Event.TheVariants.{Abort as Aborts_event}
use Rattle.bx_core.specs.declared.answer.AbortAnswer.{AbortAnswer}
use Rattle.bx_core.specs.declared.answer.AbortAnswer.TheVariants.{Ended, Asked, Gone, NotNow}
use Rattle.bx_core.specs.Lists.{Each, Has}
use Rattle.bx_core.specs.States.{State, lists_of, at_mailbox, of_number, is_transmitting}
use Rattle.bx_core.specs.Steps.{with_waiting, without, aborted_lists, aborted}
use Rattle.bx_core.specs.Law.{Law}
use Rattle.bx_core.specs.TxBus.{BusPast}
use Rattle.bx_core.specs.RouteTx.{RoutePast, after_abort, if_asked, if_ended}
use Rattle.bx_core.specs.PlainMail.{Aborts}
use Rattle.bx_core.specs.Stands.{RouteStands}
use Rattle.bx_core.proofs.Words.{each-append, each_more, each_of, has-left, has-last}
use Rattle.bx_core.proofs.Found.{at_of, found}
use Rattle.bx_core.proofs.Numbers.{of_number_has, of_number_is, of_number-none}
use Rattle.bx_core.proofs.Reaches.{keeps-after}
use Rattle.bx_core.proofs.RouteSide.{aborts-own, aborts-keeps}
use Rattle.bx_mail.specs.declared.posting.Posting.{Posting}
use Rattle.bx_mail.specs.declared.posting.Asks.TheVariants.{Abort}
use Rattle.bx_mail.specs.Boxes.{on_bus_now, aborted_found, aborted_of}
use Rattle.bx_mail.specs.Postings.{of, request_by, requests_in, abort_by, aborts_in, IsRequest, AreOrderly}
use Rattle.bx_mail.specs.Sides.{BusSide, Runs}
use Rattle.bx_mail.proofs.Postings.{of-append, of-own, of-other, requests_in-append, aborts_in-append}
use Rattle.bx_mail.proofs.Relays.{put, put-same, put-other}
use Rattle.bx_mail.proofs.Scheduling.{mail}
use Rattle.bx_mail.proofs.Scheduling.{Becomes, sends_now}

pub put-each : (Q : ℕ → RoutePast → Type 0) (f : ℕ → RoutePast) (r : ℕ) (x : RoutePast) → Q r x →
    ((k : ℕ) → k ≢ r → Q k (f k)) → (k : ℕ) → Q k (put f r x k)
put-each Q f r x here other k = elim (eqb_tells k r) [
  | inl e ↦ subst (λ (y : ℕ × RoutePast). Q y.0 y.1) (λ i. (sym e.1 i, sym (put-same f r x k e.1) i)) here
  | inr e ↦ subst (Q k) (sym (put-other f r x k e.1)) (other k e.1)
]

-- the posts of a route, with one more

more_posts : (r : ℕ) (got : List Posting) (p : Posting) → aborts_in (of r (got ++ p ∷ [])) ≡ aborts_in (of r got)
    ++ aborts_in (of r (p ∷ []))
more_posts r got p = ap aborts_in (of-append r got (p ∷ [])) ∙ aborts_in-append (of r got) (of r (p ∷ []))

more_aborts : (r : ℕ) (got : List Posting) (p : Posting) (ns : List ℕ) → Each (Has (aborts_in (of r got))) ns →
    Each (Has (aborts_in (of r (got ++ p ∷ [])))) ns
more_aborts r got p ns h = each_more (Has (aborts_in (of r got))) (Has (aborts_in (of r (got ++ p ∷ [])))) ns
    (λ n has. subst (λ (l : List ℕ). Has l n) (sym (more_posts r got p))
    (has-left (aborts_in (of r got)) (aborts_in (of r (p ∷ []))) n has)) h

more_requests : (r : ℕ) (got : List Posting) (p : Posting) → requests_in (of r (got ++ p ∷ [])) ≡ requests_in (of r got)
    ++ requests_in (of r (p ∷ []))
more_requests r got p = ap requests_in (of-append r got (p ∷ [])) ∙ requests_in-append (of r got) (of r (p ∷ []))

pub not_nothing : {A : Type 0} (xs : List A) (x : A) → xs ++ x ∷ [] ≡ [] → ⊥
not_nothing [] x e = let h : x ∷ [] ≡ [] = e in cc
not_nothing (y ∷ ys) x e = let h : y ∷ (ys ++ x ∷ []) ≡ [] = e in cc

-- a post of orderly ones is of a route that is there
route_there : (n : ℕ) (got : List Posting) (p : Posting) → AreOrderly n (got ++ p ∷ []) → p.route < n
route_there n got p o = dite (dec_le (suc p.route) n) (λ h. h)
    (λ h. absurd
    (not_nothing (of p.route got) p
    (sym (of-append p.route got (p ∷ []) ∙ ap (λ ps. of p.route got ++ ps) (of-own p.route p refl))
    ∙ o.beyond p.route (omega (arith, h)))))

-- a request is taken: it is kept aside

pub takes-aside : (v : BusSide) (p : Posting) → v.aside ≡ None → AreOrderly v.routes (v.got ++ p ∷ []) →
    IsRequest p.what → (past : BusPast) → Runs v past → Runs (record v { got = v.got ++ p ∷ []; aside = Some p }) past
takes-aside v p none o request past h = record {
  core = h.core;
  law = h.law;
  order = h.order;
  free = h.free;
  routes = h.routes;
  boxes = h.boxes;
  bus = h.bus;
  asks = h.asks;
  stands = h.stands;
  asked = λ r. more_aborts r v.got p (h.asks r).asked (h.asked r);
  aborted = λ r. more_aborts r v.got p (h.asks r).aborted (h.aborted r);
  requested = λ r. (let plain : (h.asks r).requested ≡ requests_in (of r v.got) = sym (append-nil (h.asks r).requested)
      ∙ ap (λ (a : Option Posting). (h.asks r).requested ++ requests_in (of r (option_to_list a))) (sym none)
      ∙ h.requested r in
      ap (λ es. es ++ requests_in (of r (p ∷ []))) plain ∙ sym (more_requests r v.got p));
  orderly = o;
  aside = request;
}

-- an abort is taken

goes-ask : (s : State) (r : ℕ) (w : Waiting) → at_mailbox w.mailbox s.queue ≡ Some w → w.route ≡ r →
    w.abort_asked ≡ false → is_transmitting w.status ≡ true →
    aborted s r w.mailbox ≡ Ok (with_waiting s (at_of s w) (record w { abort_asked = true }))
unfolding aborted
goes-ask s r w at own asked sends = rw (at, eq-eqb w.route r own, asked, sends) refl

goes-end : (s : State) (r : ℕ) (w : Waiting) → at_mailbox w.mailbox s.queue ≡ Some w → w.route ≡ r →
    w.abort_asked ≡ false → is_transmitting w.status ≡ false →
    aborted s r w.mailbox ≡ Ok (without s (at_of s w) w.route (aborted_lists (lists_of s w.route) w))
unfolding aborted
goes-end s r w at own asked sends = rw (at, eq-eqb w.route r own, asked, sends) refl

abbrev AbortsTo : State → ℕ → ℕ → List Waiting → Type 0
AbortsTo s r n q = (t : State) × (answer : AbortAnswer) × Aborts s r n answer t × Becomes s q t

aborts-found : (s : State) (r n : ℕ) → Law s → r < length s.routes → (o : Option Waiting) → of_number r n s.queue ≡ o →
    AbortsTo s r n (aborted_found s.queue o)
aborts-found s r n l there None is =
    (s, Gone, (of_number-none r n s.queue is, refl), record { law = l; claims = refl; queue = refl })
aborts-found s r n l there (Some w) is = by_test w.abort_asked refl (is_transmitting w.status) refl
  where
    by_test : (a : Bool) → w.abort_asked ≡ a → (b : Bool) → is_transmitting w.status ≡ b →
        AbortsTo s r n
        (cond a s.queue (cond b (set s.queue (at_of s w) (record w { abort_asked = true }))
        (remove s.queue (at_of s w))))
    by_test true asked b sends = (
      s,
      Asked,
      (w, of_number_has r n s.queue w is, of_number_is r n s.queue w is, inl (asked, refl)),
      record { law = l; claims = refl; queue = refl },
    )
    by_test false asked true sends =
        let has = of_number_has r n s.queue w is in
        let own = of_number_is r n s.queue w is in
        let at = (found s w l has).at in
        let t : State = with_waiting s (at_of s w) (record w { abort_asked = true }) in
        let goes = goes-ask s r w at own.route_is asked sends in
        let m = (each_of (λ (y : Waiting). y.mailbox < 3) s.queue w
        (each_more _ (λ (y : Waiting). y.mailbox < 3) s.queue (λ y p. p.mailbox) l.in_place) has) in (
          t,
          Asked,
          (w, has, own, inr (sends, goes)),
          record {
            law = (keeps-after s t (Aborts_event r w.mailbox) (there, m) goes l).0;
            claims = refl;
            queue =
                refl;
          },
        )
    by_test false asked false sends =
        let has = of_number_has r n s.queue w is in
        let own = of_number_is r n s.queue w is in
        let at = (found s w l has).at in
        let t : State = without s (at_of s w) w.route (aborted_lists (lists_of s w.route) w) in
        let goes = goes-end s r w at own.route_is asked sends in
        let m = (each_of (λ (y : Waiting). y.mailbox < 3) s.queue w
        (each_more _ (λ (y : Waiting). y.mailbox < 3) s.queue (λ y p. p.mailbox) l.in_place) has) in (
          t,
          Ended,
          (w, has, own, sends, goes),
          record {
            law = (keeps-after s t (Aborts_event r w.mailbox) (there, m) goes l).0;
            claims = refl;
            queue =
                refl;
          },
        )

aborts-core : (s : State) (r n : ℕ) (q : List Waiting) → Law s → r < length s.routes → s.queue ≡ q →
    AbortsTo s r n (aborted_of r n q)
aborts-core s r n q l there e = subst (λ (ws : List Waiting). AbortsTo s r n (aborted_of r n ws)) e
    (aborts-found s r n l there (of_number r n s.queue) refl)

each_ended : (P : ℕ → Type 0) (answer : AbortAnswer) (n : ℕ) → P n → Each P (if_ended answer n)
each_ended P Ended n h = (h, tt)
each_ended P Asked n h = tt
each_ended P Gone n h = tt
each_ended P NotNow n h = tt

each_asked : (P : ℕ → Type 0) (answer : AbortAnswer) (asks : Bool) (n : ℕ) → P n → Each P (if_asked answer asks n)
each_asked P Asked true n h = (h, tt)
each_asked P Asked false n h = tt
each_asked P Ended asks n h = tt
each_asked P Gone asks n h = tt
each_asked P NotNow asks n h = tt

abort_there : (got : List Posting) (p : Posting) → p.what ≡ Abort →
    Has (aborts_in (of p.route (got ++ p ∷ []))) p.number
abort_there got p is = subst (λ (l : List ℕ). Has l p.number)
    (sym (more_posts p.route got p ∙ ap (λ ps. aborts_in (of p.route got) ++ aborts_in ps) (of-own p.route p refl)
    ∙ ap (λ a. aborts_in (of p.route got) ++ (abort_by p.number a ++ [])) is))
    (has-last (aborts_in (of p.route got)) p.number)

no_request : (r : ℕ) (p : Posting) → p.what ≡ Abort → requests_in (of r (p ∷ [])) ≡ []
no_request r p is = elim (eqb_tells p.route r) [
  | inl e ↦ ap requests_in (of-own r p e.1) ∙ ap (λ a. request_by p.number a ++ []) is
  | inr e ↦ ap requests_in (of-other r p e.1)
]

same_requests : (r : ℕ) (got : List Posting) (p : Posting) → p.what ≡ Abort →
    requests_in (of r got) ≡ requests_in (of r (got ++ p ∷ []))
same_requests r got p is = sym (more_requests r got p ∙ ap (λ es. requests_in (of r got) ++ es) (no_request r p is)
    ∙ append-nil (requests_in (of r got)))

pub takes-abort : (v : BusSide) (p : Posting) → AreOrderly v.routes (v.got ++ p ∷ []) → p.what ≡ Abort →
    (past : BusPast) → Runs v past →
    Runs (record v { got = v.got ++ p ∷ []; boxes = aborted_of p.route p.number v.boxes }) past
takes-abort v p o is past h =
    let r = p.route in
    let n = p.number in
    let there : r < length h.core.routes = subst (λ i. r < i) (sym h.routes) (route_there v.routes v.got p o) in
    let c = aborts-core h.core r n v.boxes h.law there h.boxes in
    let t = c.0 in
    let answer = c.1 in
    let own = aborts-own h.core t r n answer (h.asks r) h.law there c.2 (h.stands r) in
    let k = aborts-keeps (mail h.core) (mail t) r n answer h.law there c.2 refl in
    let a : RoutePast = after_abort (h.asks r) n answer own.0 in
    let got = v.got ++ p ∷ [] in
    record {
      core = t;
      law = c.3.law;
      order = k.priority ∙ h.order;
      free = c.3.claims ∙ h.free;
      routes = k.routes ∙ h.routes;
      boxes = c.3.queue;
      bus = k.bus past h.bus;
      asks = put h.asks r a;
      stands = put-each (RouteStands t) h.asks r a own.1 (λ i ne. k.others i ne (h.asks i) (h.stands i));
      asked = put-each (λ i (x : RoutePast). Each (Has (aborts_in (of i got))) x.asked) h.asks r a
          (each-append (Has (aborts_in (of r got))) (h.asks r).asked (if_asked answer own.0 n)
          (more_aborts r v.got p (h.asks r).asked (h.asked r))
          (each_asked (Has (aborts_in (of r got))) answer own.0 n (abort_there v.got p is)))
          (λ i ne. more_aborts i v.got p (h.asks i).asked (h.asked i));
      aborted = put-each (λ i (x : RoutePast). Each (Has (aborts_in (of i got))) x.aborted) h.asks r a
          (each-append (Has (aborts_in (of r got))) (h.asks r).aborted (if_ended answer n)
          (more_aborts r v.got p (h.asks r).aborted (h.aborted r))
          (each_ended (Has (aborts_in (of r got))) answer n (abort_there v.got p is)))
          (λ i ne. more_aborts i v.got p (h.asks i).aborted (h.aborted i));
      requested = put-each (λ i (x : RoutePast). x.requested ++ requests_in (of i (option_to_list v.aside))
          ≡ requests_in (of i got)) h.asks r a
          (h.requested r ∙ same_requests r v.got p is) (λ i ne. h.requested i ∙ same_requests i v.got p is);
      orderly = o;
      aside = h.aside;
    }

pub aborts-sends : (v : BusSide) (p : Posting) → AreOrderly v.routes (v.got ++ p ∷ []) → (past : BusPast) →
    Runs v past → on_bus_now (aborted_of p.route p.number v.boxes) ≡ on_bus_now v.boxes
aborts-sends v p o past h =
    let there : p.route < length h.core.routes =
    subst (λ i. p.route < i) (sym h.routes) (route_there v.routes v.got p o) in
    let c = aborts-core h.core p.route p.number v.boxes h.law there h.boxes in
    let k = aborts-keeps (mail h.core) (mail c.0) p.route p.number c.1 h.law there c.2 refl in
    sym (sends_now c.0 (aborted_of p.route p.number v.boxes) c.3.law (k.priority ∙ h.order) c.3.queue) ∙ k.sends
    ∙ sends_now h.core v.boxes h.law h.order h.boxes
