-- Each move of the sides keeps the rule of the queue.
use Rattle.std.proofs.Common.{◌≡◌, ◌≢◌, ℕ, zero, suc, ◌+◌, ◌<◌, ◌≤◌, ◌==◌, ◌⊎◌, inl, inr, Bool, true, false, true≢false}
use Rattle.std.proofs.Common.{cond, List, [], ◌∷◌, ◌++◌, length, get_or, set, refl, sym, ap, ◌∙◌, subst, ⊎_elim}
use Rattle.std.proofs.Common.{append_assoc, append-nil, length-append, arith, lit≤, eq-eqb, ne_eqb}
use Rattle.std.specs.Prelude.{Option, Some, None}
use Rattle.std.proofs.lemmas.Bool.Decides.{eqb_tells}
use mathlib.Core.Option.{some, some-ne-none, some-injective}
use lib.ListN.{get_elem?}
use Rattle.crossbeam_queue.specs.Fifo.{Pushes, Pops, Forks, Merges, Learns}
use Rattle.crossbeam_queue.proofs.Lists.{at_set}
use Rattle.bx_mail.specs.declared.log.Log.{Log}
use Rattle.bx_mail.specs.declared.posting.Posting.{Posting}
use Rattle.bx_mail.specs.Postings.{of, requests_in, MayFollow, AreRising, AreOrderly}
use Rattle.bx_mail.specs.Rule.{bus_log, route_log, idle_log, Ledger, KnowsSent, KnowsGot, Knows, Balances, Delivers}
use Rattle.bx_mail.specs.Rule.{Taken, SentFact, TotalFact}
use Rattle.bx_mail.proofs.Postings.{of-append, of-own, of-other, rising-follow, orderly-front}

-- one place of a function is written
abbrev pub put : {B : Type 0} → (ℕ → B) → ℕ → B → ℕ → B
put f i x k = cond (k == i) x (f k)

pub put-same : {B : Type 0} (f : ℕ → B) (i : ℕ) (x : B) (k : ℕ) → k ≡ i → put f i x k ≡ x
put-same f i x k e = ap (λ b. cond b x (f k)) (eq-eqb k i e)

pub put-other : {B : Type 0} (f : ℕ → B) (i : ℕ) (x : B) (k : ℕ) → k ≢ i → put f i x k ≡ f k
put-other f i x k e = ap (λ b. cond b x (f k)) (ne_eqb k i e)

put-none : (f : ℕ → Option ℕ) (i k : ℕ) → f k ≡ None → put f i None k ≡ None
put-none f i k e = by_test (k == i)
  where
    by_test : (b : Bool) → cond b None (f k) ≡ None
    by_test true = refl
    by_test false = e

same_seat : (i j : ℕ) → Some i ≡ Some j → i ≡ j
same_seat i j e = let h : Some i ≡ Some j = e in cc

no_seat : (i : ℕ) → Some i ≡ None → ⊥
no_seat i e = let h : Some i ≡ None = e in cc

not_true : false ≡ true → ⊥
not_true e = true≢false (sym e)

-- a place of a longer list
at_either : (l : List Log) (a b : Log) (j : ℕ) → get_elem? (l ++ a ∷ []) j ≡ some b → (get_elem? l j ≡ some b)
    ⊎ ((j ≡ length l) × (a ≡ b))
at_either [] a b zero e = inr (refl, some-injective a b e)
at_either [] a b (suc j) e = absurd (some-ne-none b (sym e))
at_either (x ∷ xs) a b zero e = inl e
at_either (x ∷ xs) a b (suc j) e = ⊎_elim (λ h. inl h) (λ h. inr (ap suc h.0, h.1)) (at_either xs a b j e)

abbrev All : (ℕ → Log → Type 0) → List Log → Type 0
All F views = (side : ℕ) (v : Log) → get_elem? views side ≡ some v → F side v

all_set : (F : ℕ → Log → Type 0) (views : List Log) (side : ℕ) (w : Log) → F side w →
    ((j : ℕ) (u : Log) → j ≢ side → get_elem? views j ≡ some u → F j u) → All F (set views side w)
all_set F views side w mine others j u e =
    ⊎_elim (λ (x : (j ≡ side) × (w ≡ u)). subst (λ (y : ℕ × Log). F y.0 y.1) (λ i. (sym x.0 i, x.1 i)) mine)
    (λ (x : (j ≢ side) × (get_elem? views j ≡ some u)). others j u x.0 x.1) (at_set views side j w u e)

all_snoc : (F : ℕ → Log → Type 0) (views : List Log) (w : Log) → All F views → F (length views) w →
    All F (views ++ w ∷ [])
all_snoc F views w old new j u e = ⊎_elim (λ h. old j u h)
    (λ (x : (j ≡ length views) × (w ≡ u)). subst (λ (y : ℕ × Log). F y.0 y.1) (λ i. (sym x.0 i, x.1 i)) new)
    (at_either views w u j e)

-- what a side knows in a ledger that differs in what it doesn't speak of
sent_on : (l m : Ledger) (side : ℕ) (v : Log) → m.seat v.from ≡ l.seat v.from → m.sent v.from ≡ l.sent v.from →
    l.made ≤ m.made → KnowsSent l side v → KnowsSent m side v
sent_on l m side v seat sent made k =
    record { seat = seat ∙ k.seat; sent = k.sent ∙ sym sent; there = omega (arith, k.there, made) }

pub begins : Delivers [] (bus_log [] 0 [] ∷ [])
begins =
    let l : Ledger = record { reader = 0; seat = λ r. None; sent = λ r. []; got = []; made = 0 } in
    let first : Knows l 0 (bus_log [] 0 []) = (
      (λ s. absurd (not_true s)),
      λ g. record {
        reader = refl;
        got = refl;
        made = refl;
        unmade = λ r le. refl;
        ended = λ r lt. absurd (omega (arith, lt));
      },
    ) in (
      l,
      record {
        whole = λ r. refl;
        rising = λ r. record { rises = tt; in_range = tt };
        beyond = λ r le. refl;
        few =
            lit≤ tt;
      },
      all_snoc (Knows l) [] (bus_log [] 0 []) (λ j u e. absurd (some-ne-none u (sym e))) first,
    )

pub balanced-orderly : (l : Ledger) (items : List Posting) → Balances l items → AreOrderly l.made (l.got ++ items)
balanced-orderly l items b = record {
  rising = λ r. subst (λ ps. AreRising (requests_in ps)) (sym (b.whole r)) (b.rising r);
  beyond = λ r le. b.whole r ∙ b.beyond r le;
}

orderly-known : (l : Ledger) (side : ℕ) (v : Log) (ps : List Posting) → KnowsGot l side v →
    AreOrderly l.made (l.got ++ ps) → AreOrderly v.made (v.got ++ ps)
orderly-known l side v ps k h =
    subst (λ (y : ℕ × List Posting). AreOrderly y.0 (y.1 ++ ps)) (λ i. (sym k.made i, sym k.got i)) h

-- a route posts

posted-whole : (l : Ledger) (items : List Posting) (x : Posting) (from : ℕ) (sent : List Posting) → x.route ≡ from →
    sent ≡ l.sent from → Balances l items → (r : ℕ) →
    of r (l.got ++ (items ++ x ∷ [])) ≡ put l.sent from (sent ++ x ∷ []) r
posted-whole l items x from sent own is b r =
    let before : of r (l.got ++ (items ++ x ∷ [])) ≡ l.sent r ++ of r (x ∷ []) =
    ap (of r) (sym (append_assoc l.got items (x ∷ []))) ∙ of-append r (l.got ++ items) (x ∷ [])
    ∙ ap (λ ps. ps ++ of r (x ∷ [])) (b.whole r) in
    elim (eqb_tells r from) [
      | inl same ↦ before ∙ ap (λ ps. l.sent r ++ ps) (of-own r x (own ∙ sym same.1))
          ∙ ap (λ ps. ps ++ x ∷ []) (ap l.sent same.1 ∙ sym is) ∙ sym (put-same l.sent from (sent ++ x ∷ []) r same.1)
      | inr other ↦ before ∙ ap (λ ps. l.sent r ++ ps) (of-other r x (λ e. other.1 (sym e ∙ own)))
          ∙ append-nil (l.sent r) ∙ sym (put-other l.sent from (sent ++ x ∷ []) r other.1)
    ]

posted-rising : (l : Ledger) (items : List Posting) (x : Posting) (from : ℕ) (sent : List Posting) →
    sent ≡ l.sent from → MayFollow sent x.number x.what → Balances l items → (r : ℕ) →
    AreRising (requests_in (put l.sent from (sent ++ x ∷ []) r))
posted-rising l items x from sent is may b r = elim (eqb_tells r from) [
  | inl same ↦ subst (λ ps. AreRising (requests_in ps)) (sym (put-same l.sent from (sent ++ x ∷ []) r same.1))
      (rising-follow sent x (subst (λ ps. AreRising (requests_in ps)) (sym is) (b.rising from)) may)
  | inr other ↦ subst (λ ps. AreRising (requests_in ps)) (sym (put-other l.sent from (sent ++ x ∷ []) r other.1))
      (b.rising r)
]

pub posts_one : (n side : ℕ) (v : Log) (x : Posting) → n ≡ 8 → v.sends ≡ true → x.route ≡ v.from →
    MayFollow v.sent x.number x.what → Pushes Delivers n side v x (λ w. w ≡ route_log v.from (v.sent ++ x ∷ []))
posts_one n side v x eight may own follows items views room h at =
    let l : Ledger = h.0 in
    let b : Balances l items = h.1 in
    let k : KnowsSent l side v = (h.2 side v at).0 may in
    let sent = v.sent ++ x ∷ [] in
    let w : Log = route_log v.from sent in
    let m : Ledger = record l { sent = put l.sent v.from sent } in
    let balances : Balances m (items ++ x ∷ []) = record {
      whole = posted-whole l items x v.from v.sent own k.sent b;
      rising = posted-rising l items x v.from v.sent k.sent follows b;
      beyond =
          λ r le. put-other l.sent v.from sent r (λ e. (let t = k.there in omega (arith, t, le, e))) ∙ b.beyond r le;
      few = omega (arith, length-append items (x ∷ []), room, eight);
    } in
    let mine : Knows m side w = (
      (λ s. record { seat = k.seat; sent = sym (put-same l.sent v.from sent v.from refl); there = k.there }),
      λ g. absurd (not_true g),
    ) in
    let others : (j : ℕ) (u : Log) → j ≢ side → get_elem? views j ≡ some u → Knows m j u = λ j u other e. (
      (λ s. let t : KnowsSent l j u = (h.2 j u e).0 s in
          sent_on l m j u refl
          (put-other l.sent v.from sent u.from
          (λ same. other (same_seat j side (sym t.seat ∙ ap l.seat same ∙ k.seat)))) (omega arith) t),
      λ g. let t : KnowsGot l j u = (h.2 j u e).1 g in
          record {
            reader = t.reader;
            got = t.got;
            made = t.made;
            unmade = t.unmade;
            ended = λ r lt. (
              (t.ended r lt).0,
              (t.ended r lt).1
                  ∙ sym
                  (put-other l.sent v.from sent r
                  (λ same. no_seat side (sym k.seat ∙ sym (ap l.seat same) ∙ (t.ended r lt).0))),
            );
          },
    ) in
    (w, (m, balances, all_set (Knows m) views side w mine others), refl)

pub learns_sent : (side : ℕ) (v : Log) → v.sends ≡ true → Learns Delivers side v (SentFact v)
learns_sent side v may items views h at = let l : Ledger = h.0 in let b : Balances l items = h.1 in
    let k : KnowsSent l side v = (h.2 side v at).0 may in (l.got, k.sent ∙ sym (b.whole v.from))

-- the bus side takes a post

pub takes_one : (side : ℕ) (v : Log) → v.gets ≡ true → Pops Delivers side v (Taken v)
takes_one side v may x items views h at =
    let l : Ledger = h.0 in
    let b : Balances l (x ∷ items) = h.1 in
    let k : KnowsGot l side v = (h.2 side v at).1 may in
    let w : Log = bus_log (v.got ++ x ∷ []) v.made v.known in
    let m : Ledger = record l { got = l.got ++ x ∷ [] } in
    let balances : Balances m items = record {
      whole = λ r. ap (of r) (append_assoc l.got (x ∷ []) items) ∙ b.whole r;
      rising = b.rising;
      beyond = b.beyond;
      few = (let f = b.few in omega (arith, f));
    } in
    let mine : Knows m side w = (
      (λ s. absurd (not_true s)),
      λ g. record {
        reader = k.reader;
        got = ap (λ ps. ps ++ x ∷ []) k.got;
        made = k.made;
        unmade = k.unmade;
        ended = k.ended;
      },
    ) in
    let others : (j : ℕ) (u : Log) → j ≢ side → get_elem? views j ≡ some u → Knows m j u = λ j u other e. (
      (λ s. sent_on l m j u refl refl (omega arith) ((h.2 j u e).0 s)),
      λ g. let t : KnowsGot l j u = (h.2 j u e).1 g in absurd (other (t.reader ∙ sym k.reader)),
    ) in
    let all : AreOrderly m.made (m.got ++ items) = balanced-orderly m items balances in
    let front : AreOrderly l.made (l.got ++ x ∷ []) = orderly-front l.made (l.got ++ x ∷ []) items all in
    (w, (m, balances, all_set (Knows m) views side w mine others), (refl, orderly-known l side v (x ∷ []) k front))

pub learns_total : (side : ℕ) (v : Log) → v.gets ≡ true → Learns Delivers side v (TotalFact v)
learns_total side v may items views h at =
    let l : Ledger = h.0 in
    let b : Balances l items = h.1 in
    let k : KnowsGot l side v = (h.2 side v at).1 may in
    record {
      orderly = orderly-known l side v items k (balanced-orderly l items b);
      ended = λ r lt. ap (λ got. of r (got ++ items)) k.got ∙ b.whole r ∙ sym (k.ended r lt).1;
      few = b.few;
    }

-- the bus side makes the next route's side

pub forks : (side : ℕ) (v : Log) → v.gets ≡ true → v.known ≡ [] →
    Forks Delivers side v (bus_log v.got (v.made + 1) v.known) (route_log v.made [])
forks side v may none items views h at =
    let l : Ledger = h.0 in
    let b : Balances l items = h.1 in
    let k : KnowsGot l side v = (h.2 side v at).1 may in
    let left : Log = bus_log v.got (v.made + 1) v.known in
    let right : Log = route_log v.made [] in
    let vs : List Log = set views side left in
    let m : Ledger = record l { seat = put l.seat l.made (Some (length vs)); made = l.made + 1 } in
    let balances : Balances m items =
    record { whole = b.whole; rising = b.rising; beyond = λ r le. b.beyond r (omega (arith, le)); few = b.few } in
    let mine : Knows m side left = (
      (λ s. absurd (not_true s)),
      λ g. record {
        reader = k.reader;
        got = k.got;
        made = ap (λ n. n + 1) k.made;
        unmade = λ r le. put-other l.seat l.made (Some (length vs)) r (λ e. omega (arith, le, e))
            ∙ k.unmade r (omega (arith, le));
        ended = λ r lt. absurd (omega (arith, lt, ap length none));
      },
    ) in
    let others : (j : ℕ) (u : Log) → j ≢ side → get_elem? views j ≡ some u → Knows m j u = λ j u other e. (
      (λ s. let t : KnowsSent l j u = (h.2 j u e).0 s in
          sent_on l m j u (put-other l.seat l.made (Some (length vs)) u.from
          (λ e. (let h = t.there in omega (arith, h, e)))) refl (omega arith) t),
      λ g. let t : KnowsGot l j u = (h.2 j u e).1 g in absurd (other (t.reader ∙ sym k.reader)),
    ) in
    let new : Knows m (length vs) right = (
      (λ s. record {
        seat = put-same l.seat l.made (Some (length vs)) v.made k.made;
        sent = sym (ap l.sent k.made ∙ b.beyond l.made (omega arith));
        there = (let e = k.made in omega (arith, e));
      }),
      λ g. absurd (not_true g),
    ) in
    (m, balances, all_snoc (Knows m) vs right (all_set (Knows m) views side left mine others) new)

-- the bus side takes in the side of a route

index-left : {A : Type 0} (xs : List A) (x d : A) (i : ℕ) → i < length xs → get_or (xs ++ x ∷ []) i d ≡ get_or xs i d
index-left [] x d i lt = absurd (omega (arith, lt))
index-left (y ∷ ys) x d zero lt = refl
index-left (y ∷ ys) x d (suc i) lt = index-left ys x d i (omega (arith, lt))

index-last : {A : Type 0} (xs : List A) (x d : A) → get_or (xs ++ x ∷ []) (length xs) d ≡ x
index-last [] x d = refl
index-last (y ∷ ys) x d = index-last ys x d

ended-more : (l : Ledger) (known : List (List Posting)) (from : ℕ) (sent : List Posting) → from ≡ length known →
    sent ≡ l.sent from → ((r : ℕ) → r < length known → (l.seat r ≡ None) × (get_or known r [] ≡ l.sent r)) →
    (r : ℕ) → r < length (known ++ sent ∷ []) → (put l.seat from None r ≡ None)
    × (get_or (known ++ sent ∷ []) r [] ≡ l.sent r)
ended-more l known from sent is same old r lt = elim (eqb_tells r from) [
  | inl e ↦ (
    put-same l.seat from None r e.1,
    ap (λ i. get_or (known ++ sent ∷ []) i []) (e.1 ∙ is)
        ∙ index-last known sent [] ∙ same ∙ ap l.sent (sym e.1),
  )
  | inr e ↦
      (let near : r < length known = (let ne = e.1 in omega (arith, lt, length-append known (sent ∷ []), is, ne)) in
      (put-none l.seat from r (old r near).0, index-left known sent [] r near ∙ (old r near).1))
]

pub merges : (side : ℕ) (v : Log) (other : ℕ) (u : Log) → v.gets ≡ true → u.sends ≡ true → u.from ≡ length v.known →
    Merges Delivers side v other u (bus_log v.got v.made (v.known ++ u.sent ∷ [])) idle_log
merges side v other u may sends next items views h at two at' =
    let l : Ledger = h.0 in
    let b : Balances l items = h.1 in
    let k : KnowsGot l side v = (h.2 side v at).1 may in
    let both : Log = bus_log v.got v.made (v.known ++ u.sent ∷ []) in
    let vs : List Log = set views side both in
    let was : get_elem? views other ≡ some u =
    ⊎_elim (λ x. absurd (two x.0)) (λ x. x.1) (at_set views side other both u at') in
    let t : KnowsSent l other u = (h.2 other u was).0 sends in
    let m : Ledger = record l { seat = put l.seat u.from None } in
    let balances : Balances m items = record { whole = b.whole; rising = b.rising; beyond = b.beyond; few = b.few } in
    let mine : Knows m side both = (
      (λ s. absurd (not_true s)),
      λ g. record {
        reader = k.reader;
        got = k.got;
        made = k.made;
        unmade = λ r le. put-none l.seat u.from r (k.unmade r le);
        ended = ended-more l v.known u.from u.sent next t.sent k.ended;
      },
    ) in
    let Now : ℕ → Log → Type 0 = λ j y. j ≢ other → Knows m j y in
    let now : All Now vs = all_set Now views side both (λ _. mine) (λ j y apart e ne. (
      (λ s. let q : KnowsSent l j y = (h.2 j y e).0 s in
          sent_on l m j y
          (put-other l.seat u.from None y.from
          (λ same. ne (same_seat j other (sym q.seat ∙ ap l.seat same ∙ t.seat)))) refl (omega arith) q),
      λ g. let q : KnowsGot l j y = (h.2 j y e).1 g in absurd (apart (q.reader ∙ sym k.reader)),
    )) in (
      m,
      balances,
      all_set (Knows m) vs other idle_log ((λ s. absurd (not_true s)), λ g. absurd (not_true g))
          (λ j y apart e. now j y e apart),
    )
