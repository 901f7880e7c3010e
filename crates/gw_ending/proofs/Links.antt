-- The claims follow from the links.
use Rattle.std.proofs.Common.{◌≡◌, ℕ, zero, suc, ◌+◌, ◌<◌, ◌≤◌, ◌⊎◌, Bool, true, false, not, List, [], ◌∷◌, ◌++◌}
use Rattle.std.proofs.Common.{length, filter, map, fold, refl, sym, ◌∙◌, ap, subst, arith, inl, inr}
use Rattle.std.proofs.lemmas.Bool.Decides.{eqb_tells}
use Rattle.std.proofs.lemmas.List.{append_assoc, length-append, length-map, map-append}
use Rattle.std.proofs.lemmas.List.Elements.{filter-append}
use Rattle.can_frame.specs.Rewrites.{rewritten}
use Rattle.can_frame.specs.declared.rewrite.Rewrite.{Rewrite}
use Rattle.bx_core.specs.declared.entry.Entry.{Entry}
use Rattle.bx_core.specs.Lists.{Each, Has, Rises, times}
use Rattle.bx_core.specs.Law.{IsRouteLawful}
use Rattle.bx_core.specs.States.{numbers}
use Rattle.bx_core.proofs.Words.{has-left, each_of, each_more, times-append}
use Rattle.gw_route.proofs.Numbered.{length-numbered}
use Rattle.gw_script.specs.declared.route_report.RouteReport.{RouteReport}
use Rattle.gw_ending.specs.Headline.{is_among, released, kept, InOrder, EachOnce, OrderBy, NotRefilled, Balances}
use Rattle.gw_ending.specs.Headline.{Headline}
use Rattle.gw_ending.specs.Links.{settle, settled, RouteLinked}
use Rattle.gw_ending.proofs.Settles.{each_from, settled_logged}
use Rattle.bx_core.proofs.Times.{mark, times_self, times_other, has_times, times_has, rises_once}
use Rattle.gw_ending.proofs.Counts.{among_times, not_among_times, bool_cases, same_length, has_number, number_has}
use Rattle.gw_ending.proofs.Counts.{above, same_number, rises_left, rises_across, each_from_has}

mark_cases : (m n : ℕ) → ((m ≡ n) × (mark m n ≡ 1)) ⊎ (mark m n ≡ 0)
mark_cases m n = elim (eqb_tells m n) [
  | inl e ↦ inl (e.1, let P : ℕ → Type 0 = λ v. mark m v ≡ 1 in subst P e.1 (times_self m))
  | inr e ↦ inr (times_other m n e.1)
]

-- how often a number stands in what a log settles: at most once
settle_most : (ended ns so_far : List ℕ) (n : ℕ) → ((m : ℕ) → times m so_far ≤ 1) →
    times n (fold (settle ended) so_far ns) ≤ 1
settle_most ended [] so_far n h = h n
settle_most ended (m ∷ ms) so_far n h = elim (bool_cases (is_among ended m)) [
  | inl e ↦ rw e (settle_most ended ms so_far n h)
  | inr e ↦ elim (bool_cases (is_among so_far m)) [
    | inl k ↦ rw (e, k) (settle_most ended ms so_far n h)
    | inr k ↦ rw (e, k) (settle_most ended ms (so_far ++ m ∷ []) n (λ j. elim (mark_cases m j) [
      | inl q ↦ (let P : ℕ → Type 0 = λ v. times v so_far ≡ 0 in
          let w : times j so_far ≡ 0 = subst P q.0 (not_among_times so_far m k) in
          omega (arith, times-append j so_far (m ∷ []), q.1))
      | inr q ↦ omega (arith, times-append j so_far (m ∷ []), q, h j)
    ]))
  ]
]

-- a number that ended otherwise isn't settled
settle_ended : (ended ns so_far : List ℕ) (n : ℕ) → is_among ended n ≡ true →
    times n (fold (settle ended) so_far ns) ≡ times n so_far
settle_ended ended [] so_far n h = refl
settle_ended ended (m ∷ ms) so_far n h = elim (bool_cases (is_among ended m)) [
  | inl e ↦ rw e (settle_ended ended ms so_far n h)
  | inr e ↦ elim (bool_cases (is_among so_far m)) [
    | inl k ↦ rw (e, k) (settle_ended ended ms so_far n h)
    | inr k ↦ rw (e, k) (settle_ended ended ms (so_far ++ m ∷ []) n h ∙ elim (mark_cases m n) [
      | inl q ↦ absurd (let P : ℕ → Type 0 = λ v. is_among ended v ≡ false in
          let w : is_among ended n ≡ false = subst P q.0 e in cc)
      | inr q ↦ omega (arith, times-append n so_far (m ∷ []), q)
    ])
  ]
]

-- a number of the log that didn't end otherwise is settled
settle_some : (ended ns so_far : List ℕ) (n : ℕ) → is_among ended n ≡ false → 0 < times n so_far + times n ns →
    0 < times n (fold (settle ended) so_far ns)
settle_some ended [] so_far n o h = omega arith
settle_some ended (m ∷ ms) so_far n o h = elim (bool_cases (is_among ended m)) [
  | inl e ↦ rw e (settle_some ended ms so_far n o (elim (mark_cases m n) [
    | inl q ↦ absurd (let P : ℕ → Type 0 = λ v. is_among ended v ≡ true in
        let w : is_among ended n ≡ true = subst P q.0 e in cc)
    | inr q ↦ omega (arith, q, h)
  ]))
  | inr e ↦ elim (bool_cases (is_among so_far m)) [
    | inl k ↦ rw (e, k) (settle_some ended ms so_far n o (elim (mark_cases m n) [
      | inl q ↦ (let P : ℕ → Type 0 = λ v. 0 < times v so_far in
          let w : 0 < times n so_far = subst P q.0 (among_times so_far m k) in omega arith)
      | inr q ↦ omega (arith, q, h)
    ]))
    | inr k ↦ rw (e, k) (settle_some ended ms (so_far ++ m ∷ []) n o (omega (arith, times-append n so_far (m ∷ []), h)))
  ]
]

-- what isn't in the log isn't settled
settle_none : (ended ns so_far : List ℕ) (n : ℕ) → times n so_far + times n ns ≡ 0 →
    times n (fold (settle ended) so_far ns) ≡ 0
settle_none ended [] so_far n h = omega arith
settle_none ended (m ∷ ms) so_far n h = elim (bool_cases (is_among ended m)) [
  | inl e ↦ rw e (settle_none ended ms so_far n (omega (arith, h)))
  | inr e ↦ elim (bool_cases (is_among so_far m)) [
    | inl k ↦ rw (e, k) (settle_none ended ms so_far n (omega (arith, h)))
    | inr k ↦ rw (e, k) (settle_none ended ms (so_far ++ m ∷ []) n (omega (arith, times-append n so_far (m ∷ []), h)))
  ]
]

-- Where both rise, done is part of requested and none of done is out, and each requested one that isn't out is done or
-- above all
-- that is done: what is left of requested without those that are out begins with done.
front : (out : ℕ → Bool) (req ds : List Entry) → Rises (numbers req) → Rises (numbers ds) →
    ((x : Entry) → Has ds x → Has req x × (out x.number ≡ false)) →
    ((x : Entry) → Has req x → out x.number ≡ false → Has ds x ⊎ ((y : Entry) → Has ds y → y.number < x.number)) →
    (rest : List Entry) × (filter (λ x. not (out x.number)) req ≡ ds ++ rest)
front out [] [] a b c d = ([], refl)
front out [] (y ∷ ys) a b c d = absurd ((c y (inl refl)).0)
front out (r ∷ rs) [] a b c d = (filter (λ x. not (out x.number)) (r ∷ rs), refl)
front out (r ∷ rs) (y ∷ ys) a b c d =
    let P : Entry → Type 0 = λ v. out v.number ≡ false in
    elim (bool_cases (out r.number)) [
      | inl o ↦ (let t : (rest : List Entry) × (filter (λ x. not (out x.number)) rs ≡ (y ∷ ys) ++ rest) =
          front out rs (y ∷ ys) a.1 b
          (λ x h. (
            elim (c x h).0 [
              | inl e ↦ absurd (let w : out r.number ≡ false = subst P (sym e) (c x h).1 in cc)
              | inr k ↦ k
            ],
            (c x h).1,
          ))
          (λ x h q. d x (inr h) q) in
          (t.0, rw o t.1))
      | inr o ↦
          (let here : r ≡ y = elim (d r (inl refl) o) [
            | inl h ↦ elim (c y (inl refl)).0 [
              | inl e ↦ e
              | inr k ↦ absurd (let l : r.number < y.number = above r.number rs y a.0 k in elim h [
                | inl e ↦ (let s : y.number ≡ r.number = ap (λ (p : Entry). p.number) e in omega arith)
                | inr m ↦ (let l2 : y.number < r.number = above y.number ys r b.0 m in omega arith)
              ])
            ]
            | inr below ↦ absurd (let l : y.number < r.number = below y (inl refl) in elim (c y (inl refl)).0 [
              | inl e ↦ (let s : r.number ≡ y.number = ap (λ (p : Entry). p.number) e in omega arith)
              | inr k ↦ (let l2 : r.number < y.number = above r.number rs y a.0 k in omega arith)
            ])
          ] in
          let s : r.number ≡ y.number = ap (λ (p : Entry). p.number) here in
          let t : (rest : List Entry) × (filter (λ x. not (out x.number)) rs ≡ ys ++ rest) = front out rs ys a.1 b.1
          (λ x h. (
            elim (c x (inr h)).0 [
              | inl e ↦ absurd (let l : y.number < x.number = above y.number ys x b.0 h in
                  let q : r.number ≡ x.number = ap (λ (p : Entry). p.number) e in omega arith)
              | inr k ↦ k
            ],
            (c x (inr h)).1,
          ))
          (λ x h q. elim (d x (inr h) q) [
            | inl k ↦ elim k [
              | inl e ↦ absurd (let l : r.number < x.number = above r.number rs x a.0 h in
                  let q2 : y.number ≡ x.number = ap (λ (p : Entry). p.number) e in omega arith)
              | inr m ↦ inl m
            ]
            | inr below ↦ inr (λ z m. below z (inr m))
          ]) in
          (t.0, rw o (ap (λ l. r ∷ l) t.1 ∙ ap (λ v. v ∷ (ys ++ t.0)) here)))
    ]

times_cases : (n : ℕ) → (n ≡ 0) ⊎ (0 < n)
times_cases zero = inl refl
times_cases (suc n) = inr (omega arith)

none_of : (xs : List ℕ) (n : ℕ) → ¬ (Has xs n) → times n xs ≡ 0
none_of xs n out = elim (times_cases (times n xs)) [ inl e ↦ e | inr h ↦ absurd (out (times_has xs n h)) ]

-- the core law, with what was sent as the report tells it
lawful : {room hand : ℕ} (txfp : Bool) (rewrites : List Rewrite) (r : RouteReport) (started : List Entry)
    (l : RouteLinked room hand txfp rewrites r started) →
    IsRouteLawful txfp (record {
      requested = l.lists.requested;
      done = r.completed.items;
      aborted = l.lists.aborted;
      reaped = l.lists.reaped;
    }) l.waiting
lawful txfp rewrites r started l =
    subst
    (λ (d : List Entry). IsRouteLawful txfp
    (record { requested = l.lists.requested; done = d; aborted = l.lists.aborted; reaped = l.lists.reaped }) l.waiting)
    (sym l.completed_is) l.law

-- how often a number stands among the report's aborted ones
aborted_times : {room hand : ℕ} (txfp : Bool) (rewrites : List Rewrite) (r : RouteReport) (started : List Entry)
    (l : RouteLinked room hand txfp rewrites r started) (n : ℕ) → times n r.aborted.items ≡ times n l.lists.aborted
    + times n l.lists.reaped
aborted_times txfp rewrites r started l n =
    let ended : List ℕ = numbers r.completed.items ++ l.waiting in
    let law : times n (numbers l.lists.requested)
    ≡ times n (numbers r.completed.items) + times n l.lists.aborted + times n l.lists.reaped + times n l.waiting =
    (lawful txfp rewrites r started l).once n in
    let most : times n (numbers l.lists.requested) ≤ 1 = rises_once (numbers l.lists.requested) n l.law.rises in
    let both : times n ended ≡ times n (numbers r.completed.items) + times n l.waiting =
    times-append n (numbers r.completed.items) l.waiting in
    rw l.aborted_is (elim (bool_cases (is_among ended n)) [
      | inl e ↦ (let a : times n (fold (settle ended) [] l.logged) ≡ 0 = settle_ended ended l.logged [] n e in
          let b : 0 < times n ended = among_times ended n e in omega arith)
      | inr e ↦ (let z : times n ended ≡ 0 = not_among_times ended n e in
          elim (times_cases (times n l.logged)) [
            | inl nowhere ↦ (let a : times n (fold (settle ended) [] l.logged) ≡ 0 =
                settle_none ended l.logged [] n (omega (arith, nowhere)) in
                let b : times n l.lists.aborted ≡ 0 = none_of l.lists.aborted n
                (λ h. let p : 0 < times n l.logged = has_times l.logged n (l.ended n h) in omega arith) in
                let c : times n l.lists.reaped ≡ 0 = none_of l.lists.reaped n
                (λ h. let p : 0 < times n l.logged = has_times l.logged n (l.ask_logged n (l.reaped_asked n h)) in
                omega arith) in
                omega arith)
            | inr there ↦ (let a : 0 < times n (fold (settle ended) [] l.logged) =
                settle_some ended l.logged [] n e (omega (arith, there)) in
                let b : times n (fold (settle ended) [] l.logged) ≤ 1 =
                settle_most ended l.logged [] n (λ m. omega arith) in
                let c : 0 < times n (numbers l.lists.requested) =
                has_times (numbers l.lists.requested) n (l.known n (times_has l.logged n there)) in
                omega arith)
          ])
    ])

-- what was sent was requested and is not among the aborted ones
sent_kept : {room hand : ℕ} (txfp : Bool) (rewrites : List Rewrite) (r : RouteReport) (started : List Entry)
    (l : RouteLinked room hand txfp rewrites r started) (x : Entry) → Has r.completed.items x → Has l.lists.requested x
    × (is_among r.aborted.items x.number ≡ false)
sent_kept txfp rewrites r started l x h =
    let law = lawful txfp rewrites r started l in
    let ds : List Entry = r.completed.items in (
      each_of (Has l.lists.requested) ds x law.done_known h,
      elim (bool_cases (is_among r.aborted.items x.number)) [
        | inl e ↦ absurd (let a : 0 < times x.number r.aborted.items = among_times r.aborted.items x.number e in
            let b : 0 < times x.number (numbers ds) = has_times (numbers ds) x.number (has_number ds x h) in
            omega (
              arith,
              aborted_times txfp rewrites r started l x.number,
              law.once x.number,
              rises_once (numbers l.lists.requested) x.number law.rises,
            ))
        | inr e ↦ e
      ],
    )

-- each aborted number is one of the released
pub aborted_released : {room hand : ℕ} (txfp : Bool) (rewrites : List Rewrite) (r : RouteReport) (started : List Entry) →
    RouteLinked room hand txfp rewrites r started → Each (Has (numbers (released rewrites r))) r.aborted.items
aborted_released txfp rewrites r started l =
    let P : List ℕ → Type 0 = λ ns. Each (Has (numbers (released rewrites r))) ns in
    subst P (sym l.aborted_is) (each_more (Has l.logged) (Has (numbers (released rewrites r)))
    (settled (numbers r.completed.items ++ l.waiting) l.logged)
    (λ n has. subst (λ es. Has (numbers es) n) l.log
    (subst (λ ns. Has ns n) (sym (map-append (λ (e : Entry). e.number) l.lists.requested l.in_hand))
    (has-left (numbers l.lists.requested) (numbers l.in_hand) n (l.known n has))))
    (settled_logged (numbers r.completed.items ++ l.waiting) l.logged))

-- what was reaped is among the aborted
pub reaped_aborted : {room hand : ℕ} (txfp : Bool) (rewrites : List Rewrite) (r : RouteReport) (started : List Entry) →
    (l : RouteLinked room hand txfp rewrites r started) → Each (Has r.aborted.items) l.lists.reaped
reaped_aborted txfp rewrites r started l = each_from (Has r.aborted.items) l.lists.reaped (λ n has.
    let some : 0 < times n l.lists.reaped = has_times l.lists.reaped n has in
    times_has r.aborted.items n (omega (arith, some, aborted_times txfp rewrites r started l n)))

pub in_order : {room hand : ℕ} (txfp : Bool) (rewrites : List Rewrite) (r : RouteReport) (started : List Entry) →
    txfp ≡ true → RouteLinked room hand txfp rewrites r started → InOrder rewrites r
in_order txfp rewrites r started by_requests l =
    let law = lawful txfp rewrites r started l in
    let ds : List Entry = r.completed.items in
    let out : ℕ → Bool = is_among r.aborted.items in
    let t : (rest : List Entry) × (filter (λ x. not (out x.number)) l.lists.requested ≡ ds ++ rest) =
    front out l.lists.requested ds law.rises (rises_left (numbers ds) l.waiting (law.ordered by_requests))
    (sent_kept txfp rewrites r started l)
    (λ x h o.
    let z : times x.number r.aborted.items ≡ 0 = not_among_times r.aborted.items x.number o in
    let one : 0 < times x.number (numbers l.lists.requested) =
    has_times (numbers l.lists.requested) x.number (has_number l.lists.requested x h) in
    elim (times_cases (times x.number (numbers ds))) [
      | inl nowhere ↦ inr (λ y k. rises_across (numbers ds) l.waiting y.number x.number (law.ordered by_requests)
          (has_number ds y k)
          (times_has l.waiting x.number
          (omega (arith, aborted_times txfp rewrites r started l x.number, law.once x.number))))
      | inr there ↦ inl (let u : (y : Entry) × Has ds y × (y.number ≡ x.number) =
          number_has ds x.number (times_has (numbers ds) x.number there) in
          let P : Entry → Type 0 = λ v. Has ds v in
          subst P (same_number l.lists.requested u.0 x law.rises
          (each_of (Has l.lists.requested) ds u.0 law.done_known u.1) h u.2) u.1)
    ]) in
    record {
      rest = t.0 ++ filter (λ x. not (out x.number)) l.in_hand;
      prefix = ap (filter (λ x. not (out x.number))) (sym l.log)
          ∙ filter-append (λ x. not (out x.number)) l.lists.requested l.in_hand
          ∙ ap (λ v. v ++ filter (λ x. not (out x.number)) l.in_hand) t.1
          ∙ append_assoc ds t.0 (filter (λ x. not (out x.number)) l.in_hand);
    }

has-filter : (keep : Entry → Bool) (xs : List Entry) (x : Entry) → keep x ≡ true → Has xs x → Has (filter keep xs) x
has-filter keep [] x kept_x h = absurd h
has-filter keep (y ∷ ys) x kept_x h = elim (bool_cases (keep y)) [
  | inl k ↦ rw k (elim h [ inl e ↦ inl e | inr m ↦ inr (has-filter keep ys x kept_x m) ])
  | inr k ↦ rw k (elim h [
    | inl e ↦ absurd (let P : Entry → Type 0 = λ v. keep v ≡ true in let w : keep y ≡ true = subst P (sym e) kept_x in
        cc)
    | inr m ↦ has-filter keep ys x kept_x m
  ])
]

-- by any priority, each once
pub each_once : {room hand : ℕ} (txfp : Bool) (rewrites : List Rewrite) (r : RouteReport) (started : List Entry) →
    RouteLinked room hand txfp rewrites r started → EachOnce rewrites r
each_once txfp rewrites r started l =
    let law = lawful txfp rewrites r started l in
    let keep : Entry → Bool = λ (e : Entry). not (is_among r.aborted.items e.number) in
    record {
      once = λ n. omega (arith, law.once n, rises_once (numbers l.lists.requested) n law.rises);
      among = each_from_has (Has (kept rewrites r)) r.completed.items
          (λ x h. let k = sent_kept txfp rewrites r started l x h in
          let P : List Entry → Type 0 = λ es. Has (filter keep es) x in
          subst P l.log (has-filter keep (l.lists.requested ++ l.in_hand) x (ap not k.1)
          (has-left l.lists.requested l.in_hand x k.0)));
    }

pub ordered_by : {room hand : ℕ} (txfp : Bool) (rewrites : List Rewrite) (r : RouteReport) (started : List Entry) →
    RouteLinked room hand txfp rewrites r started → OrderBy txfp rewrites r
ordered_by true rewrites r started l = in_order true rewrites r started refl l
ordered_by false rewrites r started l = each_once false rewrites r started l

pub not_refilled : {room hand : ℕ} (txfp : Bool) (rewrites : List Rewrite) (r : RouteReport) (started : List Entry) →
    RouteLinked room hand txfp rewrites r started → NotRefilled rewrites r started
not_refilled txfp rewrites r started l =
    let P : List Entry → Type 0 = λ v. Each (Has v) started in
    subst P l.log (each_from_has (Has (l.lists.requested ++ l.in_hand)) started
    (λ x h. has-left l.lists.requested l.in_hand x (l.starts x h)))

pub balances : {room hand : ℕ} (txfp : Bool) (rewrites : List Rewrite) (r : RouteReport) (started : List Entry) →
    RouteLinked room hand txfp rewrites r started → Balances r
balances txfp rewrites r started l =
    let law = lawful txfp rewrites r started l in
    let ds : List Entry = r.completed.items in
    let four : List ℕ = numbers ds ++ r.aborted.items ++ l.waiting in
    let size : length (numbers l.lists.requested) ≡ length four = same_length (numbers l.lists.requested) four (λ n.
    omega (
      arith,
      law.once n,
      aborted_times txfp rewrites r started l n,
      times-append n (numbers ds ++ r.aborted.items) l.waiting,
      times-append n (numbers ds) r.aborted.items,
    )) in
    omega (
      arith,
      size,
      length-map l.lists.requested (λ (e : Entry). e.number),
      length-map ds (λ (e : Entry). e.number),
      length-append (numbers ds ++ r.aborted.items) l.waiting,
      length-append (numbers ds) r.aborted.items,
      ap length l.log,
      length-append l.lists.requested l.in_hand,
      length-numbered 1 (map (rewritten rewrites) r.released.items),
      length-map r.released.items (rewritten rewrites),
      ap length l.stored_is,
      length-append r.released.items l.left,
      l.accepted_is,
      l.held_is,
    )

pub linked : {room hand : ℕ} (txfp : Bool) (rewrites : List Rewrite) (r : RouteReport) (started : List Entry) →
    RouteLinked room hand txfp rewrites r started → Headline room hand txfp rewrites r started
linked txfp rewrites r started l = record {
  order = ordered_by txfp rewrites r started l;
  no_refill = not_refilled txfp rewrites r started l;
  sum = balances txfp rewrites r started l;
  few_held = omega (arith, l.held_is, l.few_in_hand, l.few_left, l.few_waiting);
}
