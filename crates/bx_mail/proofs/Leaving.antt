-- What the sides of a post did is tied together at its end.
use Rattle.std.proofs.Common.{◌≡◌, ◌≢◌, ℕ, zero, suc, arith, ◌+◌, ◌<◌, ◌≤◌, ◌==◌, inl, inr, ⊎_elim, Bool, true}
use Rattle.std.proofs.Common.{false, cond, List, [], ◌∷◌, ◌++◌, map, length, get_or, refl, sym, ap, ◌∙◌, subst}
use Rattle.std.proofs.Common.{Option, Some, None, eq-eqb, ne_eqb, append_assoc, append-nil, length-append}
use Rattle.std.specs.Prelude.{option_to_list, slice_get, Result, Ok, Err, IfOk}
use Rattle.std.proofs.lemmas.Bool.Decides.{eqb_tells}
use Rattle.std.proofs.lemmas.List.{map-append, nil_from_length}
use mathlib.Core.Logic.{dite}
use native.Mathlib.Decide.{dec_le}
use Rattle.bx_core.specs.declared.entry.Entry.{Entry}
use Rattle.bx_core.specs.declared.left.Left.{Left}
use Rattle.bx_core.specs.declared.waiting.Waiting.{Waiting}
use Rattle.bx_core.specs.Law.{IsRouteLawful}
use Rattle.bx_core.specs.Lists.{Each, Has, Rises, times}
use Rattle.bx_core.specs.RouteTx.{RoutePast}
use Rattle.bx_core.specs.States.{RouteLists, no_lists, lists_of, numbers}
use Rattle.bx_core.specs.Ties.{RouteTied, AllTied, NothingBeyond, as_left, left_of}
use Rattle.bx_core.specs.TxBus.{BusPast}
use Rattle.bx_core.proofs.Words.{each-append, each_more, each_of, has-left, has-right, has-map, times-append}
use Rattle.bx_core.proofs.PlainTied.{plain_tied, plain_beyond}
use Rattle.bx_mail.specs.declared.log.Log.{Log}
use Rattle.bx_mail.specs.declared.posting.Posting.{Posting}
use Rattle.bx_mail.specs.declared.posting.Asks.{Asks}
use Rattle.bx_mail.specs.declared.posting.Asks.TheVariants.{Transmit, Abort}
use Rattle.bx_mail.specs.Postings.{of, request_by, requests_in, aborts_in, left_by, lefts_in, AreRising, AreOrderly}
use Rattle.bx_mail.specs.Rule.{bus_log, TotalFact}
use Rattle.bx_mail.specs.Sides.{BusSide, RouteSide, Runs, RouteRuns, AreAll, IsClosed, left_with}
use Rattle.bx_mail.proofs.Postings.{of-append, requests_in-append, aborts_in-append}

-- how many posts there are is known by those of each route

abbrev total : ℕ → List Posting → ℕ
total zero ps = 0
total (suc n) ps = total n ps + length (of n ps)

of-own_first : (r : ℕ) (p : Posting) (ps : List Posting) → p.route ≡ r → of r (p ∷ ps) ≡ p ∷ of r ps
of-own_first r p ps e = ap (λ b. cond b (p ∷ of r ps) (of r ps)) (eq-eqb p.route r e)

of-other_first : (r : ℕ) (p : Posting) (ps : List Posting) → p.route ≢ r → of r (p ∷ ps) ≡ of r ps
of-other_first r p ps e = ap (λ b. cond b (p ∷ of r ps) (of r ps)) (ne_eqb p.route r e)

total-out : (n : ℕ) (p : Posting) (ps : List Posting) → n ≤ p.route → total n (p ∷ ps) ≡ total n ps
total-out zero p ps le = refl
total-out (suc n) p ps le =
    let a = total-out n p ps (omega (arith, le)) in
    let b = ap length (of-other_first n p ps (λ e. omega (arith, le, e))) in
    omega (arith, a, b)

total-in : (n : ℕ) (p : Posting) (ps : List Posting) → p.route < n → total n (p ∷ ps) ≡ suc (total n ps)
total-in zero p ps lt = absurd (omega (arith, lt))
total-in (suc n) p ps lt = elim (eqb_tells p.route n) [
  | inl e ↦ (let a = total-out n p ps (let same = e.1 in omega (arith, same)) in
      let b = ap length (of-own_first n p ps e.1) in omega (arith, a, b))
  | inr e ↦ (let ne = e.1 in let a = total-in n p ps (omega (arith, lt, ne)) in
      let b = ap length (of-other_first n p ps e.1) in omega (arith, a, b))
]

total-none : (n : ℕ) → total n [] ≡ 0
total-none zero = refl
total-none (suc n) = let a = total-none n in omega (arith, a)

total-same : (n : ℕ) (ps qs : List Posting) → ((r : ℕ) → r < n → of r ps ≡ of r qs) → total n ps ≡ total n qs
total-same zero ps qs h = refl
total-same (suc n) ps qs h = let a = total-same n ps qs (λ r lt. h r (omega (arith, lt))) in let b =
    ap length (h n (omega arith)) in omega (arith, a, b)

not_empty : {A : Type 0} (x : A) (xs : List A) → x ∷ xs ≡ [] → ⊥
not_empty x xs e = let h : x ∷ xs ≡ [] = e in cc

total-length : (n : ℕ) (ps : List Posting) → ((r : ℕ) → n ≤ r → of r ps ≡ []) → total n ps ≡ length ps
total-length n [] h = total-none n
total-length n (p ∷ ps) h =
    let there : p.route < n = dite (dec_le (suc p.route) n) (λ lt. lt)
    (λ no_route. absurd (not_empty p (of p.route ps) (sym (of-own_first p.route p ps refl)
    ∙ h p.route (omega (arith, no_route))))) in
    let a = total-in n p ps there in
    let b = total-length n ps (λ r le. sym (of-other_first r p ps (λ e. omega (arith, there, le, e))) ∙ h r le) in
    omega (arith, a, b)

same_length : (n : ℕ) (ps qs : List Posting) → AreOrderly n ps → AreOrderly n qs →
    ((r : ℕ) → r < n → of r ps ≡ of r qs) → length ps ≡ length qs
same_length n ps qs a b h = sym (total-length n ps a.beyond) ∙ total-same n ps qs h ∙ total-length n qs b.beyond

-- at one moment few posts were left
abbrev pub FewLeft : Log → Type 0
FewLeft v = (items : List Posting) × TotalFact v items

-- after eight posts none is left
pub none_behind : (v w : Log) (posts items : List Posting) → length v.known ≡ v.made → FewLeft v →
    w ≡ bus_log (v.got ++ posts) v.made v.known → TotalFact w items → 8 ≤ length posts → items ≡ []
none_behind v w posts items all few is fact eight =
    let f : TotalFact (bus_log (v.got ++ posts) v.made v.known) items = subst (λ u. TotalFact u items) is fact in
    let g : TotalFact v few.0 = few.1 in
    let same = same_length v.made (v.got ++ few.0) ((v.got ++ posts) ++ items) g.orderly f.orderly
    (λ r lt. g.ended r (omega (arith, all, lt)) ∙ sym (f.ended r (omega (arith, all, lt)))) in
    let most = g.few in
    nil_from_length items (omega (
      arith,
      same,
      most,
      eight,
      length-append v.got few.0,
      length-append (v.got ++ posts) items,
      length-append v.got posts,
    ))

pub drained : (v w : Log) (posts items : List Posting) → w ≡ bus_log (v.got ++ posts) v.made v.known →
    TotalFact w items → items ≡ [] → TotalFact (bus_log (v.got ++ posts) v.made v.known) []
drained v w posts items is fact empty =
    subst (λ (y : Log × List Posting). TotalFact y.0 y.1) (λ i. (is i, empty i)) fact

-- a route's own among what is left

left_of-append : (r : ℕ) (xs ys : List Left) → left_of r (xs ++ ys) ≡ left_of r xs ++ left_of r ys
left_of-append r [] ys = refl
left_of-append r (x ∷ xs) ys = by_test (x.route == r) (left_of-append r xs ys)
  where
    by_test : (b : Bool) → left_of r (xs ++ ys) ≡ left_of r xs ++ left_of r ys →
        cond b (record { number = x.number; frame = x.frame } ∷ left_of r (xs ++ ys)) (left_of r (xs ++ ys))
        ≡ cond b (record { number = x.number; frame = x.frame } ∷ left_of r xs) (left_of r xs) ++ left_of r ys
    by_test true e = ap (λ (l : List Entry). record { number = x.number; frame = x.frame } ∷ l) e
    by_test false e = e

left_of-one : (r route n : ℕ) (what : Asks) → left_of r (left_by route n what)
    ≡ cond (route == r) (request_by n what) []
left_of-one r route n (Transmit f) = refl
left_of-one r route n Abort = by_test (route == r)
  where
    by_test : (b : Bool) → request_by n Abort ≡ cond b (request_by n Abort) (request_by n Abort)
    by_test true = refl
    by_test false = refl

left_of-posts : (r : ℕ) (ps : List Posting) → left_of r (lefts_in ps) ≡ requests_in (of r ps)
left_of-posts r [] = refl
left_of-posts r (p ∷ ps) = left_of-append r (left_by p.route p.number p.what) (lefts_in ps)
    ∙ ap (λ l. l ++ left_of r (lefts_in ps)) (left_of-one r p.route p.number p.what)
    ∙ ap (λ l. cond (p.route == r) (request_by p.number p.what) [] ++ l) (left_of-posts r ps) ∙ by_test (p.route == r)
  where
    by_test : (b : Bool) → cond b (request_by p.number p.what) []
        ++ requests_in (of r ps) ≡ requests_in (cond b (p ∷ of r ps) (of r ps))
    by_test true = refl
    by_test false = refl

left_of-all : (r : ℕ) (v : BusSide) (posts : List Posting) → left_of r (left_with v posts)
    ≡ (left_of r (map as_left v.boxes) ++ requests_in (of r (option_to_list v.aside))) ++ requests_in (of r posts)
left_of-all r v posts = left_of-append r (map as_left v.boxes ++ lefts_in (option_to_list v.aside)) (lefts_in posts)
    ∙ ap (λ l. l ++ left_of r (lefts_in posts))
    (left_of-append r (map as_left v.boxes) (lefts_in (option_to_list v.aside))
    ∙ ap (λ l. left_of r (map as_left v.boxes) ++ l) (left_of-posts r (option_to_list v.aside)))
    ∙ ap (λ l. (left_of r (map as_left v.boxes) ++ requests_in (of r (option_to_list v.aside))) ++ l)
    (left_of-posts r posts)

-- requests behind those of a route that are tied

rises-join : (xs ys : List ℕ) → Rises xs → Rises ys → Each (λ x. Each (λ y. x < y) ys) xs → Rises (xs ++ ys)
rises-join [] ys a b h = b
rises-join (x ∷ xs) ys a b h = (each-append (λ y. x < y) xs ys a.0 h.0, rises-join xs ys a.1 b h.1)

each-back : {A : Type 0} (P : A → Type 0) (xs ys : List A) → Each P (xs ++ ys) → Each P ys
each-back P [] ys h = h
each-back P (x ∷ xs) ys h = each-back P xs ys h.1

rises-back : (xs ys : List ℕ) → Rises (xs ++ ys) → Rises ys
rises-back [] ys h = h
rises-back (x ∷ xs) ys h = rises-back xs ys h.1

rises-apart : (xs ys : List ℕ) → Rises (xs ++ ys) → Each (λ x. Each (λ y. x < y) ys) xs
rises-apart [] ys h = tt
rises-apart (x ∷ xs) ys h = (each-back (λ y. x < y) xs ys h.0, rises-apart xs ys h.1)

each_in : {A : Type 0} (P : A → Type 0) (xs : List A) → ((x : A) → Has xs x → P x) → Each P xs
each_in P [] f = tt
each_in P (x ∷ xs) f = (f x (inl refl), each_in P xs (λ y h. f y (inr h)))

-- of entries that stand among others, the numbers
each_number : (P : ℕ → Type 0) (es known : List Entry) → Each P (numbers known) → Each (Has known) es →
    Each P (numbers es)
each_number P [] known h k = tt
each_number P (e ∷ es) known h k =
    (each_of P (numbers known) e.number h (has-map (λ (x : Entry). x.number) known e k.0), each_number P es known h k.1)

lawful_more : (l : RouteLists) (ws es : List Entry) → IsRouteLawful true l (numbers ws) → Each (Has l.requested) ws →
    AreRising (l.requested ++ es) → IsRouteLawful true (record l { requested = l.requested ++ es }) (numbers (ws ++ es))
lawful_more l ws es h known rising =
    let number : Entry → ℕ = λ (e : Entry). e.number in
    let ns : numbers (l.requested ++ es) ≡ numbers l.requested ++ numbers es = map-append number l.requested es in
    let ms : numbers (ws ++ es) ≡ numbers ws ++ numbers es = map-append number ws es in
    let rises : Rises (numbers l.requested ++ numbers es) = subst Rises ns rising.rises in
    let Below : ℕ → Type 0 = λ x. Each (λ y. x < y) (numbers es) in
    let below : Each Below (numbers l.requested) = rises-apart (numbers l.requested) (numbers es) rises in
    let waits : Each Below (numbers ws) = each_number Below ws l.requested below known in
    let done : Each Below (numbers l.done) = each_number Below l.done l.requested below h.done_known in
    let tail : Rises (numbers es) = rises-back (numbers l.requested) (numbers es) rises in
    record {
      rises = rising.rises;
      in_range = rising.in_range;
      once = λ n. (let o = h.once n in let a = ap (times n) ns in
          let b = times-append n (numbers l.requested) (numbers es) in let c = ap (times n) ms in let d =
          times-append n (numbers ws) (numbers es) in omega (arith, o, a, b, c, d));
      waits_rise = subst Rises (sym ms) (rises-join (numbers ws) (numbers es) h.waits_rise tail waits);
      ordered = λ t. subst Rises (append_assoc (numbers l.done) (numbers ws) (numbers es)
          ∙ ap (λ z. numbers l.done ++ z) (sym ms))
          (rises-join (numbers l.done ++ numbers ws) (numbers es) (h.ordered t) tail
          (each-append Below (numbers l.done) (numbers ws) done waits));
      done_known =
          each_more (Has l.requested) (Has (l.requested ++ es)) l.done (λ e. has-left l.requested es e) h.done_known;
    }

tied_more : (r : ℕ) (did : BusPast) (old past : RoutePast) (ws es : List Entry) → RouteTied true r did old ws →
    past.requested ≡ old.requested ++ es → AreRising past.requested →
    ((n : ℕ) → Has old.aborted n → Has past.asked n) → ((n : ℕ) → Has old.asked n → Has past.asked n) →
    RouteTied true r did past (ws ++ es)
tied_more r did old past ws es t is rising aborted asked =
    let same : t.lists.requested ++ es ≡ past.requested = ap (λ l. l ++ es) t.requested_is ∙ sym is in
    let known : Each (Has t.lists.requested) ws =
    subst (λ (l : List Entry). Each (Has l) ws) (sym t.requested_is) t.waiting_known in
    let left : (e : Entry) → Has old.requested e → Has past.requested e =
    λ e has. subst (λ (l : List Entry). Has l e) (sym is) (has-left old.requested es e has) in
    record {
      lists = record t.lists { requested = t.lists.requested ++ es };
      requested_is = same;
      done_is = t.done_is;
      reaped_is = t.reaped_is;
      law = lawful_more t.lists ws es t.law known (subst AreRising (sym same) rising);
      waiting_known = each-append (Has past.requested) ws es
          (each_more (Has old.requested) (Has past.requested) ws left t.waiting_known)
          (each_in (Has past.requested) es (λ e has. subst (λ (l : List Entry). Has l e) (sym is)
          (has-right old.requested es e has)));
      ended = λ n has. ⊎_elim (λ h. inr (aborted n h)) (λ h. inr (asked n h)) (t.ended n has);
      reaped_asked = λ n has. asked n (t.reaped_asked n has);
      starts = λ e has. left e (t.starts e has);
    }

-- whatever the sides of a route did is tied

pub side_tied : (v : BusSide) (sides : List RouteSide) (left : List Left) (route : ℕ) (s : RouteSide) (did : BusPast)
    (past : RoutePast) → IsClosed v sides left → slice_get sides route ≡ Some s → Runs v did → RouteRuns s past →
    RouteTied true route did past (left_of route left)
side_tied v sides left route s did past c at h k =
    let old : RoutePast = h.asks route in
    let aside = requests_in (of route (option_to_list v.aside)) in
    let rest = requests_in (of route c.posts) in
    let sent : of route (v.got ++ c.posts) ≡ s.sent = c.all.ended route s at in
    let split : requests_in (of route (v.got ++ c.posts)) ≡ requests_in (of route v.got) ++ rest =
    ap requests_in (of-append route v.got c.posts) ∙ requests_in-append (of route v.got) (of route c.posts) in
    let requested : past.requested ≡ old.requested ++ (aside ++ rest) =
    k.requested ∙ ap requests_in (sym sent) ∙ split ∙ ap (λ l. l ++ rest) (sym (h.requested route))
    ∙ append_assoc old.requested aside rest in
    let rising : AreRising past.requested =
    subst AreRising (ap requests_in sent ∙ sym k.requested) (c.all.orderly.rising route) in
    let known : (n : ℕ) → Has (aborts_in (of route v.got)) n → Has past.asked n =
    λ n has. subst (λ (l : List ℕ). Has l n)
    (sym (ap aborts_in (of-append route v.got c.posts) ∙ aborts_in-append (of route v.got) (of route c.posts))
    ∙ ap aborts_in sent ∙ sym k.asked) (has-left (aborts_in (of route v.got))
    (aborts_in (of route c.posts)) n has) in
    let Got : ℕ → Type 0 = Has (aborts_in (of route v.got)) in
    let t : RouteTied true route did old (left_of route (map as_left v.boxes)) =
    subst (λ (q : List Waiting). RouteTied true route did old (left_of route (map as_left q))) h.boxes
    (subst (λ b. RouteTied b route did old (left_of route (map as_left h.core.queue))) h.order
    (plain_tied h.core route did old h.law h.bus (h.stands route))) in
    let is : left_of route (map as_left v.boxes) ++ (aside ++ rest) ≡ left_of route left =
    sym (append_assoc (left_of route (map as_left v.boxes)) aside rest) ∙ sym (left_of-all route v c.posts)
    ∙ ap (left_of route) (sym c.left_is) in
    subst (RouteTied true route did past) is
    (tied_more route did old past (left_of route (map as_left v.boxes)) (aside ++ rest) t requested rising
    (λ n has. known n (each_of Got old.aborted n (h.aborted route) has))
    (λ n has. known n (each_of Got old.asked n (h.asked route) has)))

pub all_tied : (v : BusSide) (sides : List RouteSide) (left : List Left) → IsClosed v sides left →
    AllTied Runs RouteRuns true v sides left
all_tied v sides left c = λ route s did past at h k. side_tied v sides left route s did past c at h k

-- beyond the routes there is nothing

get_or-beyond : {A : Type 0} (xs : List A) (i : ℕ) (d : A) → length xs ≤ i → get_or xs i d ≡ d
get_or-beyond [] i d le = refl
get_or-beyond (x ∷ xs) zero d le = absurd (omega (arith, le))
get_or-beyond (x ∷ xs) (suc i) d le = get_or-beyond xs i d (omega (arith, le))

append_none-left : {A : Type 0} (xs ys : List A) → xs ++ ys ≡ [] → xs ≡ []
append_none-left [] ys e = refl
append_none-left (x ∷ xs) ys e = absurd (not_empty x (xs ++ ys) e)

append_none-right : {A : Type 0} (xs ys : List A) → xs ++ ys ≡ [] → ys ≡ []
append_none-right [] ys e = e
append_none-right (x ∷ xs) ys e = absurd (not_empty x (xs ++ ys) e)

pub all_beyond : (v : BusSide) (sides : List RouteSide) (left : List Left) → IsClosed v sides left →
    NothingBeyond Runs v.routes v left
all_beyond v sides left c = λ did h route le.
    let none : lists_of h.core route ≡ no_lists =
    get_or-beyond h.core.routes route no_lists (let same = h.routes in omega (arith, same, le)) in
    let n = plain_beyond h.core route did h.law h.bus none in
    let gone : of route v.got ++ of route c.posts ≡ [] =
    sym (of-append route v.got c.posts) ∙ c.all.orderly.beyond route le in
    let boxes : left_of route (map as_left v.boxes) ≡ [] =
    ap (λ (q : List Waiting). left_of route (map as_left q)) (sym h.boxes) ∙ n.none_left in
    let aside : requests_in (of route (option_to_list v.aside)) ≡ [] =
    append_none-right (h.asks route).requested (requests_in (of route (option_to_list v.aside)))
    (h.requested route ∙ ap requests_in (append_none-left (of route v.got) (of route c.posts) gone)) in
    let rest : requests_in (of route c.posts) ≡ [] =
    ap requests_in (append_none-right (of route v.got) (of route c.posts) gone) in
    record {
      none_started = n.none_started;
      none_done = n.none_done;
      none_reaped = n.none_reaped;
      none_left = ap (left_of route) c.left_is ∙ left_of-all route v c.posts
          ∙ ap (λ (l : List Entry). (l ++ requests_in (of route (option_to_list v.aside)))
          ++ requests_in (of route c.posts)) boxes
          ∙ ap (λ (l : List Entry). l ++ requests_in (of route c.posts)) aside ∙ rest;
    }

-- no more than twelve are left

one_left : (route n : ℕ) (what : Asks) → length (left_by route n what) ≤ 1
one_left route n (Transmit f) = omega arith
one_left route n Abort = omega arith

few_posts : (ps : List Posting) → length (lefts_in ps) ≤ length ps
few_posts [] = omega arith
few_posts (p ∷ ps) = let a = one_left p.route p.number p.what in let b = few_posts ps in
    omega (arith, a, b, length-append (left_by p.route p.number p.what) (lefts_in ps))

one_aside : (o : Option Posting) → length (option_to_list o) ≤ 1
one_aside (Some p) = omega arith
one_aside None = omega arith

length-map : {A B : Type 0} (f : A → B) (xs : List A) → length (map f xs) ≡ length xs
length-map f [] = refl
length-map f (x ∷ xs) = ap suc (length-map f xs)

pub twelve : (v : BusSide) (posts : List Posting) → length v.boxes ≤ 3 → length posts ≤ 8 →
    length (left_with v posts) ≤ 12
twelve v posts three eight =
    let a = length-map as_left v.boxes in
    let b = few_posts (option_to_list v.aside) in
    let c = one_aside v.aside in
    let d = few_posts posts in
    omega (
      arith,
      three,
      eight,
      a,
      b,
      c,
      d,
      length-append (map as_left v.boxes ++ lefts_in (option_to_list v.aside))
          (lefts_in posts),
      length-append (map as_left v.boxes) (lefts_in (option_to_list v.aside)),
    )

-- of each route all posts are there

known_at : (sides : List RouteSide) (route : ℕ) (s : RouteSide) → slice_get sides route ≡ Some s →
    (route < length (map (λ (x : RouteSide). x.sent) sides))
    × (get_or (map (λ (x : RouteSide). x.sent) sides) route [] ≡ s.sent)
known_at [] route s e = let h : None ≡ Some s = e in cc
known_at (x ∷ xs) zero s e = let h : Some x ≡ Some s =
    e in (omega arith, ap (λ (y : RouteSide). y.sent) (some_same x s h))
  where
    some_same : (x s : RouteSide) → Some x ≡ Some s → x ≡ s
    some_same x s e = let h : Some x ≡ Some s = e in cc
known_at (x ∷ xs) (suc route) s e = let h = known_at xs route s e in let lt = h.0 in (omega (arith, lt), h.1)

pub all_there : (v : BusSide) (sides : List RouteSide) (got : List Posting) (made : ℕ) (posts : List Posting) →
    v.got ≡ got → v.routes ≡ made → TotalFact (bus_log (got ++ posts) made (map (λ (s : RouteSide). s.sent) sides)) [] →
    AreAll v sides posts
all_there v sides got made posts a b f = record {
  orderly = subst (λ (y : ℕ × List Posting). AreOrderly y.0 (y.1 ++ posts)) (λ i. (sym b i, sym a i))
      (subst (AreOrderly made) (append-nil (got ++ posts)) f.orderly);
  ended = λ route s at. let k = known_at sides route s at in ap (λ g. of route (g ++ posts)) a
      ∙ ap (of route) (sym (append-nil (got ++ posts))) ∙ f.ended route k.0 ∙ k.1;
}

pub if_ok-more : {A E : Type 0} (P Q : A → Type 0) (r : Result A E) → ((x : A) → P x → Q x) → IfOk r P → IfOk r Q
if_ok-more P Q (Ok x) f h = f x h
if_ok-more P Q (Err e) f h = tt

pub closed : (v w : BusSide) (sides : List RouteSide) (posts : List Posting) (left : List Left) → w ≡ v →
    AreAll w sides posts → length w.boxes ≤ 3 → length posts ≤ 8 → left ≡ left_with w posts → IsClosed v sides left
closed v w sides posts left e all three eight is = subst (λ u. IsClosed u sides left) e (record {
  posts = posts;
  all = all;
  left_is = is;
  few = subst (λ (l : List Left). length l ≤ 12) (sym is) (twelve w posts three eight);
})

pub all_drained : (v : BusSide) (sides : List RouteSide) (was u : Log) (posts : List Posting) → v.got ≡ was.got →
    v.routes ≡ was.made → u ≡ bus_log was.got was.made (map (λ (s : RouteSide). s.sent) sides) →
    TotalFact (bus_log (u.got ++ posts) u.made u.known) [] → AreAll v sides posts
all_drained v sides was u posts a b is f = all_there v sides was.got was.made posts a b
    (subst (λ (x : Log). TotalFact (bus_log (x.got ++ posts) x.made x.known) []) is f)
