-- How what waits is told at the end, the oldest first.
use Rattle.std.proofs.Common.{◌≡◌, ℕ, suc, ◌+◌, ◌*◌, ◌/◌, ◌<◌, ◌≤◌, ⊎_elim, inl, inr, ◌==◌, cond, List, [], ◌∷◌, ◌++◌}
use Rattle.std.proofs.Common.{map, length, refl, sym, ap, ◌∙◌, subst, arith, eq-eqb, ne_eqb, append_assoc, append-nil}
use Rattle.std.proofs.Common.{Some, None, Bool, true, false, true≢false}
use Rattle.std.proofs.lemmas.List.{length-map, map-append, length-append}
use mathlib.Core.Logic.{dite}
use native.Mathlib.Decide.{ℕ_discrete}
use Rattle.bx_core.specs.declared.left.Left.{Left}
use Rattle.bx_core.specs.declared.waiting.Waiting.{Waiting}
use Rattle.bx_core.specs.Lists.{Each, Has}
use Rattle.bx_core.specs.States.{claim_of, at_mailbox, is_at}
use Rattle.bx_core.specs.Law.{count_at}
use Rattle.bx_core.specs.Ties.{as_left}
use Rattle.bx_core.proofs.Words.{each_more, each_of, has-right, some_or_none}
use Rattle.bx_core.proofs.Queues.{split_at}
use Rattle.bx_core.proofs.Numbers.{has-at_mailbox}
use Rattle.bx_words.specs.Lanes.{lane_of, IsRequested, IsOlder, LaneSet}
use Rattle.bx_words.specs.Orders.{IsOldest, HasNoOldest}
use Rattle.bx_words.specs.Payloads.{IsHeadOf, ArePacked, bytes_word}
use Rattle.bx_words.proofs.Cases.{of_mailboxes}
use Rattle.bx_shared.specs.declared.route_view.RouteView.{RouteView}
use Rattle.bx_shared.specs.declared.bus_view.BusView.{BusView}
use Rattle.bx_shared.specs.Marks.{mark_by, lane_by, claim_lane, waiting_lane}
use Rattle.bx_shared.specs.Shown.{AreOrdered, Fits}
use Rattle.bx_shared.specs.Closing.{AreAllIdle, Ends, IsLast, IsInMailbox, Remains}
use Rattle.bx_shared.proofs.Reading.{within, holds, waiting_lane-none, at_has, same_request, HoldsNone, HoldsOne}
use Rattle.bx_shared.proofs.Orders.{AreApart, ordered, apart_rest, none_there}
use Rattle.bx_shared.proofs.Showing.{small_mailboxes, apart_queue}
use Rattle.bx_shared.proofs.Looking.{none_not_some}
use Rattle.bx_shared.proofs.Finding.{low_five}
use Rattle.bx_shared.proofs.Scheduling.{first_by_order, requested_lane}

-- what stands in the lane of a request that remains
lane_there : (word : ℕ) (q : List Waiting) (w : Waiting) → ((m : ℕ) → m < 3 → lane_of word m ≡ waiting_lane q m) →
    Each (λ x. x.mailbox < 3) q → AreApart q → Has q w → lane_of word w.mailbox ≡ lane_by w
lane_there word q w lanes small apart has =
    lanes w.mailbox (each_of (λ (x : Waiting). x.mailbox < 3) q w small has) ∙ ⊎_elim
    (λ (n : HoldsNone q w.mailbox). absurd (none_not_some w (sym n.at ∙ has-at_mailbox q w has (apart w.mailbox))))
    (λ (o : HoldsOne q w.mailbox). o.lane
    ∙ ap lane_by (same_request o.request w (sym o.at ∙ has-at_mailbox q w has (apart w.mailbox))))
    (holds q w.mailbox (apart w.mailbox))

is_requested_there : (word : ℕ) (q : List Waiting) (w : Waiting) →
    ((m : ℕ) → m < 3 → lane_of word m ≡ waiting_lane q m) → Each (λ x. x.mailbox < 3) q → AreApart q → Has q w →
    IsRequested word w.mailbox
is_requested_there word q w lanes small apart has = let b = within w in
    (requested_lane (lane_of word w.mailbox) (mark_by w.status w.abort_asked) w.route b.0 b.1
    (lane_there word q w lanes small apart has)).1

all_has : (q : List Waiting) (P : Waiting → Type 0) → ((w : Waiting) → Has q w → P w) → Each P q
all_has [] P f = tt
all_has (x ∷ xs) P f = (f x (inl refl), all_has xs P (λ w h. f w (inr h)))

-- the request that a requested lane tells of
record IsTold (q : List Waiting) (m lane : ℕ) : Type 0 where
  pub request : Waiting
  pub at : at_mailbox m q ≡ Some request
  pub lane_is : lane ≡ lane_by request

told_by : (word : ℕ) (q : List Waiting) (m : ℕ) → m < 3 → ((m : ℕ) → m < 3 → lane_of word m ≡ waiting_lane q m) →
    AreApart q → IsRequested word m → IsTold q m (lane_of word m)
told_by word q m small lanes apart low = ⊎_elim
    (λ (n : HoldsNone q m). let l = n.lane in let e = lanes m small in absurd (omega arith))
    (λ (o : HoldsOne q m). record { request = o.request; at = o.at; lane_is = lanes m small ∙ o.lane })
    (holds q m (apart m))

no_elements : (xs : List Waiting) → length xs ≡ 0 → xs ≡ []
no_elements [] e = refl
no_elements (x ∷ xs) e = absurd (omega arith)

-- of the rest the oldest stands first
record IsFirst (q : List Waiting) (m lane : ℕ) : Type 0 where
  pub request : Waiting
  pub behind : List Waiting
  pub whole : q ≡ request ∷ behind
  pub mailbox_is : request.mailbox ≡ m
  pub lane_is : lane ≡ lane_by request

is_first : (word : ℕ) (q : List Waiting) (m : ℕ) → ((m : ℕ) → m < 3 → lane_of word m ≡ waiting_lane q m) →
    AreOrdered word q → Each (λ x. x.mailbox < 3) q → AreApart q → IsOldest word m → IsFirst q m (lane_of word m)
is_first word q m lanes order small apart o =
    let t = told_by word q m o.small lanes apart o.requested in
    let sp = split_at m q t.request t.at in
    let each = all_has q (λ x. (x.mailbox < 3) × IsRequested word x.mailbox)
    (λ w h. (
      each_of (λ (x : Waiting). x.mailbox < 3) q w small h,
      is_requested_there word q w lanes small apart h,
    )) in
    let none = no_elements sp.before (first_by_order word sp.before sp.behind t.request (subst AreApart sp.whole apart)
    (subst (AreOrdered word) sp.whole order)
    (subst (Each (λ x. (x.mailbox < 3) × IsRequested word x.mailbox)) sp.whole each)
    (subst (IsOldest word) (sym sp.at) o)) in
    record {
      request = t.request;
      behind = sp.behind;
      whole =
          sp.whole ∙ ap (λ (l : List Waiting). l ++ t.request ∷ sp.behind) none;
      mailbox_is = sp.at;
      lane_is = t.lane_is;
    }

-- the oldest is told
pub leaves : (word m next : ℕ) (es : List Waiting) (left : List Left) (x : Left) → Remains word es left →
    IsOldest word m → LaneSet word m 0 next →
    ((w : Waiting) → Has es w → w.mailbox ≡ m → lane_of word m / 32 ≡ w.route → x ≡ as_left w) →
    Remains next es (left ++ x ∷ [])
leaves word m next es left x r o ls is =
    let f = is_first word r.rest m r.lanes r.order r.small r.apart o in
    let w = f.request in
    let small = subst (Each (λ y. y.mailbox < 3)) f.whole r.small in
    let apart : AreApart (w ∷ f.behind) = subst AreApart f.whole r.apart in
    let behind = none_there f.behind w.mailbox (let most = apart w.mailbox in
    let one = ap (λ b. cond b (suc (count_at w.mailbox f.behind)) (count_at w.mailbox f.behind))
    (eq-eqb w.mailbox w.mailbox refl) in omega arith) in
    let split : es ≡ r.taken ++ w ∷ f.behind = r.split ∙ ap (λ l. r.taken ++ l) f.whole in
    let has : Has es w =
    subst (λ (l : List Waiting). Has l w) (sym split) (has-right r.taken (w ∷ f.behind) w (inl refl)) in
    let owner = low_five (lane_of word m) (mark_by w.status w.abort_asked) w.route (within w).1 f.lane_is in
    record {
      taken = r.taken ++ w ∷ [];
      rest = f.behind;
      split = split ∙ sym (append_assoc r.taken (w ∷ []) f.behind);
      told = ap (λ l. l ++ x ∷ []) r.told ∙ ap (λ (y : Left). map as_left r.taken ++ y ∷ [])
          (is w has f.mailbox_is owner.1) ∙ sym (map-append as_left r.taken (w ∷ []));
      lanes = λ j few. dite (ℕ_discrete j m)
          (λ e. let P : ℕ → Type 0 = λ i. lane_of next i ≡ waiting_lane f.behind i in
          subst P (sym e)
          (ls.here
          ∙ sym (subst (λ (i : ℕ). waiting_lane f.behind i ≡ 0) f.mailbox_is
          (waiting_lane-none f.behind w.mailbox (let most = apart w.mailbox in
          let one = ap (λ b. cond b (suc (count_at w.mailbox f.behind)) (count_at w.mailbox f.behind))
          (eq-eqb w.mailbox w.mailbox refl) in omega arith)))))
          (λ n. ls.others j few n ∙ r.lanes j few ∙ ap (λ (l : List Waiting). waiting_lane l j) f.whole
          ∙ (let u = ap (λ b. cond b (lane_by w) 0) (ne_eqb w.mailbox j (λ z. n (sym z ∙ f.mailbox_is))) in
          omega arith));
      order =
          (subst (AreOrdered next) f.whole (ordered word next (λ _. Unit {0})
          (λ i j a b _ _. ls.order i j a b) r.rest r.apart r.small
          (each_more (λ y. y.mailbox < 3) (λ _. Unit {0}) r.rest (λ _ _. tt) r.small) r.order)).1;
      small = small.1;
      apart = apart_rest w f.behind apart;
    }

-- where no lane holds a request all were told
oldest_first : (word : ℕ) (w : Waiting) (ws : List Waiting) →
    ((m : ℕ) → m < 3 → lane_of word m ≡ waiting_lane (w ∷ ws) m) → AreOrdered word (w ∷ ws) →
    Each (λ x. x.mailbox < 3) (w ∷ ws) → AreApart (w ∷ ws) → IsOldest word w.mailbox
oldest_first word w ws lanes order small apart = record {
  small = small.0;
  requested = is_requested_there word (w ∷ ws) w lanes small apart (inl refl);
  oldest = λ j few n low.
      let t = told_by word (w ∷ ws) j few lanes apart low in
      let at = at_has j (w ∷ ws) t.request t.at in
      ⊎_elim (λ (is : w ≡ t.request). absurd (n (sym at.1 ∙ ap (λ (y : Waiting). y.mailbox) (sym is))))
      (λ has. subst (λ (i : ℕ). IsOlder word w.mailbox i) at.1
      (each_of (λ (y : Waiting). IsOlder word w.mailbox y.mailbox) ws t.request order.0 has)) at.0;
}

no_rest : (word : ℕ) (q : List Waiting) → ((m : ℕ) → m < 3 → lane_of word m ≡ waiting_lane q m) → AreOrdered word q →
    Each (λ x. x.mailbox < 3) q → AreApart q → HasNoOldest word → q ≡ []
no_rest word [] lanes order small apart none = refl
no_rest word (w ∷ ws) lanes order small apart none =
    absurd (none w.mailbox (oldest_first word w ws lanes order small apart))

told_of_all : (es taken rest : List Waiting) (left : List Left) → es ≡ taken ++ rest → left ≡ map as_left taken →
    rest ≡ [] → left ≡ map as_left es
told_of_all es taken rest left split told none =
    told ∙ ap (map as_left) (sym (split ∙ ap (λ l. taken ++ l) none ∙ append-nil taken))

pub all_told : (word : ℕ) (es : List Waiting) (left : List Left) → Remains word es left → HasNoOldest word →
    left ≡ map as_left es
all_told word es left r none =
    told_of_all es r.taken r.rest left r.split r.told (no_rest word r.rest r.lanes r.order r.small r.apart none)

-- three mailboxes hold at most three requests
one_more : (b : Bool) (n : ℕ) → cond b (suc n) n ≡ cond b 1 0 + n
one_more true n = omega arith
one_more false n = omega arith

counted : (q : List Waiting) → Each (λ w. w.mailbox < 3) q → length q ≡ count_at 0 q + count_at 1 q + count_at 2 q
counted [] s = omega arith
counted (w ∷ ws) s =
    let h = counted ws s.1 in
    let a = one_more (is_at 0 w) (count_at 0 ws) in
    let b = one_more (is_at 1 w) (count_at 1 ws) in
    let c = one_more (is_at 2 w) (count_at 2 ws) in
    let once = of_mailboxes (λ m. cond (m == 0) 1 0 + cond (m == 1) 1 0 + cond (m == 2) 1 0 ≡ 1) refl refl refl
    w.mailbox s.0 in
    omega arith

pub at_most_three : (q : List Waiting) → Each (λ w. w.mailbox < 3) q → AreApart q → length q ≤ 3
at_most_three q s apart = let h = counted q s in let a = apart 0 in let b = apart 1 in let c = apart 2 in omega arith

pub three_told : (word : ℕ) (es : List Waiting) (left : List Left) → length es ≤ 3 → Remains word es left →
    3 ≤ length left → left ≡ map as_left es
three_told word es left few r three =
    let a = ap length r.told ∙ length-map r.taken as_left in
    let b = ap length r.split ∙ length-append r.taken r.rest in
    told_of_all es r.taken r.rest left r.split r.told (no_elements r.rest (omega arith))

-- no claim stands where every place is idle
pub unclaimed : (b : BusView) (rs : List RouteView) (es : List Waiting) (word : ℕ) (t : Ends b rs es word) →
    AreAllIdle rs → (m : ℕ) → claim_of t.core m ≡ None
unclaimed b rs es word t all m = ⊎_elim
    (λ (none : claim_of t.core m ≡ None). none)
    (λ (some : (r : ℕ) × (claim_of t.core m ≡ Some r)).
    let p = all some.0 (let own = t.law.owners m some.0 some.1 in let e = t.eight in omega arith) in
    let f = each_of (Fits t.words t.core) rs p.part t.parts p.there in
    absurd (true≢false (sym (f.only m (some.1 ∙ ap Some (sym p.route_is))).0 ∙ p.idle)))
    (some_or_none (claim_of t.core m))

no_claim : (b : BusView) (rs : List RouteView) (es : List Waiting) (word : ℕ) (t : Ends b rs es word) → AreAllIdle rs →
    (m : ℕ) → claim_lane (claim_of t.core m) ≡ 0
no_claim b rs es word t all m = ap claim_lane (unclaimed b rs es word t all m)

pub begins_left : (b : BusView) (rs : List RouteView) (es : List Waiting) (word : ℕ) → Ends b rs es word →
    AreAllIdle rs → Remains word es []
begins_left b rs es word t all = record {
  taken = [];
  rest = es;
  split = refl;
  told = refl;
  lanes = λ m small. ap (λ z. lane_of z m) (sym t.word_is) ∙ t.shows.lanes m small
      ∙ (let z = no_claim b rs es word t all m in let q = ap (λ (l : List Waiting). waiting_lane l m) t.queue_is in
      omega arith);
  order = subst (λ (x : ℕ × List Waiting). AreOrdered x.0 x.1) (λ k. (t.word_is k, t.queue_is k)) t.shows.order;
  small = subst (Each (λ w. w.mailbox < 3)) t.queue_is (small_mailboxes t.core t.law);
  apart = subst AreApart t.queue_is (apart_queue t.core t.law);
}

pub few_wait : (b : BusView) (rs : List RouteView) (es : List Waiting) (word : ℕ) → Ends b rs es word → length es ≤ 3
few_wait b rs es word t = at_most_three es (subst (Each (λ w. w.mailbox < 3)) t.queue_is (small_mailboxes t.core t.law))
    (subst AreApart t.queue_is (apart_queue t.core t.law))

-- the payload words that were read are those of the request
pub last_packed : (es : List Waiting) (w : Waiting) (m head bytes i j : ℕ) → Has es w → w.mailbox ≡ m → i ≡ 1 + 2 * m →
    j ≡ 2 + 2 * m → IsLast es i head → IsLast es j bytes → ArePacked w.frame w.number head bytes
last_packed es w m head bytes i j has at a b one other =
    let P : ℕ → ℕ → Waiting → Type 0 = λ place found x. (place ≡ 1 + 2 * x.mailbox → IsHeadOf x.frame x.number found)
    × (place ≡ 2 + 2 * x.mailbox → found ≡ bytes_word x.frame) in
    record {
      head_is = (each_of (P i head) es w one has).0 (omega arith);
      bytes_are = (each_of (P j bytes) es w other has).1 (omega arith);
    }

pub first_waits : (es : List Waiting) (word m : ℕ) (left : List Left) → Remains word es left → IsOldest word m →
    IsInMailbox es word m
first_waits es word m left r o =
    let f = is_first word r.rest m r.lanes r.order r.small r.apart o in
    let w = f.request in
    record {
      request = w;
      there = subst (λ (l : List Waiting). Has l w) (sym (r.split ∙ ap (λ l. r.taken ++ l) f.whole))
          (has-right r.taken (w ∷ f.behind) w (inl refl));
      mailbox_is = f.mailbox_is;
      owner = (low_five (lane_of word m) (mark_by w.status w.abort_asked) w.route (within w).1 f.lane_is).1;
    }
