-- A hand that matches what its route's side did, before a turn, once it has a frame to request, and after its call.
use Rattle.std.proofs.Common.{◌≡◌, ℕ, ◌+◌, ◌<◌, ◌≤◌, ◌↔◌, inl, inr, Bool, true, false, List, [], ◌∷◌, ◌++◌, length}
use Rattle.std.proofs.Common.{add-one, append_assoc, drop, refl, sym, ◌∙◌, ap, subst, arith, Result, Ok, Err}
use Rattle.std.specs.Prelude.{IsErr}
use Rattle.std.proofs.lemmas.List.{append-nil, length-append, length-map, map-append}
use Rattle.can_frame.specs.Frames.{FrameValue}
use Rattle.can_frame.specs.Rewrites.{rewritten}
use Rattle.bx_core.specs.declared.entry.Entry.{Entry}
use Rattle.bx_core.specs.declared.answer.Sent.{Sent}
use Rattle.bx_core.specs.declared.answer.Sent.TheVariants.{Yes, NotNow}
use Rattle.bx_core.specs.declared.answer.AbortAnswer.{AbortAnswer}
use Rattle.bx_core.specs.declared.answer.AbortAnswer.TheVariants.{Ended, Asked, Gone, NotNow as Later}
use Rattle.bx_core.specs.declared.answer.NumberTooLarge.{NumberTooLarge}
use Rattle.bx_core.specs.Lists.{Has}
use Rattle.bx_core.specs.States.{numbers}
use Rattle.bx_core.specs.Steps.{last_number, greatest_number}
use Rattle.bx_core.specs.RouteTx.{RoutePast, if_asked, after_request, after_abort}
use Rattle.bx_core.proofs.Words.{has-right, has-left}
use Rattle.bx_rx.specs.declared.rx_frame.RxFrame.{RxFrame}
use Rattle.gw_route.specs.RouteHand.{HandValue, LogMatches, as_requested, entry_of, numbered, room_in}
use Rattle.gw_route.specs.Turn.{counted, none_given, taken_out, HasNext, HasNone, IsDue, IsDueByCount, if_requested}
use Rattle.gw_route.specs.Turn.{if_aborted, next_turn}
use Rattle.gw_route.specs.declared.route_abort.RouteAbort.{RouteAbort}
use Rattle.gw_route.proofs.Lists.{has-either}
use Rattle.gw_route.proofs.Numbered.{length-numbered, numbered-append, last_of-numbered, number-behind, has-numbered}
use Rattle.gw_route.proofs.Numbered.{numbered-bounds}

-- as many are requested as released
length-as-requested : (h : HandValue) → length (as_requested h) ≡ length h.released
length-as-requested h = length-map h.released (rewritten h.rewrites)

-- all numbers that were given out are requested, but those in the hand
pub tickets-requested : (h : HandValue) (past : RoutePast) → LogMatches h past →
    length past.requested + length h.in_hand ≡ h.tickets
tickets-requested h past l = omega (
  arith,
  ap length l.log,
  length-append past.requested h.in_hand,
  length-numbered 1 (as_requested h),
  length-as-requested h,
  l.tickets_is,
)

-- so the last of them is the number of them
pub last-requested : (h : HandValue) (past : RoutePast) → LogMatches h past →
    last_number past.requested ≡ length past.requested
last-requested h past l = omega (arith, last_of-numbered 0 (as_requested h) past.requested h.in_hand l.log)

pub due-count : (h : HandValue) (past : RoutePast) (a : RouteAbort) → LogMatches h past →
    IsDue h.turns past.requested a → IsDueByCount h a
due-count h past a l d =
    let within : (0 < a.number) × (a.number ≤ 0 + length past.requested) =
    numbered-bounds 0 a.number (as_requested h) past.requested h.in_hand l.log d.known in
    record { reached = d.reached; positive = within.0; below = omega (arith, within.1, tickets-requested h past l) }

pub count-due : (h : HandValue) (past : RoutePast) (a : RouteAbort) → LogMatches h past → IsDueByCount h a →
    IsDue h.turns past.requested a
count-due h past a l d = record {
  reached = d.reached;
  known = has-numbered 0 a.number (as_requested h) past.requested h.in_hand l.log d.positive
      (omega (arith, d.below, tickets-requested h past l));
}

-- however many turns were made
pub matches-turns : (turns : ℕ) (h : HandValue) (past : RoutePast) → LogMatches h past →
    LogMatches (record h { turns = turns }) past
matches-turns turns h past l = record {
  log = l.log;
  few_held = l.few_held;
  room = l.room;
  tickets_is = l.tickets_is;
  limit = l.limit;
  ended = l.ended;
  asked = l.asked;
  known = l.known;
}

pub matches-counted : (h : HandValue) (past : RoutePast) → LogMatches h past → LogMatches (counted h) past
matches-counted h past l = matches-turns (next_turn h.turns) h past l

-- the FIFO was asked, and gave nothing
pub matches-asked : (h : HandValue) (past : RoutePast) → LogMatches h past → LogMatches (none_given h) past
matches-asked h past l = record {
  log = l.log;
  few_held = l.few_held;
  room = l.room;
  tickets_is = l.tickets_is;
  limit = l.limit;
  ended = l.ended;
  asked = l.asked;
  known = l.known;
}

-- a frame more comes into the hand, for which there is room
pub matches-taken : (h : HandValue) (past : RoutePast) (x : RxFrame) → length h.in_hand < room_in h.queue →
    LogMatches h past → LogMatches (taken_out h x) past
matches-taken h past x less l =
    let new : FrameValue = rewritten h.rewrites x.frame in
    let entry : Entry = entry_of h x.frame in
    let next : h.tickets + 1 ≡ 1 + length (as_requested h) = omega (arith, l.tickets_is, length-as-requested h) in
    record {
      log = sym (append_assoc past.requested h.in_hand (entry ∷ []))
          ∙ ap (λ (v : List Entry). v ++ entry ∷ []) l.log
          ∙ ap (λ k. numbered 1 (as_requested h) ++ numbered k (new ∷ [])) next
          ∙ sym (numbered-append 1 (as_requested h) (new ∷ []))
          ∙ ap (numbered 1) (sym (map-append (rewritten h.rewrites) h.released (x.frame ∷ [])));
      few_held = omega (arith, less, length-append h.in_hand (entry ∷ []));
      room = l.room;
      tickets_is = omega (arith, l.tickets_is, length-append h.released (x.frame ∷ []));
      limit = l.limit;
      ended = l.ended;
      asked = l.asked;
      known = l.known;
    }

pub matches-next : (h next : HandValue) (past : RoutePast) (e : Entry) (behind : List Entry) →
    HasNext h next e behind → LogMatches h past → LogMatches next past
matches-next h next past e behind has l = elim has.1 [
  | inl same ↦ subst (λ (v : HandValue). LogMatches v past) (sym same) l
  | inr new ↦ subst (λ (v : HandValue). LogMatches v past) (sym new.3)
      (matches-taken h past new.0 (omega (arith, ap length new.1, l.room.0)) l)
]

pub matches-none : (h next : HandValue) (past : RoutePast) → HasNone h next → LogMatches h past → LogMatches next past
matches-none h next past has l = elim has.1 [
  | inl unqueued ↦ subst (λ (v : HandValue). LogMatches v past) (sym unqueued.2) (matches-asked h past l)
  | inr queued ↦ subst (λ (v : HandValue). LogMatches v past) (sym queued.2) l
]

-- the first frame in the hand has the next number
pub number-next : (h : HandValue) (past : RoutePast) (e : Entry) (behind : List Entry) → h.in_hand ≡ e ∷ behind →
    LogMatches h past → e.number ≡ length past.requested + 1
number-next h past e behind held l =
    let joined : past.requested ++ e ∷ behind ≡ numbered 1 (as_requested h) =
    ap (λ (v : List Entry). past.requested ++ v) (sym held) ∙ l.log in
    let high : e.number ≡ 0 + length past.requested + 1 =
    number-behind 0 (as_requested h) past.requested e behind joined in
    omega (arith, high)

-- a past that requested nothing more
matches-refused : (h : HandValue) (past next : RoutePast) → next.requested ≡ past.requested ++ [] →
    next.aborted ≡ past.aborted → next.asked ≡ past.asked →
    LogMatches h past → LogMatches h next
matches-refused h past next req ab ask l =
    let same : next.requested ≡ past.requested = req ∙ append-nil past.requested in
    record {
      log = ap (λ (v : List Entry). v ++ h.in_hand) same ∙ l.log;
      few_held = l.few_held;
      room = l.room;
      tickets_is = l.tickets_is;
      limit = omega (arith, l.limit, ap length same);
      ended = λ n k. l.ended n (subst (λ (v : List ℕ). Has v n) ab k);
      asked = λ n k. l.asked n (subst (λ (v : List ℕ). Has v n) ask k);
      known = λ n k. subst (λ (v : List Entry). Has (numbers v) n) (sym same) (l.known n k);
    }

pub matches-requested : (h : HandValue) (past : RoutePast) (e : Entry) (behind : List Entry)
    (answer : Result Sent NumberTooLarge) →
    h.in_hand ≡ e ∷ behind →
    IsErr answer ↔ (greatest_number < e.number) → LogMatches h past →
    LogMatches (if_requested answer h) (after_request past e.number e.frame answer)
matches-requested h past e behind (Ok Yes) held limit l =
    let low : e.number ≤ greatest_number =
    (let refused : (greatest_number < e.number) → ⊥ = λ k. (let never : false ≡ true = limit.1 k in cc) in
    omega (arith, refused)) in
    let size : length (past.requested ++ e ∷ []) ≡ length past.requested + 1 = length-append past.requested (e ∷ []) in
    let left : drop 1 h.in_hand ≡ behind = ap (drop 1) held in
    let fewer : length h.in_hand ≡ length behind + 1 = ap length held ∙ sym (add-one (length behind)) in
    record {
      log = ap (λ (v : List Entry). (past.requested ++ e ∷ []) ++ v) left
          ∙ append_assoc past.requested (e ∷ []) behind
          ∙ ap (λ (v : List Entry). past.requested ++ v) (sym held) ∙ l.log;
      few_held = omega (arith, fewer, ap length left, l.few_held);
      room = l.room;
      tickets_is = l.tickets_is;
      limit = omega (arith, size, low, number-next h past e behind held l);
      ended = l.ended;
      asked = l.asked;
      known = λ n k. subst (λ (v : List ℕ). Has v n)
          (sym (map-append (λ (x : Entry). x.number) past.requested (e ∷ [])))
          (has-left (numbers past.requested) (e.number ∷ []) n (l.known n k));
    }
matches-requested h past e behind (Ok NotNow) held limit l =
    matches-refused h past (after_request past e.number e.frame (Ok NotNow)) refl refl refl l
matches-requested h past e behind (Err why) held limit l =
    matches-refused h past (after_request past e.number e.frame (Err why)) refl refl refl l

-- a list that is reported one number more, or none
grows : (old more new : List ℕ) (logged : List ℕ) (number : ℕ) → new ≡ old ++ more →
    ((n : ℕ) → Has more n → n ≡ number) → ((n : ℕ) → Has old n → Has logged n) →
    (n : ℕ) → Has new n → Has (logged ++ number ∷ []) n
grows old more new logged number is only before n k =
    elim (has-either old more n (subst (λ (v : List ℕ). Has v n) is k)) [
      | inl a ↦ has-left logged (number ∷ []) n (before n a)
      | inr b ↦ has-right logged (number ∷ []) n (inl (sym (only n b)))
    ]

at_most : (asks : Bool) (number n : ℕ) → Has (if_asked Asked asks number) n → n ≡ number
at_most true number n (inl e) = sym e
at_most true number n (inr h) = absurd h
at_most false number n h = absurd h

just : (number n : ℕ) → Has (number ∷ []) n → n ≡ number
just number n (inl e) = sym e
just number n (inr h) = absurd h

none_of : (number n : ℕ) → Has {A = ℕ} [] n → n ≡ number
none_of number n h = absurd h

logged-known : (past : RoutePast) (logged : List ℕ) (number : ℕ) → Has (numbers past.requested) number →
    ((n : ℕ) → Has logged n → Has (numbers past.requested) n) →
    (n : ℕ) → Has (logged ++ number ∷ []) n → Has (numbers past.requested) n
logged-known past logged number known before n k = elim (has-either logged (number ∷ []) n k) [
  | inl a ↦ before n a
  | inr b ↦ subst (Has (numbers past.requested)) (sym (just number n b)) known
]

pub matches-aborted : (h : HandValue) (past : RoutePast) (number : ℕ) (answer : AbortAnswer) (asks : Bool) →
    Has (numbers past.requested) number →
    LogMatches h past → LogMatches (if_aborted answer number h) (after_abort past number answer asks)
matches-aborted h past number Ended asks known l = record {
  log = l.log;
  few_held = l.few_held;
  room = l.room;
  tickets_is = l.tickets_is;
  limit = l.limit;
  ended = grows past.aborted (number ∷ []) (past.aborted ++ number ∷ []) h.aborted number refl (just number) l.ended;
  asked = grows past.asked [] (past.asked ++ []) h.aborted number refl (none_of number) l.asked;
  known = logged-known past h.aborted number known l.known;
}
matches-aborted h past number Asked asks known l = record {
  log = l.log;
  few_held = l.few_held;
  room = l.room;
  tickets_is = l.tickets_is;
  limit = l.limit;
  ended = grows past.aborted [] (past.aborted ++ []) h.aborted number refl (none_of number) l.ended;
  asked = grows past.asked (if_asked Asked asks number) (past.asked ++ if_asked Asked asks number) h.aborted number refl
      (at_most asks number) l.asked;
  known = logged-known past h.aborted number known l.known;
}
matches-aborted h past number Gone asks known l = record {
  log = l.log;
  few_held = l.few_held;
  room = l.room;
  tickets_is = l.tickets_is;
  limit = l.limit;
  ended = λ n k. l.ended n (subst (λ (v : List ℕ). Has v n) (append-nil past.aborted) k);
  asked = λ n k. l.asked n (subst (λ (v : List ℕ). Has v n) (append-nil past.asked) k);
  known = l.known;
}
matches-aborted h past number Later asks known l = record {
  log = l.log;
  few_held = l.few_held;
  room = l.room;
  tickets_is = l.tickets_is;
  limit = l.limit;
  ended = λ n k. l.ended n (subst (λ (v : List ℕ). Has v n) (append-nil past.aborted) k);
  asked = λ n k. l.asked n (subst (λ (v : List ℕ). Has v n) (append-nil past.asked) k);
  known = l.known;
}
