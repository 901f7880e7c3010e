-- The step by which a route's seat requests what it filled a mailbox with keeps the rule.
use Rattle.std.proofs.Common.{◌≡◌, ℕ, ◌+◌, ◌*◌, ◌<◌, ◌≤◌, inr, ◌&&◌, ◌==◌, List, [], ◌∷◌, ◌++◌, length, get_or, set}
use Rattle.std.proofs.Common.{refl, sym, ap, ◌∙◌, subst, arith, length-set, nat_le, lt-ltb, le-leb, None, Bool, true}
use Rattle.std.proofs.Common.{true≢false}
use Rattle.std.proofs.lemmas.List.{get_or-set_same, get_or-set_other}
use mathlib.Core.Option.{some}
use mathlib.Core.Logic.{dite}
use native.Mathlib.Decide.{ℕ_discrete}
use lib.ListN.{get_elem?}
use prog.Atomic.{either}
use Rattle.atomic_table.specs.Table.{step, keeps, stepped, Allows}
use Rattle.bx_core.specs.declared.entry.Entry.{Entry}
use Rattle.bx_core.specs.declared.event.Event.TheVariants.{Request as Ask}
use Rattle.bx_core.specs.Lists.{Each, Has}
use Rattle.bx_core.specs.States.{State, RouteLists, no_lists, claim_of, lists_of}
use Rattle.bx_core.specs.Steps.{with_request, new_waiting, requested_lists, last_of, last_number, greatest_number}
use Rattle.bx_core.specs.Steps.{may_follow}
use Rattle.bx_core.proofs.Words.{each-append, each_more}
use Rattle.bx_core.proofs.Leads.{leads-request, goes-request}
use Rattle.bx_core.proofs.Reaches.{law_of, leads-reached}
use Rattle.bx_words.specs.Lanes.{filling, LaneRequested}
use Rattle.bx_words.specs.Payloads.{ArePacked}
use Rattle.bx_shared.specs.declared.said.Said.TheVariants.{Request}
use Rattle.bx_shared.specs.declared.route_view.RouteView.{RouteView}
use Rattle.bx_shared.specs.Shown.{IsKnown, IsKept, IsEvent}
use Rattle.bx_shared.specs.Steps.{seat_of, requested, Requests}
use Rattle.bx_shared.proofs.Showing.{aside, each_both, shows_request}
use Rattle.bx_shared.proofs.Orders.{none_there}
use Rattle.bx_shared.proofs.Knowing.{bus_request, fits_else}
use Rattle.bx_shared.proofs.Moves.{St, alone, moves, knows, tries, claim_small, unrequested, some_not_none}
use Rattle.bx_shared.proofs.Claiming.{apart_owners, is_owner}

pub last_of-push : (n : ℕ) (es : List Entry) (e : Entry) → last_of n (es ++ e ∷ []) ≡ e.number
last_of-push n [] e = refl
last_of-push n (x ∷ xs) e = last_of-push x.number xs e

-- a number above the last one, and not too great, may follow
follows : (s : State) (r n : ℕ) → last_number (lists_of s r).requested < n → n ≤ greatest_number →
    may_follow s r n ≡ true
follows s r n above most = ap (λ b. b && nat_le n greatest_number)
    (lt-ltb (last_number (lists_of s r).requested) n above) ∙ le-leb n greatest_number most

-- what was stored is requested
pub requests : (txfp : Bool) (t : St) (k : IsKept txfp t) (id new : ℕ) (p : RouteView) (e : Entry) →
    get_elem? t.views id ≡ some (alone p) → p.claims ≡ true → p.stored ≡ 2 → ArePacked e.frame e.number p.head p.bytes →
    last_number p.requested < e.number → LaneRequested (get_or t.words 0 0) p.mailbox (filling p.route + 2) new →
    IsEvent txfp k.core (Ask p.route p.mailbox e.number e.frame) (stepped t 0 new id [] (alone (requested p e)) keeps)
requests txfp t k id new p e me claims both packed above ls =
    let s = k.core in
    let ws = t.words in
    let law = law_of s k.reached in
    let f = knows txfp t k id p me in
    let g = f.claim claims in
    let m = p.mailbox in
    let r = p.route in
    let small = claim_small s m r law g.own in
    let there = law.owners m r g.own in
    let here : m < length s.claims = let h = law.three in omega arith in
    let next = with_request s r m e.number e.frame in
    let w = new_waiting r m e.number e.frame in
    let l = requested_lists (lists_of s r) e in
    let lists : lists_of next r ≡ l = get_or-set_same s.routes r l no_lists there in
    let gone : claim_of next m ≡ None = get_or-set_same s.claims m None None here in
    let none = unrequested s m r law g.own in
    let words : ArePacked e.frame e.number (get_or ws (1 + 2 * m) 0) (get_or ws (2 + 2 * m) 0) =
    subst (λ (y : ℕ). ArePacked e.frame e.number (get_or ws (1 + 2 * m) 0) y) (sym (g.bytes (omega arith)))
    (subst (λ (x : ℕ). ArePacked e.frame e.number x p.bytes) (sym (g.head (omega arith))) packed) in
    let newer : last_number (lists_of s r).requested < e.number =
    subst (λ (es : List Entry). last_number es < e.number) (sym f.requested) above in
    let most : e.number ≤ greatest_number = let h = packed.head_is.small in omega arith in
    let q = requested p e in
    record {
      next = next;
      after_is =
          goes-request s r m e.number e.frame (is_owner (claim_of s m) r g.own) (follows s r e.number newer most);
      then = moves txfp t k id p q (set ws 0 new) next me refl
          (leads-reached s s next next refl (leads-request s r m e.number e.frame there small
          (is_owner (claim_of s m) r g.own) (follows s r e.number newer most)) refl k.reached)
          k.priority (length-set s.routes r l ∙ k.eight)
          (shows_request ws s r m e.number new e.frame small there g.own words k.shows law ls)
          (record {
            requested = ap (λ (x : RouteLists). x.requested) lists ∙ ap (λ (es : List Entry). es ++ e ∷ []) f.requested;
            aborted = ap (λ (x : RouteLists). x.aborted) lists ∙ f.aborted;
            reaped = subst (λ (x : RouteLists). Each (Has p.asked) x.reaped) (sym lists) f.reaped;
            claim = λ h. absurd (true≢false (sym h));
            only = λ j is. dite (ℕ_discrete j m) (λ h. absurd (some_not_none r (sym is ∙ ap (claim_of next) h ∙ gone)))
                (λ n. absurd (n (sym (f.only j (sym (get_or-set_other s.claims m j None None n) ∙ is)).1)));
            three = length-set p.last m e.number ∙ f.three;
            waiting = each-append (IsKnown q) s.queue (w ∷ [])
                (each_both (IsKnown p) (λ x. ¬ (x.mailbox ≡ m)) (IsKnown q) s.queue (λ x h n is. let g = h is in
                (get_or-set_other p.last m x.mailbox e.number 0 n ∙ g.0, g.1, g.2)) f.waiting
                (none_there s.queue m none)) (
                  (λ _. (
                    get_or-set_same p.last m e.number 0 (let h = f.three in omega arith),
                    (λ h. absurd (true≢false (sym h))),
                    each_more (λ n. n ≤ last_number p.requested) (λ n. ¬ (n ≡ e.number)) p.ended
                        (λ n h z. omega arith) f.ended,
                  )),
                  tt,
                );
            ended = each_more (λ n. n ≤ last_number p.requested) (λ n. n ≤ last_number (p.requested ++ e ∷ [])) p.ended
                (λ n h. let z = last_of-push 0 p.requested e in omega arith) f.ended;
          })
          (λ o other h. fits_else ws (set ws 0 new) s next o (get_or-set_other s.routes r o.route l no_lists other)
          (λ j is. let n : ¬ (j ≡ m) = λ z. apart_owners r o.route (claim_of s j) (λ y. other (sym y))
          (ap (claim_of s) z ∙ g.own) is in
          (get_or-set_other s.claims m j None None n ∙ is, (aside ws new j).0, (aside ws new j).1))
          (λ j is. dite (ℕ_discrete j m) (λ z. absurd (some_not_none o.route (sym is ∙ ap (claim_of next) z ∙ gone)))
          (λ n. sym (get_or-set_other s.claims m j None None n) ∙ is))
          (λ z. each-append (IsKnown o) s.queue (w ∷ []) z ((λ is. absurd (other (sym is))), tt)) h)
          (bus_request s r m e.number e.frame k.bus there) (inr (let h = k.eight in omega arith));
    }

pub requests-keep : (txfp : Bool) (slots id old new : ℕ) (p : RouteView) (e : Entry) → p.claims ≡ true → p.stored ≡ 2 →
    ArePacked e.frame e.number p.head p.bytes → last_number p.requested < e.number →
    LaneRequested old p.mailbox (filling p.route + 2) new →
    Allows (IsKept txfp) slots id (seat_of p) 0 (λ n. either (n == old) new n)
    (Requests (step slots 0 old new (some (Request e))) (seat_of p))
requests-keep txfp slots id old new p e claims both packed above ls t k long me fits =
    tries txfp t k slots id old new (some (Request e)) p (requested p e) me (λ found.
    (requests txfp t k id new p e me claims both packed above
    (subst (λ (z : ℕ). LaneRequested z p.mailbox (filling p.route + 2) new) (sym found) ls)).then.kept)
