-- The steps by which a route's seat claims a mailbox, fills it, and gives it back keep the rule.
use Rattle.std.proofs.Common.{◌≡◌, ℕ, ◌+◌, ◌*◌, ◌^◌, ◌<◌, ◌⊎◌, inl, inr, ⊎_elim, ◌==◌, [], length, get_or, set, refl}
use Rattle.std.proofs.Common.{sym, ap, ◌∙◌, subst, arith, eq-eqb, bit_and, is_some, Option, Some, None, Ok, Bool, true}
use Rattle.std.proofs.Common.{false, true≢false}
use Rattle.std.proofs.lemmas.List.{get_or-set_same, get_or-set_other}
use mathlib.Core.Option.{none, some}
use mathlib.Core.Logic.{dite}
use native.Mathlib.Decide.{ℕ_discrete}
use lib.ListN.{get_elem?}
use prog.Atomic.{either}
use Rattle.atomic_table.specs.Table.{step, keeps, stepped, Allows}
use Rattle.bx_core.specs.States.{State, claim_of}
use Rattle.bx_core.specs.declared.event.Event.TheVariants.{Claim, Withdraw}
use Rattle.bx_core.specs.Steps.{with_claim, is_claim_of, withdrawn as withdrawn_by}
use Rattle.bx_core.proofs.Empties.{goes-claim}
use Rattle.bx_core.proofs.Leads.{leads-claim, leads-withdraw}
use Rattle.bx_core.proofs.Reaches.{law_of, leads-reached}
use Rattle.bx_words.specs.Lanes.{lane_of, filling, LaneSet}
use Rattle.bx_words.specs.Payloads.{IsHead}
use Rattle.bx_shared.specs.declared.said.Said.TheVariants.{Mailbox}
use Rattle.bx_shared.specs.declared.route_view.RouteView.{RouteView}
use Rattle.bx_shared.specs.Shown.{Fills, Fits, IsKept, IsKeptAs, IsEvent}
use Rattle.bx_shared.specs.Steps.{seat_of, claimed, head_stored, bytes_stored, withdrawn, Claims, StoresHead}
use Rattle.bx_shared.specs.Steps.{StoresBytes, Withdraws}
use Rattle.bx_shared.proofs.Reading.{is_empty, waiting_lane-none}
use Rattle.bx_shared.proofs.Showing.{aside, shows_claim, shows_fill}
use Rattle.bx_shared.proofs.Knowing.{bus_claim, fits_else}
use Rattle.bx_shared.proofs.Moves.{St, alone, moves, knows, tries, claim_small, unrequested, some_not_none}

goes-withdraw : (s : State) (r m : ℕ) → is_claim_of (claim_of s m) r ≡ true →
    withdrawn_by s r m ≡ Ok (with_claim s m None)
unfolding withdrawn_by
goes-withdraw s r m e = rw e refl

-- claims of two routes differ
same_owner : (a b : ℕ) → Some a ≡ Some b → a ≡ b
same_owner a b e = cc

pub apart_owners : (a b : ℕ) (o : Option ℕ) → ¬ (a ≡ b) → o ≡ Some a → o ≡ Some b → ⊥
apart_owners a b o n x y = n (same_owner a b (sym x ∙ y))

pub is_owner : (o : Option ℕ) (r : ℕ) → o ≡ Some r → is_claim_of o r ≡ true
is_owner o r e = ap (λ x. is_claim_of x r) e ∙ eq-eqb r r refl

-- an empty mailbox is claimed
pub claims : (txfp : Bool) (t : St) (k : IsKept txfp t) (id m new : ℕ) (p : RouteView) →
    get_elem? t.views id ≡ some (alone p) → m < 3 → p.route < 8 → p.claims ≡ false →
    lane_of (get_or t.words 0 0) m ≡ 0 → LaneSet (get_or t.words 0 0) m (filling p.route) new →
    IsEvent txfp k.core (Claim p.route m) (stepped t 0 new id [] (alone (claimed p m)) keeps)
claims txfp t k id m new p me small there idle empty ls =
    let s = k.core in
    let ws = t.words in
    let law = law_of s k.reached in
    let f = knows txfp t k id p me in
    let r = is_empty s m law (sym (k.shows.lanes m small) ∙ empty) in
    let here : m < length s.claims = let h = law.three in omega arith in
    let next = with_claim s m (Some p.route) in
    let mine : get_or (set s.claims m (Some p.route)) m None ≡ Some p.route =
    get_or-set_same s.claims m (Some p.route) None here in
    let within : p.route < length s.routes = let h = k.eight in omega arith in
    record {
      next = next;
      after_is = goes-claim s p.route m (record { unclaimed = r.claim; unrequested = r.none.at });
      then = moves txfp t k id p (claimed p m) (set ws 0 new) next me refl
          (leads-reached s s next next refl (leads-claim s p.route m within small (ap is_some r.claim)
          (ap is_some r.none.at)) refl k.reached) k.priority k.eight
          (shows_claim ws s m (filling p.route) new (Some p.route) small k.shows law (let z = r.none.lane in
          omega arith) ls)
          (record {
            requested = f.requested;
            aborted = f.aborted;
            reaped = f.reaped;
            claim = λ _. record { own = mine; head = λ h. absurd (omega arith); bytes = λ h. absurd (omega arith) };
            only =
                λ j is. (
                  refl,
                  dite (ℕ_discrete j m) (λ e. sym e)
                      (λ n. absurd
                      (true≢false (sym (f.only j (sym (get_or-set_other s.claims m j (Some p.route) None n) ∙ is)).0
                      ∙ idle))),
                );
            three = f.three;
            waiting = f.waiting;
            ended = f.ended;
          })
          (λ o other g. fits_else ws (set ws 0 new) s next o refl
          (λ j is. let n : ¬ (j ≡ m) = λ h. some_not_none o.route (sym is ∙ ap (claim_of s) h ∙ r.claim) in
          (get_or-set_other s.claims m j (Some p.route) None n ∙ is, (aside ws new j).0, (aside ws new j).1))
          (λ j is. dite (ℕ_discrete j m)
          (λ h. absurd (apart_owners p.route o.route (claim_of next m) (λ z. other (sym z)) mine
          (sym (ap (claim_of next) h) ∙ is)))
          (λ n. sym (get_or-set_other s.claims m j (Some p.route) None n) ∙ is))
          (λ z. z) g)
          (bus_claim s m (Some p.route) k.bus) (inl refl);
    }

pub claims-keep : (txfp : Bool) (slots id m old new : ℕ) (p : RouteView) → m < 3 → p.route < 8 → p.claims ≡ false →
    lane_of old m ≡ 0 → LaneSet old m (filling p.route) new →
    Allows (IsKept txfp) slots id (seat_of p) 0 (λ n. either (n == old) new n)
    (Claims (step slots 0 old new (some (Mailbox m))) (seat_of p))
claims-keep txfp slots id m old new p small there idle empty ls t k long me fits =
    tries txfp t k slots id old new (some (Mailbox m)) p (claimed p m) me (λ e.
    (claims txfp t k id m new p me small there idle (ap (λ z. lane_of z m) e ∙ empty)
    (subst (λ (z : ℕ). LaneSet z m (filling p.route) new) (sym e) ls)).then.kept)

-- a store of a payload word of the mailbox that the seat fills
fills : (txfp : Bool) (t : St) (k : IsKept txfp t) (id i x : ℕ) (p q : RouteView) →
    get_elem? t.views id ≡ some (alone p) → p.claims ≡ true → q.route ≡ p.route →
    ((i ≡ 1 + 2 * p.mailbox) × IsHead x) ⊎ (i ≡ 2 + 2 * p.mailbox) →
    (Fits t.words k.core p → Fills t.words k.core p → Fits (set t.words i x) k.core q) →
    IsKeptAs txfp (stepped t i x id [] (alone q) keeps) k.core
fills txfp t k id i x p q me claims same new mine =
    let which : (i ≡ 1 + 2 * p.mailbox) ⊎ (i ≡ 2 + 2 * p.mailbox) =
    ⊎_elim (λ (h : (i ≡ 1 + 2 * p.mailbox) × IsHead x). inl h.0) (λ (h : i ≡ 2 + 2 * p.mailbox). inr h) new in
    let s = k.core in
    let ws = t.words in
    let law = law_of s k.reached in
    let f = knows txfp t k id p me in
    let g = f.claim claims in
    moves txfp t k id p q (set ws i x) s me same k.reached k.priority k.eight
    (shows_fill ws s p.mailbox i x new k.shows (unrequested s p.mailbox p.route law g.own)) (mine f g)
    (λ o other h. fits_else ws (set ws i x) s s o refl
    (λ j is. let n : ¬ (j ≡ p.mailbox) =
    λ e. apart_owners p.route o.route (claim_of s j) (λ z. other (sym z)) (ap (claim_of s) e ∙ g.own) is in (
      is,
      get_or-set_other ws i (1 + 2 * j) x 0
          (λ e. ⊎_elim (λ (h : i ≡ 1 + 2 * p.mailbox). n (omega arith))
          (λ (h : i ≡ 2 + 2 * p.mailbox). absurd (omega arith)) which),
      get_or-set_other ws i (2 + 2 * j) x 0
          (λ e. ⊎_elim (λ (h : i ≡ 1 + 2 * p.mailbox). absurd (omega arith))
          (λ (h : i ≡ 2 + 2 * p.mailbox). n (omega arith)) which),
    ))
    (λ j is. is) (λ z. z) h)
    (λ b. b) (inl refl)

pub stores_head : (txfp : Bool) (t : St) (k : IsKept txfp t) (id i x : ℕ) (p : RouteView) →
    get_elem? t.views id ≡ some (alone p) → i ≡ 1 + 2 * p.mailbox → p.claims ≡ true → IsHead x →
    IsKeptAs txfp (stepped t i x id [] (alone (head_stored p x)) keeps) k.core
stores_head txfp t k id i x p me at claims head =
    fills txfp t k id i x p (head_stored p x) me claims refl (inl (at, head))
    (λ f g. let small = claim_small k.core p.mailbox p.route (law_of k.core k.reached) g.own in record {
      requested = f.requested;
      aborted = f.aborted;
      reaped = f.reaped;
      claim = λ _. record {
        own = g.own;
        head = λ _. ap (λ j. get_or (set t.words i x) j 0) (sym at)
            ∙ get_or-set_same t.words i x 0 (let l = k.shows.seven in omega arith);
        bytes = λ h. absurd (omega arith);
      };
      only = λ j is. f.only j is;
      three = f.three;
      waiting = f.waiting;
      ended = f.ended;
    })

pub stores_head-keep : (txfp : Bool) (slots id x i : ℕ) (p : RouteView) → i ≡ 1 + 2 * p.mailbox → p.claims ≡ true →
    IsHead x →
    Allows (IsKept txfp) slots id (seat_of p) i (λ _. x) (λ _. StoresHead (step slots i x 0 none) (seat_of p) x)
stores_head-keep txfp slots id x i p at claims head t k long me fits =
    (alone (head_stored p x), keeps, tt, (stores_head txfp t k id i x p me at claims head).kept, refl)

pub stores_bytes : (txfp : Bool) (t : St) (k : IsKept txfp t) (id i x : ℕ) (p : RouteView) →
    get_elem? t.views id ≡ some (alone p) → i ≡ 2 + 2 * p.mailbox → p.claims ≡ true → p.stored ≡ 1 →
    IsKeptAs txfp (stepped t i x id [] (alone (bytes_stored p x)) keeps) k.core
stores_bytes txfp t k id i x p me at claims one =
    fills txfp t k id i x p (bytes_stored p x) me claims refl (inr at)
    (λ f g. let small = claim_small k.core p.mailbox p.route (law_of k.core k.reached) g.own in record {
      requested = f.requested;
      aborted = f.aborted;
      reaped = f.reaped;
      claim = λ _. record {
        own = g.own;
        head = λ _. get_or-set_other t.words i (1 + 2 * p.mailbox) x 0 (λ e. omega arith) ∙ g.head (omega arith);
        bytes = λ _. ap (λ j. get_or (set t.words i x) j 0) (sym at)
            ∙ get_or-set_same t.words i x 0 (let l = k.shows.seven in omega arith);
      };
      only = λ j is. f.only j is;
      three = f.three;
      waiting = f.waiting;
      ended = f.ended;
    })

pub stores_bytes-keep : (txfp : Bool) (slots id x i : ℕ) (p : RouteView) → i ≡ 2 + 2 * p.mailbox → p.claims ≡ true →
    p.stored ≡ 1 →
    Allows (IsKept txfp) slots id (seat_of p) i (λ _. x) (λ _. StoresBytes (step slots i x 0 none) (seat_of p) x)
stores_bytes-keep txfp slots id x i p at claims one t k long me fits =
    (alone (bytes_stored p x), keeps, tt, (stores_bytes txfp t k id i x p me at claims one).kept, refl)

-- the lane of the claim goes back to empty
pub withdraws : (txfp : Bool) (t : St) (k : IsKept txfp t) (id new : ℕ) (p : RouteView) →
    get_elem? t.views id ≡ some (alone p) → p.claims ≡ true → LaneSet (get_or t.words 0 0) p.mailbox 0 new →
    IsEvent txfp k.core (Withdraw p.route p.mailbox) (stepped t 0 new id [] (alone (withdrawn p)) keeps)
withdraws txfp t k id new p me claims ls =
    let s = k.core in
    let ws = t.words in
    let law = law_of s k.reached in
    let f = knows txfp t k id p me in
    let g = f.claim claims in
    let m = p.mailbox in
    let small = claim_small s m p.route law g.own in
    let here : m < length s.claims = let h = law.three in omega arith in
    let next = with_claim s m None in
    let gone : get_or (set s.claims m None) m None ≡ None = get_or-set_same s.claims m None None here in
    record {
      next = next;
      after_is = goes-withdraw s p.route m (is_owner (claim_of s m) p.route g.own);
      then = moves txfp t k id p (withdrawn p) (set ws 0 new) next me refl
          (leads-reached s s next next refl (leads-withdraw s p.route m (law.owners m p.route g.own) small
          (is_owner (claim_of s m) p.route g.own)) refl k.reached) k.priority k.eight
          (shows_claim ws s m 0 new None small k.shows law
          (let z = waiting_lane-none s.queue m (unrequested s m p.route law g.own) in omega arith) ls)
          (record {
            requested = f.requested;
            aborted = f.aborted;
            reaped = f.reaped;
            claim = λ h. absurd (true≢false (sym h));
            only = λ j is. dite (ℕ_discrete j m)
                (λ h. absurd (some_not_none p.route (sym is ∙ ap (claim_of next) h ∙ gone)))
                (λ n. absurd (n (sym (f.only j (sym (get_or-set_other s.claims m j None None n) ∙ is)).1)));
            three = f.three;
            waiting = f.waiting;
            ended = f.ended;
          })
          (λ o other h. fits_else ws (set ws 0 new) s next o refl
          (λ j is. let n : ¬ (j ≡ m) = λ e. apart_owners p.route o.route (claim_of s j) (λ z. other (sym z))
          (ap (claim_of s) e ∙ g.own) is in
          (get_or-set_other s.claims m j None None n ∙ is, (aside ws new j).0, (aside ws new j).1))
          (λ j is. dite (ℕ_discrete j m) (λ e. absurd (some_not_none o.route (sym is ∙ ap (claim_of next) e ∙ gone)))
          (λ n. sym (get_or-set_other s.claims m j None None n) ∙ is))
          (λ z. z) h)
          (bus_claim s m None k.bus) (inl refl);
    }

pub withdraws-keep : (txfp : Bool) (slots id mask : ℕ) (p : RouteView) → p.claims ≡ true →
    ((w : ℕ) → w < 2 ^ 64 → LaneSet w p.mailbox 0 (bit_and w mask)) →
    Allows (IsKept txfp) slots id (seat_of p) 0 (λ n. bit_and n mask) (Withdraws (step slots 0 mask 0 none) (seat_of p))
withdraws-keep txfp slots id mask p claims clears t k long me fits = (
  alone (withdrawn p),
  keeps,
  tt,
  (withdraws txfp t k id (bit_and (get_or t.words 0 0) mask) p me claims
      (clears (get_or t.words 0 0) fits)).then.kept,
  refl,
)
