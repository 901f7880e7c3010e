-- What a step of one route leaves known to the bus's seat and to the seats of other routes.
use Rattle.std.proofs.Common.{◌≡◌, ℕ, ◌+◌, ◌*◌, ◌<◌, cond, List, [], ◌∷◌, ◌++◌, length, get_or, refl, sym, ap, ◌∙◌}
use Rattle.std.proofs.Common.{subst, arith, Option, Some, None, Bool, false}
use Rattle.std.specs.Prelude.{option_map}
use Rattle.std.specs.List.{find}
use Rattle.can_frame.specs.Frames.{FrameValue}
use Rattle.bx_core.specs.declared.entry.Entry.{Entry}
use Rattle.bx_core.specs.declared.waiting.Waiting.{Waiting}
use Rattle.bx_core.specs.Lists.{Each, Has}
use Rattle.bx_core.specs.States.{State, RouteLists, no_lists, lists_of, claim_of, is_transmitting, is_scheduled}
use Rattle.bx_core.specs.Steps.{with_claim, with_request, new_waiting, requested_lists}
use Rattle.bx_core.specs.PlainMail.{item_of}
use Rattle.bx_core.specs.TxBus.{Item}
use Rattle.bx_core.specs.Stands.{entry_on_bus}
use Rattle.bx_core.proofs.Words.{each_more, has-left, set-each}
use Rattle.bx_core.proofs.Standing.{bus_on}
use Rattle.bx_shared.specs.declared.route_view.RouteView.{RouteView}
use Rattle.bx_shared.specs.declared.bus_view.BusView.{BusView}
use Rattle.bx_shared.specs.Shown.{IsKnown, Fits, past_of, FitsBus}
use Rattle.bx_shared.proofs.Counts.{count_requests-set}
use Rattle.bx_shared.proofs.Showing.{length-snoc}

-- the bus's seat, where claims alone change
pub bus_claim : (s : State) (m : ℕ) (owner : Option ℕ) (b : BusView) → FitsBus s b → FitsBus (with_claim s m owner) b
bus_claim s m owner b f = record {
  stands =
      record { started_known = f.stands.started_known; done_is = f.stands.done_is; reaped_is = f.stands.reaped_is };
  priority = f.priority;
  reaped_known = f.reaped_known;
  sends = f.sends;
  mailbox = f.mailbox;
  reaps = λ x e. let g = f.reaps x e in record {
    request = g.request;
    turn = g.turn;
    asked = g.asked;
    mailbox_is = g.mailbox_is;
    item_is = g.item_is;
  };
  heads = λ h. let g = f.heads h in record { before = g.before; heads = g.heads };
}

find-push : (is : Waiting → Bool) (q : List Waiting) (w : Waiting) → is w ≡ false → find is (q ++ w ∷ []) ≡ find is q
find-push is [] w e = ap (λ b. cond b (Some w) None) e
find-push is (x ∷ xs) w e = ap (λ o. cond (is x) (Some x) o) (find-push is xs w e)

-- the bus's seat, where a request is made
pub bus_request : (s : State) (r m n : ℕ) (f : FrameValue) (b : BusView) → r < length s.routes → FitsBus s b →
    FitsBus (with_request s r m n f) b
bus_request s r m n f b there k =
    let t = with_request s r m n f in
    let w = new_waiting r m n f in
    let e : Entry = record { number = n; frame = f } in
    let l = requested_lists (lists_of s r) e in
    let grows : (i : ℕ) (y : Entry) → Has (lists_of s i).requested y → Has (lists_of t i).requested y =
    set-each (λ (i : ℕ) (x : RouteLists). (y : Entry) → Has (lists_of s i).requested y → Has x.requested y) s.routes r l
    no_lists there
    (λ y h. has-left (lists_of s r).requested (e ∷ []) y h) (λ i ne y h. h) in
    let on_bus = find-push (λ (x : Waiting). is_transmitting x.status) s.queue w refl in
    let in_turn = find-push (λ (x : Waiting). is_scheduled x.status) s.queue w refl in
    let more = count_requests-set s.routes r l there (length-snoc (lists_of s r).requested e) in
    record {
      stands = bus_on s t (past_of b) grows
          (set-each (λ (i : ℕ) (x : RouteLists). (lists_of s i).done ≡ x.done) s.routes r l no_lists there refl
          (λ i ne. refl))
          (set-each (λ (i : ℕ) (x : RouteLists). (lists_of s i).reaped ≡ x.reaped) s.routes r l no_lists there refl
          (λ i ne. refl)) k.stands;
      priority = k.priority;
      reaped_known = each_more (λ (x : Item). Has (lists_of s x.0).requested (entry_on_bus x))
          (λ (x : Item). Has (lists_of t x.0).requested (entry_on_bus x)) b.reaped
          (λ x h. grows x.0 (entry_on_bus x) h) k.reaped_known;
      sends = ap (option_map item_of) on_bus ∙ k.sends;
      mailbox = λ x is. k.mailbox x (sym on_bus ∙ is);
      reaps = λ x is. let g = k.reaps x is in
          record {
            request = g.request;
            turn = in_turn ∙ g.turn;
            asked = g.asked;
            mailbox_is = g.mailbox_is;
            item_is =
                g.item_is;
          };
      heads = λ h. let g = k.heads h in let most =
          g.before in record { before = omega arith; heads = λ is. absurd (omega arith) };
    }

-- the seat of a route whose lists, claims and their payload words stay
pub fits_else : (ws next : List ℕ) (s t : State) (o : RouteView) → lists_of t o.route ≡ lists_of s o.route →
    ((m : ℕ) → claim_of s m ≡ Some o.route → (claim_of t m ≡ Some o.route)
    × (get_or next (1 + 2 * m) 0 ≡ get_or ws (1 + 2 * m) 0)
    × (get_or next (2 + 2 * m) 0 ≡ get_or ws (2 + 2 * m) 0)) →
    ((m : ℕ) → claim_of t m ≡ Some o.route → claim_of s m ≡ Some o.route) →
    (Each (IsKnown o) s.queue → Each (IsKnown o) t.queue) → Fits ws s o → Fits next t o
fits_else ws next s t o lists there back stay f = record {
  requested = ap (λ (l : RouteLists). l.requested) lists ∙ f.requested;
  aborted = ap (λ (l : RouteLists). l.aborted) lists ∙ f.aborted;
  reaped = subst (λ (l : RouteLists). Each (Has o.asked) l.reaped) (sym lists) f.reaped;
  claim = λ y. let g = f.claim y in let k = there o.mailbox g.own in
      record { own = k.0; head = λ h. k.1 ∙ g.head h; bytes = λ h. k.2 ∙ g.bytes h };
  only = λ m e. f.only m (back m e);
  three = f.three;
  waiting = stay f.waiting;
  ended = f.ended;
}
