-- What the bus's seat knows after its calls.
use Rattle.std.proofs.Common.{◌≡◌, ℕ, ◌/◌, ◌%◌, ◌<◌, [], ◌∷◌, get_or, refl, sym, ap, ◌∙◌, subst, arith, Option, Some}
use Rattle.std.proofs.Common.{None, ◌^◌, ◌*◌}
use Rattle.std.specs.Prelude.{IfSome}
use Rattle.std.proofs.lemmas.List.{get_or-set_other}
use Rattle.bx_core.specs.TxBus.{Item}
use Rattle.bx_words.specs.Lanes.{lane_of, mark_of, rest_of, IsRequested}
use Rattle.bx_words.specs.Orders.{IsLeastOf}
use Rattle.bx_words.specs.Payloads.{ArePacked}
use Rattle.bx_words.proofs.Bits.{field_below}
use Rattle.bx_words.proofs.Cases.{of_mailboxes}
use Rattle.bx_shared.specs.declared.bus_view.BusView.{BusView}
use Rattle.bx_shared.specs.BusSteps.{HasKey, GoesNext, IsStarted, IsHeadSent, AreBytesSent, bus_looked, bus_started}
use Rattle.bx_shared.specs.BusSteps.{head_read}
use Rattle.bx_shared.specs.Calls.{IsScheduled, Began}

-- what holds of a value holds of another that follows from it
pub if_some_more : {A : Type 0} (o : Option A) (P Q : A → Type 0) → ((x : A) → P x → Q x) → IfSome o P → IfSome o Q
if_some_more None P Q f h = tt
if_some_more (Some x) P Q f h = f x h

-- a head that was read stays read
pub keeps_key : (b : BusView) (m j key head : ℕ) → ¬ (j ≡ m) → HasKey b j key → HasKey (head_read b m head) j key
keeps_key b m j key head n h =
    record { head = h.head; read = get_or-set_other b.heads m j (Some head) None n ∙ h.read; key_is = h.key_is }

-- of three keys that were read, with none scheduled or transmitting, the least goes next
pub goes_least : (b : BusView) (word first second third : ℕ) → b.seen ≡ word → rest_of word % 2 ≡ 1 →
    ((j : ℕ) → j < 3 → IsRequested word j → mark_of word j ≡ 3) →
    (IsRequested word 0 → HasKey b 0 first) → (IsRequested word 1 → HasKey b 1 second) →
    (IsRequested word 2 → HasKey b 2 third) →
    (m : ℕ) → IsLeastOf 3 word (first ∷ second ∷ third ∷ []) m → (m < 3) × GoesNext b word m
goes_least b word first second third seen odd pending one two three m least = (
  least.small,
  record {
    pending = pending m least.small least.requested;
    by_order = λ even. absurd (omega arith);
    by_identifier = λ _. record {
      seen = seen;
      pending = pending;
      keys = first ∷ second ∷ third ∷ [];
      read =
          of_mailboxes (λ j. IsRequested word j → HasKey b j (get_or (first ∷ second ∷ third ∷ []) j 0)) one two three;
      least = least;
    };
  },
)

-- the seat that started this transmission, and what it looked at before
module _ (b : BusView) (word written m : ℕ) (d : BusView) (st : IsStarted (bus_looked b word) d m word written) where
  pub sends_it : d.sends ≡ Some st.item
  sends_it = ap (λ (x : BusView). x.sends) st.is

  pub sends_there : d.mailbox ≡ m
  sends_there = ap (λ (x : BusView). x.mailbox) st.is

  pub are_packed : (head bytes : ℕ) (e : BusView) → e ≡ head_read d m head → IsHeadSent d m head →
      AreBytesSent e m bytes → ArePacked st.item.2 st.item.1 head bytes
  are_packed head bytes e is a c = record {
    head_is = a st.item sends_it sends_there;
    bytes_are =
        c st.item (ap (λ (x : BusView). x.sends) is ∙ sends_it) (ap (λ (x : BusView). x.mailbox) is ∙ sends_there);
  }

  pub began : (head lane : ℕ) (item : Item) (e : BusView) → IsScheduled word m → e ≡ head_read d m head →
      item.0 ≡ lane / 32 → lane ≡ lane_of word m → item.1 ≡ st.item.1 → item.2 ≡ st.item.2 → Began b e item
  began head lane item e scheduled is route of_word number frame =
      let r : item.0 ≡ st.item.0 = let l = st.lane in omega arith in
      let same : st.item ≡ item = λ k. (sym r k, sym number k, sym frame k) in
      let whole : e ≡ head_read (bus_started (bus_looked b word) word written m st.item) m head =
      is ∙ ap (λ x. head_read x m head) st.is in
      subst (λ (x : Item). Began b e x) same (subst (λ (x : BusView). Began b x st.item) (sym whole)
      (record {
        route = (let l = st.lane in let below = field_below word (8 * m) 8 in let is : 2 ^ 8 ≡ 256 = refl in
            omega arith);
        priority = refl;
        idle = st.idle;
        undone = record { unsent = st.undone.unsent; unreaped = st.undone.unreaped };
        scheduled = scheduled;
        owner = (let l = st.lane in omega arith);
        turn = st.turn;
        sends = refl;
        started = refl;
        done = refl;
        reaped = refl;
        reaps = refl;
        looks = refl;
        won = record { exchanges = refl; found = refl };
      }))
