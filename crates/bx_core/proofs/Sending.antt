-- What is on the bus, as requests come, go and change.
use Rattle.std.proofs.Common.{◌≡◌, ℕ, ◌+◌, Bool, true, false, cond, Option, Some, None, List, [], ◌∷◌, ◌++◌, refl, sym}
use Rattle.std.proofs.Common.{ap, ◌∙◌, arith}
use Rattle.std.specs.Prelude.{option_map}
use Rattle.std.specs.List.{find}
use Rattle.std.proofs.lemmas.List.{append-nil}
use Rattle.bx_core.specs.declared.waiting.Waiting.{Waiting}
use Rattle.bx_core.specs.declared.status.Status.{Status}
use Rattle.bx_core.specs.declared.status.Status.TheVariants.{Pending, Scheduled, Transmitting}
use Rattle.bx_core.specs.States.{State, is_pending, is_scheduled, is_transmitting, on_bus}
use Rattle.bx_core.specs.Law.{count_busy}
use Rattle.bx_core.specs.TxBus.{Item}
use Rattle.bx_core.specs.PlainMail.{item_of, sending}

-- the request on the bus, of these
abbrev pub bus_of : List Waiting → Option Waiting
bus_of q = find (λ (w : Waiting). is_transmitting w.status) q

pub pending_idle : (st : Status) → is_pending st ≡ true → is_transmitting st ≡ false
pending_idle Pending e = refl
pending_idle Scheduled e = cc
pending_idle Transmitting e = cc

pub scheduled_idle : (st : Status) → is_scheduled st ≡ true → is_transmitting st ≡ false
scheduled_idle Pending e = refl
scheduled_idle Scheduled e = refl
scheduled_idle Transmitting e = cc

-- none is busy: the first isn't, and none of the rest is
pub idle_head : (b : Bool) (n : ℕ) → cond b 0 1 + n ≡ 0 → (b ≡ true) × (n ≡ 0)
idle_head true n e = (refl, omega (arith, e))
idle_head false n e = absurd (omega (arith, e))

-- pending requests are passed by
pub bus-skip : (xs ys : List Waiting) → count_busy xs ≡ 0 → bus_of (xs ++ ys) ≡ bus_of ys
bus-skip [] ys e = refl
bus-skip (x ∷ xs) ys e =
    let h = idle_head (is_pending x.status) (count_busy xs) e in
    ap (λ b. cond b (Some x) (bus_of (xs ++ ys))) (pending_idle x.status h.0) ∙ bus-skip xs ys h.1

pub bus-none : (q : List Waiting) → count_busy q ≡ 0 → bus_of q ≡ None
bus-none q e = ap bus_of (sym (append-nil q)) ∙ bus-skip q [] e

-- what is transmitting behind pending requests is on the bus
pub bus-there : (xs ys : List Waiting) (w : Waiting) → count_busy xs ≡ 0 → is_transmitting w.status ≡ true →
    bus_of (xs ++ w ∷ ys) ≡ Some w
bus-there xs ys w e sends = bus-skip xs (w ∷ ys) e ∙ ap (λ b. cond b (Some w) (bus_of ys)) sends

-- what isn't transmitting, among pending requests: none is on the bus
pub bus-idle : (xs ys : List Waiting) (w : Waiting) → count_busy xs ≡ 0 → count_busy ys ≡ 0 →
    is_transmitting w.status ≡ false → bus_of (xs ++ w ∷ ys) ≡ None
bus-idle xs ys w e f idle = bus-skip xs (w ∷ ys) e ∙ ap (λ b. cond b (Some w) (bus_of ys)) idle ∙ bus-none ys f

-- the same, as the bus side tells it
abbrev pub item_in : List Waiting → Option Item
item_in q = option_map item_of (bus_of q)

-- a request that isn't transmitting comes or goes
pub item-drop : (xs ys : List Waiting) (w : Waiting) → is_transmitting w.status ≡ false →
    item_in (xs ++ w ∷ ys) ≡ item_in (xs ++ ys)
item-drop [] ys w idle = ap (λ b. option_map item_of (cond b (Some w) (bus_of ys))) idle
item-drop (x ∷ xs) ys w idle = elim (is_transmitting x.status) as
    (λ b. option_map item_of (cond b (Some x) (bus_of (xs ++ w ∷ ys)))
    ≡ option_map item_of (cond b (Some x) (bus_of (xs ++ ys)))) [
      | true ↦ refl
      | false ↦ item-drop xs ys w idle
    ]

-- a request is asked to end
pub item-asked : (xs ys : List Waiting) (w : Waiting) → item_in (xs ++ record w { abort_asked = true } ∷ ys)
    ≡ item_in (xs ++ w ∷ ys)
item-asked [] ys w = either (is_transmitting w.status)
  where
    either : (b : Bool) → option_map item_of (cond b (Some (record w { abort_asked = true })) (bus_of ys))
        ≡ option_map item_of (cond b (Some w) (bus_of ys))
    either true = refl
    either false = refl
item-asked (x ∷ xs) ys w =
    elim (is_transmitting x.status) as
    (λ b. option_map item_of (cond b (Some x) (bus_of (xs ++ record w { abort_asked = true } ∷ ys)))
    ≡ option_map item_of (cond b (Some x) (bus_of (xs ++ w ∷ ys)))) [
      | true ↦ refl
      | false ↦ item-asked xs ys w
    ]

pub sending-yes : (s : State) (w : Waiting) → on_bus s ≡ Some w → sending s ≡ Some (item_of w)
sending-yes s w e = ap (option_map item_of) e
