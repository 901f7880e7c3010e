-- Where requests wait and none is scheduled or transmitting, the next one may be scheduled.
use Rattle.std.proofs.Common.{◌≡◌, ◌<◌, inl, inr, ⊎_elim, Bool, true, false, cond, List, [], ◌∷◌, length, refl, sym, ap}
use Rattle.std.proofs.Common.{◌∙◌, subst, arith, Some}
use Rattle.std.specs.List.{find}
use Rattle.std.proofs.lemmas.Bool.{cases_Bool, false≢true}
use Rattle.can_frame.specs.Keys.{key_of}
use Rattle.bx_core.specs.declared.waiting.Waiting.{Waiting}
use Rattle.bx_core.specs.Lists.{Each, Has}
use Rattle.bx_core.specs.States.{is_pending}
use Rattle.bx_core.specs.Priority.{goes_before, goes_first, next_by}
use Rattle.bx_core.specs.Law.{count_busy, NextGoes}
use Rattle.bx_core.proofs.Words.{each_more}
use Rattle.bx_core.proofs.KeyOrder.{comes_before-self, comes_before-on, comes_before-other}
use Rattle.bx_core.proofs.Found.{found, next_there, goes-schedule}
use Rattle.bx_core.proofs.Sending.{idle_head}

abbrev GoesBefore : Waiting → Waiting → Type 0
GoesBefore w x = goes_before w x ≡ true

goes_before-self : (w : Waiting) → GoesBefore w w
goes_before-self w = comes_before-self (key_of w.frame) w.mailbox

goes_before-on : (w x y : Waiting) → GoesBefore w x → GoesBefore x y → GoesBefore w y
goes_before-on w x y h g =
    comes_before-on (key_of w.frame) w.mailbox (key_of x.frame) x.mailbox (key_of y.frame) y.mailbox h g

goes_before-other : (w x : Waiting) → goes_before w x ≡ false → GoesBefore x w
goes_before-other w x h = comes_before-other (key_of w.frame) w.mailbox (key_of x.frame) x.mailbox h

-- one of these requests goes before all of them
least : (w : Waiting) (ws : List Waiting) → (x : Waiting) × Has (w ∷ ws) x × Each (GoesBefore x) (w ∷ ws)
least w [] = (w, inl refl, (goes_before-self w, tt))
least w (v ∷ vs) =
    let of_rest = least w vs in
    let x = of_rest.0 in
    elim (cases_Bool (goes_before x v)) [
      | inl before ↦ (x, ⊎_elim (λ is. inl is) (λ has. inr (inr has)) of_rest.1, (of_rest.2.0, (before, of_rest.2.1)))
      | inr behind ↦ (let before = goes_before-other x v behind in (
        v,
        inr (inl refl),
        (
          goes_before-on v x w before of_rest.2.0,
          (
            goes_before-self v,
            each_more (GoesBefore x) (GoesBefore v) vs
                (λ y. goes_before-on v x y before) of_rest.2.1,
          ),
        ),
      ))
    ]

-- where all are pending, that one may be scheduled
least_goes : (x : Waiting) (q : List Waiting) → count_busy q ≡ 0 → Each (GoesBefore x) q → goes_first x q ≡ true
least_goes x [] idle before = refl
least_goes x (y ∷ q) idle before =
    let here = idle_head (is_pending y.status) (count_busy q) idle in
    rw (here.0, before.0, least_goes x q here.1 before.1) refl

-- a search finds one where one is so
finds : (is : Waiting → Bool) (q : List Waiting) (x : Waiting) → Has q x → is x ≡ true → (y : Waiting)
    × (find is q ≡ Some y)
finds is [] x has so = absurd has
finds is (z ∷ q) x has so = elim (cases_Bool (is z)) [
  | inl yes_here ↦ (z, ap (λ b. cond b (Some z) (find is q)) yes_here)
  | inr not_here ↦
      (let behind : Has q x =
      ⊎_elim (λ same. absurd (false≢true (sym not_here ∙ subst (λ (y : Waiting). is y ≡ true) (sym same) so)))
      (λ h. h) has in
      let there = finds is q x behind so in
      (there.0, ap (λ b. cond b (Some z) (find is q)) not_here ∙ there.1))
]

some_next : (txfp : Bool) (w : Waiting) (ws : List Waiting) → count_busy (w ∷ ws) ≡ 0 → (x : Waiting)
    × (next_by txfp (w ∷ ws) ≡ Some x)
some_next true w ws idle = (w, refl)
some_next false w ws idle =
    let x = least w ws in
    finds (λ (y : Waiting). goes_first y (w ∷ ws)) (w ∷ ws) x.0 x.1 (least_goes x.0 (w ∷ ws) idle x.2)

pub next_of : (txfp : Bool) (q : List Waiting) → count_busy q ≡ 0 → 0 < length q → (x : Waiting)
    × (next_by txfp q ≡ Some x)
next_of txfp [] idle some = absurd (omega arith)
next_of txfp (w ∷ ws) idle some = some_next txfp w ws idle

pub all_pending : (q : List Waiting) (w : Waiting) → count_busy q ≡ 0 → Has q w → is_pending w.status ≡ true
all_pending [] w idle has = absurd has
all_pending (x ∷ q) w idle has =
    let here = idle_head (is_pending x.status) (count_busy q) idle in
    ⊎_elim (λ same. subst (λ (y : Waiting). is_pending y.status ≡ true) same here.0) (λ h. all_pending q w here.1 h) has

pub next_goes : NextGoes
next_goes s law idle some =
    let x = next_of s.txfp s.queue idle some in
    let there = next_there s.txfp s.queue x.0 x.1 in
    let place = found s x.0 law there.0 in
    (x.0, _, x.1, goes-schedule s x.0 place.at (all_pending s.queue x.0 idle there.0) there.1)
