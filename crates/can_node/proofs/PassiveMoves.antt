-- The branches of a passive error flag: what a sampled level makes of the state.
use Rattle.std.proofs.Common.{◌≡◌, ℕ, zero, suc, ◌⊎◌, inl, inr, ◌+◌, ◌<◌, ◌≤◌, ◌||◌, cond, Bool, true, false, not, Some}
use Rattle.std.proofs.Common.{None, List, [], ◌∷◌, ◌++◌, reverse, replicate, refl, sym, ap, subst, arith, ◌∙◌}
use Rattle.std.specs.List.{prefix_len, suffix_len, list_any}
use Rattle.std.proofs.lemmas.List.{append_assoc, append-nil, reverse-append, reverse-reverse}
use Rattle.std.proofs.lemmas.List.Folds.{list_any-append}
use Rattle.can_frame.proofs.Numbers.{tail_same}
use Rattle.can_confinement.specs.declared.confinement.Role.{Role}
use Rattle.can_confinement.specs.declared.confinement.ErrorEvent.{ErrorEvent}
use Rattle.can_confinement.specs.declared.confinement.ErrorEvent.TheVariants.{SenderError}
use Rattle.can_confinement.specs.declared.confinement.ErrorState.{ErrorState}
use Rattle.can_node.specs.declared.flag.FlagKind.TheVariants.{PassiveError}
use Rattle.can_node.specs.declared.state.State.TheVariants.{PassiveErrorFlag, AwaitingDelimiter}
use Rattle.can_node.specs.Flags.{dominant_end, dominant_events, owed_events, EndsInSix, IsWithoutSix}
use Rattle.can_node.specs.Phases.Phase.{Delimiter}
use Rattle.can_node.specs.Episodes.Course.{passive_flagged}
use Rattle.can_node.specs.Machine.{Agrees, Goes, IsPassive}
use Rattle.can_node.specs.Machine.Agrees.{in_passive, in_wait}
use Rattle.can_node.specs.Machine.Lands.{goes_on, is_over}
use Rattle.can_node.proofs.Moves.{transition, listening_more}

ones_more : (w : List Bool) → suffix_len (λ level. level) (w ++ true ∷ []) ≡ suffix_len (λ level. level) w + 1
ones_more w = rw (reverse-append w (true ∷ [])) (omega arith)

ones_none : (w : List Bool) → suffix_len (λ level. level) (w ++ false ∷ []) ≡ 0
ones_none w = rw (reverse-append w (false ∷ [])) refl

zeros_more : (w : List Bool) → dominant_end (w ++ false ∷ []) ≡ dominant_end w + 1
zeros_more w = rw (reverse-append w (false ∷ [])) (omega arith)

zeros_none : (w : List Bool) → dominant_end (w ++ true ∷ []) ≡ 0
zeros_none w = rw (reverse-append w (true ∷ [])) refl

-- a text that begins with n levels that pass a test, which one level alone does
prefix_run : (p : Bool → Bool) (b : Bool) → ((x : Bool) → p x ≡ true → x ≡ b) → (n : ℕ) (r : List Bool) →
    n ≤ prefix_len p r →
    (rest : List Bool) × (r ≡ replicate n b ++ rest)
prefix_run p b is zero r h = (r, refl)
prefix_run p b is (suc n) [] h = absurd (omega (arith, h))
prefix_run p b is (suc n) (x ∷ r) h =
    elim (p x) as (λ v. p x ≡ v → suc n ≤ cond v (1 + prefix_len p r) 0 → (rest : List Bool)
    × (x ∷ r ≡ replicate (suc n) b ++ rest)) [
      | true ↦ λ e k. let t = prefix_run p b is n r (omega (arith, k)) in
          (t.0, ap (λ y. y ∷ r) (is x e) ∙ ap (λ q. b ∷ q) t.1)
      | false ↦ λ e k. absurd (omega (arith, k))
    ] refl h

suffix_run : (p : Bool → Bool) (b : Bool) → ((x : Bool) → p x ≡ true → x ≡ b) → (w : List Bool) → 6 ≤ suffix_len p w →
    EndsInSix w
suffix_run p b is w h =
    let t = prefix_run p b is 6 (reverse w) h in
    (reverse t.0, b, sym (reverse-reverse w) ∙ ap reverse t.1 ∙ reverse-append (replicate 6 b) t.0)

is_true : (x : Bool) → x ≡ true → x ≡ true
is_true x e = e

is_false : (x : Bool) → not x ≡ true → x ≡ false
is_false true e = cc e
is_false false e = refl

-- a text that ends in six equal levels ends in six recessive or six dominant ones
six_counted : (w : List Bool) → EndsInSix w → (6 ≤ suffix_len (λ level. level) w) ⊎ (6 ≤ dominant_end w)
six_counted w (v, true, e) = inl (rw (e, reverse-append v (replicate 6 true)) (omega arith))
six_counted w (v, false, e) = inr (rw (e, reverse-append v (replicate 6 false)) (omega arith))

-- where a text and one more level is split
pub split_last : (xs beginning more : List Bool) (b : Bool) → xs ++ b ∷ [] ≡ beginning ++ more →
    (beginning ≡ xs ++ b ∷ []) ⊎ ((m : List Bool) × (xs ≡ beginning ++ m))
split_last xs [] more b e = inr (xs, refl)
split_last [] (y ∷ beginning) more b e = inl (nothing_left beginning more (tail_same b y [] (beginning ++ more) e))
  where
    nothing_left : (p q : List Bool) → [] ≡ p ++ q → y ∷ p ≡ b ∷ []
    nothing_left [] q k = ap (λ t. t ∷ []) (let same : y ≡ b = cc e in same)
    nothing_left (z ∷ p) q k = absurd (cc k)
split_last (x ∷ xs) (y ∷ beginning) more b e =
    elim (split_last xs beginning more b (tail_same x y (xs ++ b ∷ []) (beginning ++ more) e)) [
      | inl is ↦ (let same : x ≡ y = cc e in inl (ap (λ t. y ∷ t) is ∙ ap (λ z. z ∷ (xs ++ b ∷ [])) (sym same)))
      | inr rest ↦ (let same : x ≡ y = cc e in inr (rest.0, ap (λ z. z ∷ xs) same ∙ ap (λ t. y ∷ t) rest.1))
    ]

without_more : (levels : List Bool) (b : Bool) → IsWithoutSix levels →
    suffix_len (λ level. level) (levels ++ b ∷ []) < 6 → dominant_end (levels ++ b ∷ []) < 6 →
    IsWithoutSix (levels ++ b ∷ [])
without_more levels b none ones lows beginning more e six = elim (split_last levels beginning more b e) [
  | inl is ↦ elim (six_counted (levels ++ b ∷ []) (subst EndsInSix is six)) [
    | inl h ↦ omega (arith, h, ones)
    | inr h ↦ omega (arith, h, lows)
  ]
  | inr rest ↦ none beginning rest.0 rest.1 six
]

or_false : (b : Bool) → (b || false) ≡ b
or_false true = refl
or_false false = refl

or_true : (b : Bool) → (b || true) ≡ true
or_true true = refl
or_true false = refl

-- a recessive sample brings nothing that is owed
recessive_owes : (owed : List ErrorEvent) (w : List Bool) → owed_events owed (w ++ true ∷ []) ≡ owed_events owed w
recessive_owes owed w = ap (λ b. cond b owed []) (list_any-append not w (true ∷ []) ∙ or_false (list_any not w))

any_dominant : (w : List Bool) → list_any not (w ++ false ∷ []) ≡ true
any_dominant w = list_any-append not w (false ∷ []) ∙ or_true (list_any not w)

-- behind a dominant sample nothing more is owed
paid : (owed : List ErrorEvent) (w more : List Bool) → list_any not w ≡ true →
    owed_events owed (w ++ more) ≡ owed_events owed w
paid owed w more any = ap (λ b. cond b owed []) (list_any-append not w more ∙ rw any refl)

still_nothing : (owed : List ErrorEvent) (levels : List Bool) (b : Bool) →
    ((more : List Bool) → owed_events owed (levels ++ more) ≡ owed_events owed levels) →
    (more : List Bool) → owed_events owed ((levels ++ b ∷ []) ++ more) ≡ owed_events owed (levels ++ b ∷ [])
still_nothing owed levels b h more =
    ap (owed_events owed) (append_assoc levels (b ∷ []) more) ∙ h (b ∷ more) ∙ sym (h (b ∷ []))

pub passive_recessive : (role : Role) (owes : Bool) (ones lows now : ℕ) (e : ErrorState) → ones < 5 →
    Goes (PassiveErrorFlag role owes ones lows) now e true (transition (PassiveErrorFlag role owes (ones + 1) 0) None)
passive_recessive role owes ones lows now e room text at before phase part events clock err (in_passive owed levels h) =
    goes_on (rw (listening_more, append-nil, ← recessive_owes owed levels)
    (in_passive owed (levels ++ true ∷ []) (record {
      without_six = without_more levels true h.without_six (omega (arith, ones_more levels, h.ones_is, room))
          (omega (arith, zeros_none levels));
      ones_is = ones_more levels ∙ ap (λ n. n + 1) h.ones_is;
      zeros_is = zeros_none levels;
      owes_error = λ yes. (
        (h.owes_error yes).0,
        list_any-append not levels (true ∷ []) ∙ or_false (list_any not levels)
            ∙ (h.owes_error yes).1,
      );
      none_yet = λ yes. refl;
      owes_nothing = λ no. still_nothing owed levels true (h.owes_nothing no);
    }))) refl

pub passive_paid : (role : Role) (ones lows now : ℕ) (e : ErrorState) → lows < 5 →
    Goes (PassiveErrorFlag role true ones lows) now e false
    (transition (PassiveErrorFlag role false 0 (lows + 1)) (Some SenderError))
passive_paid role ones lows now e room text at before phase part events clock err (in_passive owed levels h) =
    let owing : (owed ≡ SenderError ∷ []) × (list_any not levels ≡ false) = h.owes_error refl in
    let counts : owed_events owed levels ++ SenderError ∷ [] ≡ owed_events owed (levels ++ false ∷ []) =
    ap (λ b. cond b owed [] ++ SenderError ∷ []) owing.1 ∙ sym owing.0
    ∙ sym (ap (λ b. cond b owed []) (any_dominant levels)) in
    goes_on (rw (listening_more, counts) (in_passive {owes = false} owed (levels ++ false ∷ []) (record {
      without_six = without_more levels false h.without_six (omega (arith, ones_none levels))
          (omega (arith, zeros_more levels, h.zeros_is, room));
      ones_is = ones_none levels;
      zeros_is = zeros_more levels ∙ ap (λ n. n + 1) h.zeros_is;
      owes_error = λ yes. absurd (cc yes);
      none_yet = λ yes. absurd (cc yes);
      owes_nothing = λ no more. paid owed (levels ++ false ∷ []) more (any_dominant levels);
    }))) refl

pub passive_dominant : (role : Role) (ones lows now : ℕ) (e : ErrorState) → lows < 5 →
    Goes (PassiveErrorFlag role false ones lows) now e false (transition (PassiveErrorFlag role false 0 (lows + 1))
    None)
passive_dominant role ones lows now e room text at before phase part events clock err (in_passive owed levels h) =
    goes_on (rw (listening_more, append-nil, ← h.owes_nothing refl (false ∷ []))
    (in_passive {owes = false} owed (levels ++ false ∷ []) (record {
      without_six = without_more levels false h.without_six (omega (arith, ones_none levels))
          (omega (arith, zeros_more levels, h.zeros_is, room));
      ones_is = ones_none levels;
      zeros_is = zeros_more levels ∙ ap (λ n. n + 1) h.zeros_is;
      owes_error = λ yes. absurd (cc yes);
      none_yet = λ yes. absurd (cc yes);
      owes_nothing = λ no. still_nothing owed levels false (h.owes_nothing no);
    }))) refl

-- behind a passive error flag
passive_waits : (role : Role) (later : ℕ) → Agrees (AwaitingDelimiter PassiveError role 8 true) (false ∷ []) later
    (Delimiter PassiveError role 0) [] []
unfolding dominant_events
passive_waits role later = in_wait 0 0 refl (λ none. omega arith)
    (record { eighths = 0; due = refl; some = omega arith; near = λ no. omega arith })

pub passive_ends_recessive : (role : Role) (owes : Bool) (ones lows now : ℕ) (e : ErrorState) → 5 ≤ ones →
    Goes (PassiveErrorFlag role owes ones lows) now e true (transition (AwaitingDelimiter PassiveError role 8 true)
    None)
passive_ends_recessive role owes ones lows now e full text at before phase part events clock err
    (in_passive owed levels h) =
    let six : EndsInSix (levels ++ true ∷ []) = suffix_run (λ level. level) true is_true (levels ++ true ∷ [])
    (omega (arith, ones_more levels, h.ones_is, full)) in
    is_over (Delimiter PassiveError role 0)
    (rw (listening_more, append-nil, ← recessive_owes owed levels)
    (passive_flagged owed role levels true h.without_six six)) (passive_waits role)

owes_no_more : (owes : Bool) (ones lows : ℕ) (owed : List ErrorEvent) (levels : List Bool) →
    IsPassive owes ones lows owed levels → 5 ≤ lows →
    owed_events owed (levels ++ false ∷ []) ≡ owed_events owed levels
owes_no_more true ones lows owed levels h full = absurd (omega (arith, h.none_yet refl, full))
owes_no_more false ones lows owed levels h full = h.owes_nothing refl (false ∷ [])

pub passive_ends_dominant : (role : Role) (owes : Bool) (ones lows now : ℕ) (e : ErrorState) → 5 ≤ lows →
    Goes (PassiveErrorFlag role owes ones lows) now e false (transition (AwaitingDelimiter PassiveError role 8 true)
    None)
passive_ends_dominant role owes ones lows now e full text at before phase part events clock err
    (in_passive owed levels h) =
    let six : EndsInSix (levels ++ false ∷ []) =
    suffix_run not false is_false (levels ++ false ∷ []) (omega (arith, zeros_more levels, h.zeros_is, full)) in
    is_over (Delimiter PassiveError role 0)
    (rw (listening_more, append-nil, ← owes_no_more owes ones lows owed levels h full)
    (passive_flagged owed role levels false h.without_six six)) (passive_waits role)
