-- Laws of what is among numbers.
use Rattle.std.proofs.Common.{◌≡◌, ◌≢◌, ℕ, ◌==◌, ◌||◌, Bool, true, false, cond, inl, inr, List, [], ◌∷◌, ◌++◌, fold}
use Rattle.std.proofs.Common.{get_or, AllPairs, arith, refl, ap}
use Rattle.std.proofs.lemmas.Bool.{eq-eqb}
use Rattle.std.proofs.lemmas.List.Quantifiers.{all_pairs_push}
use Rattle.std.specs.List.{list_any}
use Rattle.bx_core.specs.declared.entry.Entry.{Entry}
use Rattle.bx_core.specs.Lists.{Each, Has}
use Rattle.bx_core.specs.States.{numbers}
use Rattle.bx_core.proofs.Words.{each-append}
use Rattle.gw_config.proofs.SoundLaws.{none_passes}
use Rattle.gw_ending.specs.Headline.{is_among}
use Rattle.gw_ending.specs.Links.{settle, settled}

pub any-number : (es : List Entry) (n : ℕ) → list_any (λ (e : Entry). e.number == n) es ≡ is_among (numbers es) n
any-number [] n = refl
any-number (e ∷ es) n = ap (λ b. (e.number == n) || b) (any-number es n)

settle_apart : (so_far : List ℕ) (n : ℕ) (a b : Bool) → is_among so_far n ≡ b →
    AllPairs (λ number later. number ≢ later) so_far →
    AllPairs (λ number later. number ≢ later) (cond a so_far (cond b so_far (so_far ++ n ∷ [])))
settle_apart so_far n true b new apart = apart
settle_apart so_far n false true new apart = apart
settle_apart so_far n false false new apart = all_pairs_push (λ number later. number ≢ later) so_far n apart
    (λ k d lt same. none_passes (λ x. x == n) so_far k d new lt (eq-eqb (get_or so_far k d) n same))

settled_apart_from : (ended so_far logged : List ℕ) → AllPairs (λ number later. number ≢ later) so_far →
    AllPairs (λ number later. number ≢ later) (fold (settle ended) so_far logged)
settled_apart_from ended so_far [] apart = apart
settled_apart_from ended so_far (n ∷ more) apart = settled_apart_from ended (settle ended so_far n) more
    (settle_apart so_far n (is_among ended n) (is_among so_far n) refl apart)

-- no number counts twice
pub settled_apart : (ended logged : List ℕ) → AllPairs (λ number later. number ≢ later) (settled ended logged)
settled_apart ended logged = settled_apart_from ended [] logged (λ i j d less within. absurd (omega (arith, within)))

settle_each : (P : ℕ → Type 0) (so_far : List ℕ) (n : ℕ) (a b : Bool) → Each P so_far → P n →
    Each P (cond a so_far (cond b so_far (so_far ++ n ∷ [])))
settle_each P so_far n true b all here = all
settle_each P so_far n false true all here = all
settle_each P so_far n false false all here = each-append P so_far (n ∷ []) all (here, tt)

settled_each : (P : ℕ → Type 0) (ended so_far logged : List ℕ) → Each P so_far → Each P logged →
    Each P (fold (settle ended) so_far logged)
settled_each P ended so_far [] all more = all
settled_each P ended so_far (n ∷ logged) all more = settled_each P ended (settle ended so_far n) logged
    (settle_each P so_far n (is_among ended n) (is_among so_far n) all more.0) more.1

-- what holds of all that is in a list
pub each_from : {X : Type 0} (P : X → Type 0) (xs : List X) → ((x : X) → Has xs x → P x) → Each P xs
each_from P [] all = tt
each_from P (x ∷ xs) all = (all x (inl refl), each_from P xs (λ y has. all y (inr has)))

-- and only numbers of the log do
pub settled_logged : (ended logged : List ℕ) → Each (Has logged) (settled ended logged)
settled_logged ended logged =
    settled_each (Has logged) ended [] logged tt (each_from (Has logged) logged (λ n has. has))
