-- Workers' seats that come back to a pool.
use Rattle.std.proofs.Common.{◌≡◌, ℕ, suc, ◌+◌, ◌-◌, ◌≤◌, List, [], ◌∷◌, ◌++◌, refl, ap, arith}
use Rattle.bx_core.specs.Lists.{Each}
use Rattle.gw_site.specs.Pairs.{Pairs}
use Rattle.gw_pool.specs.declared.account.Account.{Account}
use Rattle.gw_pool.specs.Pool.{PoolPlace, account, weigh, places, IsEven, IsOwed}
use Rattle.gw_pool.proofs.Fair.{weigh-append}
use Rattle.gw_threads.specs.Retired.{AreRetired}

pub none_retired : (v : Account) → AreRetired 0 v v
none_retired v = record { parts_are = omega arith; even = λ h. omega arith }

pub one_retired : (count : ℕ) (old mid new seat : Account) →
    new ≡ account (mid.parts + seat.parts) (mid.put ++ seat.put) (mid.taken ++ seat.taken) → seat.parts ≡ 1 →
    IsEven seat →
    AreRetired count old mid → AreRetired (count + 1) old new
one_retired count old mid new seat is one even r = record {
  parts_are = omega (arith, ap (λ (v : Account). v.parts) is, one, r.parts_are);
  even = λ h. (
      let put = ap (λ (v : Account). weigh h v.put) is in
      let taken = ap (λ (v : Account). weigh h v.taken) is in
      omega (
        arith,
        put,
        taken,
        even h,
        r.even h,
        weigh-append h mid.put seat.put,
        weigh-append h mid.taken seat.taken,
      ));
}

-- what each thread kept of its start holds of what it gave
pub each_kept : {T : Type 0} (Kept : T → PoolPlace → Type 0) (P : PoolPlace → Type 0) (Q : T → Type 0) (ts : List T)
    (ss : List PoolPlace) →
    ((t : T) (s : PoolPlace) → Q t → Kept t s → P s) → Each Q ts → Pairs (λ k. Kept) ts ss → Each P ss
each_kept Kept P Q [] [] on each p = tt
each_kept Kept P Q [] (s ∷ ss) on each p = absurd (omega (arith, p.size))
each_kept Kept P Q (t ∷ ts) [] on each p = absurd (omega (arith, p.size))
each_kept Kept P Q (t ∷ ts) (s ∷ ss) on each p = (
  on t s each.0 (p.at 0 t s refl refl),
  each_kept Kept P Q ts ss on each.1
      (record { at = λ k a b e f. p.at (suc k) a b e f; size = omega (arith, p.size) }),
)

-- what is owed behind all that
pub owed_back : (n workers : ℕ) (dealt rest back : Account) → dealt ≡ account 1024 (places n) [] →
    rest ≡ account (dealt.parts - workers) dealt.put dealt.taken → AreRetired workers rest back → IsOwed n back
owed_back n workers dealt rest back start less r h =
    let put = ap (λ (v : Account). weigh h v.put) less in
    let taken = ap (λ (v : Account). weigh h v.taken) less in
    let put' = ap (λ (v : Account). weigh h v.put) start in
    let taken' = ap (λ (v : Account). weigh h v.taken) start in
    omega (arith, put, taken, put', taken', r.even h)

pub all_parts : (n workers : ℕ) (dealt rest back : Account) → dealt ≡ account 1024 (places n) [] →
    rest ≡ account (dealt.parts - workers) dealt.put dealt.taken → workers ≤ 16 → AreRetired workers rest back →
    back.parts ≡ 1024
all_parts n workers dealt rest back start less few r =
    let parts = ap (λ (v : Account). v.parts) less in
    let parts' = ap (λ (v : Account). v.parts) start in
    omega (arith, parts, parts', few, r.parts_are)
