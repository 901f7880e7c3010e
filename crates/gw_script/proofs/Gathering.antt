-- Laws of a text that is gathered piece by piece, and written from time to time.
use Rattle.std.proofs.Common.{◌≡◌, ◌∙◌, refl, sym, ap, subst, ℕ, ◌+◌, ◌<◌, Option, List, [], ◌++◌, length, take, drop}
use Rattle.std.proofs.Common.{Some, slice_get, get_or, append_assoc, Result, Ok, Err, OnOk, OnErr}
use Rattle.std.proofs.lemmas.List.{append-nil}
use Rattle.std.proofs.lemmas.Option.{get_or_from_slice_get, slice_get_within}
use Rattle.std.specs.Io.KnownBytes.{Appends}
use Rattle.std.specs.List.{flat_map}
use Rattle.gw_streams.proofs.Outputs.{appends_none, appends_on, front_written}
use Rattle.gw_script.specs.Gathering.{IsGathered}
use Rattle.gw_script.specs.Lines.{lines_from}
use Rattle.gw_script.proofs.LineLaws.{flat-step, lines-step}

-- before anything
pub gathered-none : (known : Option (List ℕ)) (text rest : List ℕ) → text ≡ [] → IsGathered known known text rest rest
gathered-none known text rest none = record {
  front = [];
  written = appends_none known;
  whole_is = ap (λ t. t ++ rest) none;
}

-- what is said of one element more was gathered
pub gathered-more : {A : Type 0} (said : A → List ℕ) (xs : List A) (i : ℕ) (x : A) (old now : Option (List ℕ))
    (text new whole : List ℕ) → i < length xs → x ≡ get_or xs i x → new ≡ text ++ said x →
    IsGathered old now text (flat_map said (drop i xs)) whole →
    IsGathered old now new (flat_map said (drop (i + 1) xs)) whole
gathered-more said xs i x old now text new whole lt is new_is g = record {
  front = g.front;
  written = g.written;
  whole_is = ap (λ t. g.front ++ t) (flat-step said xs i x text new lt is new_is) ∙ g.whole_is;
}

-- what is said of the next element is what was gathered
pub gathered-next : {A : Type 0} (said : ℕ → A → List ℕ) (xs : List A) (i : ℕ) (x : A) (old now : Option (List ℕ))
    (whole : List ℕ) → slice_get xs i ≡ Some x → IsGathered old now [] (lines_from said i (drop i xs)) whole →
    IsGathered old now (said i x) (lines_from said (i + 1) (drop (i + 1) xs)) whole
gathered-next said xs i x old now whole here g = record {
  front = g.front;
  written = g.written;
  whole_is = ap (λ t. g.front ++ t)
      (lines-step said xs i x [] (said i x) (slice_get_within xs i x here) (sym (get_or_from_slice_get xs i x x here))
      refl)
      ∙ g.whole_is;
}

-- it was written
pub gathered-written : (old now new : Option (List ℕ)) (text rest whole : List ℕ) → IsGathered old now text rest whole →
    Appends now new text → IsGathered old new [] rest whole
gathered-written old now new text rest whole g more = record {
  front = g.front ++ text;
  written = appends_on old now new g.front text g.written more;
  whole_is = append_assoc g.front text rest ∙ g.whole_is;
}

-- or a front of it
pub gathered-front : (old now new : Option (List ℕ)) (text rest whole : List ℕ) → IsGathered old now text rest whole →
    ((n : ℕ) × Appends now new (take n text)) → (n : ℕ) × Appends old new (take n whole)
gathered-front old now new text rest whole g begun =
    front_written old now new g.front text rest whole g.written begun g.whole_is

-- a front of the first part of a whole is a front of it
pub begins-first : (old new : Option (List ℕ)) (xs ys whole : List ℕ) → xs ++ ys ≡ whole →
    ((n : ℕ) × Appends old new (take n xs)) → (n : ℕ) × Appends old new (take n whole)
begins-first old new xs ys whole is =
    gathered-front old old new xs ys whole (record { front = []; written = appends_none old; whole_is = is })

-- so is the first part and a front of the second
pub begins-next : (old now new : Option (List ℕ)) (xs ys whole : List ℕ) → xs ++ ys ≡ whole → Appends old now xs →
    ((n : ℕ) × Appends now new (take n ys)) → (n : ℕ) × Appends old new (take n whole)
begins-next old now new xs ys whole is written =
    gathered-front old now new ys [] whole
    (record { front = xs; written = written; whole_is = ap (λ t. xs ++ t) (append-nil ys) ∙ is })

-- what a result is said to have
pub on-ok : {A E : Type 0} (r : Result A E) (P Q R : Type 0) → (P → Q → R) → OnOk r P → OnOk r Q → OnOk r R
on-ok (Ok a) P Q R f p q = f p q
on-ok (Err e) P Q R f p q = tt

pub on-err : {A E : Type 0} (r : Result A E) (P Q : Type 0) → (P → Q) → OnErr r P → OnErr r Q
on-err (Ok a) P Q f p = tt
on-err (Err e) P Q f p = f p

pub at-err : {A E : Type 0} (r : Result A E) (P : Type 0) → P → OnErr r P
at-err (Ok a) P p = tt
at-err (Err e) P p = p
