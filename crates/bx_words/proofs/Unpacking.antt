-- From payload words back to their frame.
use Rattle.std.proofs.Common.{◌≡◌, ◌∙◌, ap, refl, ℕ, zero, suc, ◌-◌, ◌<◌, ◌≤◌, List, [], ◌∷◌, ◌++◌}
use Rattle.std.proofs.Common.{length, take, get_or, replicate, Result, Ok, Err, true, false, arith, lit<, length-append}
use Rattle.std.proofs.lemmas.Nat.{le_bytes_8}
use Rattle.std.proofs.lemmas.List.{length-replicate}
use Rattle.std.proofs.Math.Seq.{take-append_seam}
use Rattle.std.specs.Int.{to_le_bytes, w64}
use Rattle.std.specs.Prelude.{MatchResult}
use Rattle.std.specs.Result.{ResultUnwrapsOrElse}
use Rattle.can_frame.specs.Frames.{Identifier, Content, FrameValue, AllBytes, AreBytes, data_bytes, remote_code}
use Rattle.can_frame.specs.Fields.{is_remote, length_code, bytes_of}
use Rattle.bx_words.specs.Payloads.{little_endian}

zeros_fit : (k i : ℕ) → get_or (replicate k 0) i 0 < 256
zeros_fit zero i = lit< tt
zeros_fit (suc k) zero = lit< tt
zeros_fit (suc k) (suc i) = zeros_fit k i

bytes_fit : (all : List ℕ) (k i : ℕ) → AllBytes all → get_or (all ++ replicate k 0) i 0 < 256
bytes_fit [] k i are = zeros_fit k i
bytes_fit (b ∷ bs) k zero are = are.0
bytes_fit (b ∷ bs) k (suc i) are = bytes_fit bs k i are.1

-- the first so many bytes of a word are those that were put there
pub first_bytes : (all : List ℕ) → AllBytes all → length all ≤ 8 →
    take (length all) (to_le_bytes w64 (little_endian all)) ≡ all
first_bytes all are few =
    let k = 8 - length all in
    let long : length (all ++ replicate k 0) ≡ 8 =
    omega (arith, length-append all (replicate k 0), length-replicate {A = ℕ} k 0) in
    ap (take (length all)) (le_bytes_8 (all ++ replicate k 0) (little_endian all) long
    (λ i. bytes_fit all k i are) refl)
    ∙ take-append_seam all (replicate k 0)

-- a data frame of at most eight bytes is made
pub made : {E : Type 0} (r : Result FrameValue E) (Q : E → Type 0) (id : Identifier) (bytes all : List ℕ) →
    bytes ≡ all → length all ≤ 8 →
    MatchResult r (λ frame. (length bytes ≤ 8) × (frame ≡ record { id = id; content = data_bytes bytes }))
    (λ e. (8 < length bytes) × Q e) →
    r ≡ Ok (record { id = id; content = data_bytes all })
made (Ok frame) Q id bytes all same few h = ap Ok (h.1 ∙ ap (λ bs. record { id = id; content = data_bytes bs }) same)
made (Err e) Q id bytes all same few h = let e = ap length same in let long = h.0 in absurd (omega (arith, e, long))

-- a remote frame is made
pub made_remote : {E : Type 0} (r : Result FrameValue E) (Q : E → Type 0) (id : Identifier) (code : ℕ) → code ≤ 8 →
    MatchResult r (λ frame. (code ≤ 8) × (frame ≡ record { id = id; content = remote_code code }))
    (λ e. (8 < code) × Q e) →
    r ≡ Ok (record { id = id; content = remote_code code })
made_remote (Ok frame) Q id code few h = ap Ok h.1
made_remote (Err e) Q id code few h = let long = h.0 in absurd (omega (arith, long))

remote_is : (content : Content) → is_remote content ≡ true → remote_code (length_code content) ≡ content
remote_is (data_bytes bytes) e = cc
remote_is (remote_code code) e = refl

data_is : (content : Content) → is_remote content ≡ false → data_bytes (bytes_of content) ≡ content
data_is (data_bytes bytes) e = refl
data_is (remote_code code) e = cc

pub code_is : (content : Content) → is_remote content ≡ false → length_code content ≡ length (bytes_of content)
code_is (data_bytes bytes) e = refl
code_is (remote_code code) e = cc

pub bytes_are : (content : Content) → AreBytes content → AllBytes (bytes_of content)
bytes_are (data_bytes bytes) are = are
bytes_are (remote_code code) are = tt

-- the parts are those of the frame
pub remote_frame : (f : FrameValue) (id : Identifier) (code : ℕ) → is_remote f.content ≡ true → id ≡ f.id →
    code ≡ length_code f.content →
    record { id = id; content = remote_code code } ≡ f
remote_frame f id code remote id_is code_is =
    ap (λ i. record { id = i; content = remote_code code }) id_is
    ∙ ap (λ n. record { id = f.id; content = remote_code n }) code_is
    ∙ ap (λ content. record { id = f.id; content = content }) (remote_is f.content remote)

pub data_frame : (f : FrameValue) (id : Identifier) → is_remote f.content ≡ false → id ≡ f.id →
    record { id = id; content = data_bytes (bytes_of f.content) } ≡ f
data_frame f id remote id_is =
    ap (λ i. record { id = i; content = data_bytes (bytes_of f.content) }) id_is
    ∙ ap (λ content. record { id = f.id; content = content }) (data_is f.content remote)

-- what was made is given
pub given : {T E : Type 0} (r : Result T E) (P : T → Type 0) (x v : T) → ResultUnwrapsOrElse r P x → r ≡ Ok v → x ≡ v
given (Ok y) P x v h e = cc
given (Err f) P x v h e = cc
