-- The branches of flags and delimiters: what a sampled level makes of the state.
use Rattle.std.proofs.Common.{◌≡◌, ℕ, zero, suc, add-one, inl, inr, ◌+◌, ◌-◌, ◌*◌, ◌%◌, ◌<◌, ◌≤◌, ◌==◌, Bool, true}
use Rattle.std.proofs.Common.{false, Option, Some, None, List, [], ◌∷◌, ◌++◌, refl, sym, ap, arith, ◌∙◌, length-append}
use Rattle.std.proofs.lemmas.List.{append-nil, replicate_more, reverse-append}
use Rattle.std.proofs.lemmas.Grind.{flat_map-append}
use Rattle.std.proofs.lemmas.Bool.{le-leb, lt-leb}
use Rattle.std.proofs.lemmas.Nat.{mod-mul-add}
use Rattle.std.proofs.Math.Nat.{mul-mod_right, eq-zero-or-pos}
use Rattle.std.proofs.Math.Dec.{eqb-suc-zero}
use Rattle.can_confinement.specs.declared.confinement.Role.{Role}
use Rattle.can_confinement.specs.declared.confinement.ErrorEvent.{ErrorEvent}
use Rattle.can_confinement.specs.declared.confinement.ErrorEvent.TheVariants.{FlagBit, DominantRun}
use Rattle.can_confinement.specs.declared.confinement.ErrorState.{ErrorState}
use Rattle.can_node.specs.declared.flag.FlagKind.{FlagKind}
use Rattle.can_node.specs.declared.flag.FlagKind.TheVariants.{ActiveError, Overload}
use Rattle.can_node.specs.declared.state.State.TheVariants.{DominantFlag, AwaitingDelimiter, InDelimiter}
use Rattle.can_node.specs.Flags.{flag_bit, flag_bits, dominant_end, first_counted, is_counted, behind_flag}
use Rattle.can_node.specs.Flags.{dominant_event, dominant_events}
use Rattle.can_node.specs.Phases.Phase.{Delimiter}
use Rattle.can_node.specs.Episodes.Course.{flagged, overload_flagged}
use Rattle.can_node.specs.Machine.{Agrees, Goes, IsDue, listed}
use Rattle.can_node.specs.Machine.Agrees.{in_active, in_overload, in_wait, in_delimiter}
use Rattle.can_node.specs.Machine.Lands.{goes_on, is_over}
use Rattle.can_node.proofs.Moves.{transition, listening_more, dominating_more}

-- a dominant level makes the run at the end longer, and a recessive one ends it
end_dominant : (w : List Bool) → dominant_end (w ++ false ∷ []) ≡ dominant_end w + 1
end_dominant w = rw (reverse-append w (false ∷ [])) (omega arith)

end_recessive : (w : List Bool) → dominant_end (w ++ true ∷ []) ≡ 0
end_recessive w = rw (reverse-append w (true ∷ [])) refl

flag_bits_more : (role : Role) (w : List Bool) (level : Bool) → flag_bits role w
    ++ flag_bit role level ≡ flag_bits role (w ++ level ∷ [])
flag_bits_more role w level =
    sym (flat_map-append (flag_bit role) w (level ∷ []) ∙ ap (λ x. flag_bits role w ++ x) (append-nil _))

-- behind a flag that drives dominant
pub wait_begins : (kind : FlagKind) (role : Role) (run until later : ℕ) → first_counted kind ≡ 14 → run + until ≡ 14 →
    8 ≤ until →
    Agrees (AwaitingDelimiter kind role until true) (false ∷ []) later (Delimiter kind role run) [] []
unfolding dominant_events
wait_begins kind role run until later fourteen is far =
    in_wait run 0 refl (λ _. far) (record {
      eighths = 0;
      due = omega (arith, fourteen, is);
      some = omega arith;
      near = λ no. absurd (no refl);
    })

pub flag_bit_on : (kind : FlagKind) (role : Role) (sent until now : ℕ) (e : ErrorState) → sent < 5 →
    Goes (DominantFlag kind role sent until) now e true (transition (DominantFlag kind role (sent + 1) 14) (Some
    (FlagBit role)))
flag_bit_on kind role sent until now e room text at before phase part events clock err
    (in_active levels size below runs few) =
    goes_on (rw (dominating_more, flag_bits_more role levels true)
    (in_active {sent = sent + 1} {until = 14} (levels ++ true ∷ [])
    (omega (arith, size, length-append levels (true ∷ []))) (omega arith)
    (omega (arith, end_recessive levels)) (omega (arith, end_recessive levels)))) refl
flag_bit_on kind role sent until now e room text at before phase part events clock err
    (in_overload levels size below runs few) =
    goes_on (rw (dominating_more, flag_bits_more role levels true)
    (in_overload {sent = sent + 1} {until = 14} (levels ++ true ∷ [])
    (omega (arith, size, length-append levels (true ∷ []))) (omega arith)
    (omega (arith, end_recessive levels)) (omega (arith, end_recessive levels)))) refl

pub flag_on : (kind : FlagKind) (role : Role) (sent until now : ℕ) (e : ErrorState) → sent < 5 →
    Goes (DominantFlag kind role sent until) now e false (transition (DominantFlag kind role (sent + 1) (until - 1))
    None)
flag_on kind role sent until now e room text at before phase part events clock err
    (in_active levels size below runs few) =
    goes_on (rw (dominating_more, flag_bits_more role levels false)
    (in_active {sent = sent + 1} {until = until - 1} (levels ++ false ∷ [])
    (omega (arith, size, length-append levels (false ∷ []))) (omega arith)
    (omega (arith, end_dominant levels, runs, few)) (omega (arith, end_dominant levels, few)))) refl
flag_on kind role sent until now e room text at before phase part events clock err
    (in_overload levels size below runs few) =
    goes_on (rw (dominating_more, flag_bits_more role levels false)
    (in_overload {sent = sent + 1} {until = until - 1} (levels ++ false ∷ [])
    (omega (arith, size, length-append levels (false ∷ []))) (omega arith)
    (omega (arith, end_dominant levels, runs, few)) (omega (arith, end_dominant levels, few)))) refl

pub flag_bit_last : (kind : FlagKind) (role : Role) (sent until now : ℕ) (e : ErrorState) → 5 ≤ sent →
    Goes (DominantFlag kind role sent until) now e true (transition (AwaitingDelimiter kind role 14 true) (Some (FlagBit
    role)))
flag_bit_last kind role sent until now e full text at before phase part events clock err
    (in_active levels size below runs few) =
    is_over (Delimiter ActiveError role (dominant_end (levels ++ true ∷ [])))
    (rw (dominating_more, flag_bits_more role levels true)
    (flagged role (levels ++ true ∷ []) (omega (arith, size, length-append levels (true ∷ [])))))
    (λ later. wait_begins ActiveError role _ 14 later refl (omega (arith, end_recessive levels)) (omega arith))
flag_bit_last kind role sent until now e full text at before phase part events clock err
    (in_overload levels size below runs few) =
    is_over (Delimiter Overload role (dominant_end (levels ++ true ∷ [])))
    (rw (dominating_more, flag_bits_more role levels true)
    (overload_flagged role (levels ++ true ∷ []) (omega (arith, size, length-append levels (true ∷ [])))))
    (λ later. wait_begins Overload role _ 14 later refl (omega (arith, end_recessive levels)) (omega arith))

pub flag_last : (kind : FlagKind) (role : Role) (sent until now : ℕ) (e : ErrorState) → 5 ≤ sent →
    Goes (DominantFlag kind role sent until) now e false (transition (AwaitingDelimiter kind role (until - 1) true)
    None)
flag_last kind role sent until now e full text at before phase part events clock err
    (in_active levels size below runs few) =
    is_over (Delimiter ActiveError role (dominant_end (levels ++ false ∷ [])))
    (rw (dominating_more, flag_bits_more role levels false)
    (flagged role (levels ++ false ∷ []) (omega (arith, size, length-append levels (false ∷ [])))))
    (λ later. wait_begins ActiveError role _ (until - 1) later refl (omega (arith, end_dominant levels, runs, few))
    (omega (arith, runs, few)))
flag_last kind role sent until now e full text at before phase part events clock err
    (in_overload levels size below runs few) =
    is_over (Delimiter Overload role (dominant_end (levels ++ false ∷ [])))
    (rw (dominating_more, flag_bits_more role levels false)
    (overload_flagged role (levels ++ false ∷ []) (omega (arith, size, length-append levels (false ∷ [])))))
    (λ later. wait_begins Overload role _ (until - 1) later refl (omega (arith, end_dominant levels, runs, few))
    (omega (arith, runs, few)))

pos_not_zero : (n : ℕ) → 0 < n → (n == 0) ≡ false
pos_not_zero zero some = absurd (omega (arith, some))
pos_not_zero (suc n) some = eqb-suc-zero n

-- the events of one more dominant sample behind a flag
one_more_dominant : (kind : FlagKind) (role : Role) (run n : ℕ) → dominant_events kind role run n
    ++ dominant_event kind role run n ≡ dominant_events kind role run (n + 1)
unfolding dominant_events
one_more_dominant kind role run n = rw (add-one n) refl

-- a sample that is due is counted
due_is_counted : (kind : FlagKind) (run n until : ℕ) → IsDue kind run n until → until ≤ 1 →
    is_counted kind (run + n + 1) ≡ true
due_is_counted kind run n until due now =
    let over : (run + n + 1) - first_counted kind ≡ 8 * due.eighths = omega (arith, due.due, due.some) in
    rw (over, mul-mod_right 8 due.eighths, le-leb (first_counted kind) (run + n + 1) (omega (arith, due.due, due.some)))
    refl

-- one that is not due is not
early_is_not : (kind : FlagKind) (run n until : ℕ) → IsDue kind run n until → 1 < until →
    is_counted kind (run + n + 1) ≡ false
early_is_not kind run n until due later = elim (eq-zero-or-pos due.eighths) [
  | inl none ↦ (let below : run + n + 1 < first_counted kind = omega (arith, due.due, later, none) in
      rw (lt-leb (first_counted kind) (run + n + 1) below) refl)
  | inr some ↦ (let close : until ≤ 8 = due.near (λ none. omega (arith, some, none)) in
      let over : (run + n + 1) - first_counted kind ≡ (due.eighths - 1) * 8 + (9 - until) =
      omega (arith, due.due, later, some, close) in
      let rest : ((due.eighths - 1) * 8 + (9 - until)) % 8 ≡ 9 - until =
      mod-mul-add (due.eighths - 1) 8 (9 - until) (omega (arith, later)) in
      rw (
        over,
        rest,
        pos_not_zero (9 - until) (omega (arith, close)),
        le-leb (first_counted kind) (run + n + 1) (omega (arith, due.due, close, some)),
      ) refl)
]

pub wait_over : (kind : FlagKind) (role : Role) (until now : ℕ) (first : Bool) (e : ErrorState) →
    Goes (AwaitingDelimiter kind role until first) now e true (transition (InDelimiter role 1) None)
wait_over kind role until now first e text at before phase part events clock err (in_wait run n is far due) =
    goes_on (rw (listening_more, append-nil) (in_delimiter {k = 1} kind run n (omega arith) (omega arith))) refl

-- one more dominant sample, with what it counts
wait_longer : (kind : FlagKind) (role : Role) (until next now : ℕ) (first : Bool) (e : ErrorState)
    (event : Option ErrorEvent) →
    ((run n : ℕ) → first ≡ (n == 0) → (n ≡ 0 → 8 ≤ until) → IsDue kind run n until →
    (listed event ≡ dominant_event kind role run n) × IsDue kind run (n + 1) next) →
    Goes (AwaitingDelimiter kind role until first) now e false (transition (AwaitingDelimiter kind role next false)
    event)
wait_longer kind role until next now first e event step text at before phase part events clock err
    (in_wait run n is far due) =
    let x : (listed event ≡ dominant_event kind role run n) × IsDue kind run (n + 1) next = step run n is far due in
    goes_on (rw (listening_more, replicate_more, x.0, one_more_dominant kind role run n)
    (in_wait {until = next} {first = false} run (n + 1) (sym (pos_not_zero (n + 1) (omega arith)))
    (λ no. absurd (omega (arith, no))) x.1)) refl

pub wait_run : (kind : FlagKind) (role : Role) (until now : ℕ) (first : Bool) (e : ErrorState) → until ≤ 1 →
    Goes (AwaitingDelimiter kind role until first) now e false (transition (AwaitingDelimiter kind role 8 false) (Some
    (DominantRun role)))
wait_run kind role until now first e here =
    wait_longer kind role until 8 now first e (Some (DominantRun role)) (λ run n is far due.
    let later : 0 < n =
    elim (eq-zero-or-pos n) [ inl none ↦ absurd (omega (arith, far none, here)) | inr some ↦ some ] in (
      rw (pos_not_zero n later, due_is_counted kind run n until due here) refl,
      record {
        eighths = due.eighths + 1;
        due = omega (arith, due.due, due.some, here);
        some = omega arith;
        near =
            λ no. omega arith;
      },
    ))

next_due : (kind : FlagKind) (run n until : ℕ) → 1 < until → IsDue kind run n until → IsDue kind run (n + 1) (until - 1)
next_due kind run n until later due = record {
  eighths = due.eighths;
  due = omega (arith, due.due, later);
  some = omega (arith, later);
  near = λ no. omega (arith, due.near no);
}

pub wait_first : (kind : FlagKind) (role : Role) (until now : ℕ) (e : ErrorState) (event : Option ErrorEvent) →
    1 < until → listed event ≡ behind_flag kind role →
    Goes (AwaitingDelimiter kind role until true) now e false (transition (AwaitingDelimiter kind role (until - 1)
    false) event)
wait_first kind role until now e event later is =
    wait_longer kind role until (until - 1) now true e event (λ run n first far due.
    (rw (sym first, early_is_not kind run n until due later, append-nil) is, next_due kind run n until later due))

pub wait_on : (kind : FlagKind) (role : Role) (until now : ℕ) (e : ErrorState) → 1 < until →
    Goes (AwaitingDelimiter kind role until false) now e false (transition (AwaitingDelimiter kind role (until - 1)
    false) None)
wait_on kind role until now e later = wait_longer kind role until (until - 1) now false e None (λ run n first far due.
    (rw (sym first, early_is_not kind run n until due later) refl, next_due kind run n until later due))
