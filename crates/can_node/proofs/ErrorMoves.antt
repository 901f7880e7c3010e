-- The branches of a delimiter, and the beginnings of error flags.
use Rattle.std.proofs.Common.{◌≡◌, ℕ, ◌+◌, ◌<◌, ◌≤◌, cond, Bool, true, false, not, Some, None, List, [], ◌∷◌, ◌++◌}
use Rattle.std.proofs.Common.{length, replicate, refl, ap, subst, arith, length-append}
use Rattle.std.proofs.lemmas.List.{append_assoc, append-nil, replicate_more}
use Rattle.std.specs.List.{list_any}
use Rattle.can_confinement.specs.declared.confinement.Role.{Role}
use Rattle.can_confinement.specs.declared.confinement.Role.TheVariants.{Sender}
use Rattle.can_confinement.specs.declared.confinement.ErrorEvent.{ErrorEvent}
use Rattle.can_confinement.specs.declared.confinement.ErrorEvent.TheVariants.{SenderError}
use Rattle.can_confinement.specs.declared.confinement.ErrorState.{ErrorState}
use Rattle.can_node.specs.declared.flag.FlagKind.TheVariants.{ActiveError, Overload}
use Rattle.can_node.specs.declared.outcome.ErrorKind.TheVariants.{Form}
use Rattle.can_node.specs.declared.outcome.Outcome.TheVariants.{Errored}
use Rattle.can_node.specs.declared.state.State.{State}
use Rattle.can_node.specs.declared.state.State.TheVariants.{DominantFlag, PassiveErrorFlag, InDelimiter, InIntermission}
use Rattle.can_node.specs.declared.state.State.TheVariants.{BusOffRecovery}
use Rattle.can_node.specs.Flags.{EndsInSix}
use Rattle.can_node.specs.Waits.Broken.{none}
use Rattle.can_node.specs.Waits.Recoveries.{no_run}
use Rattle.can_node.specs.Phases.{flag_of}
use Rattle.can_node.specs.Phases.Phase.{ActiveFlag, OverloadFlag, PassiveFlag, Intermission, BusOff}
use Rattle.can_node.specs.Episodes.{error_of}
use Rattle.can_node.specs.Episodes.Course.{delimited, truncated, overloaded}
use Rattle.can_node.specs.Machine.{Agrees, Goes}
use Rattle.can_node.specs.Machine.Agrees.{in_active, in_passive, in_delimiter, in_intermission, in_off}
use Rattle.can_node.specs.Machine.Lands.{goes_on, is_over}
use Rattle.can_node.proofs.Moves.{transition, listening_more, overload_begins}

pub active_begins : (role : Role) (text : List Bool) (later : ℕ) →
    Agrees (DominantFlag ActiveError role 0 14) text later (ActiveFlag role) [] []
active_begins role text later = in_active [] refl (omega arith) refl (omega arith)

nothing_owed : (b c : Bool) → cond b (let none : List ErrorEvent = [] in none) [] ≡ cond c [] []
nothing_owed true true = refl
nothing_owed true false = refl
nothing_owed false true = refl
nothing_owed false false = refl

no_six : (beginning more : List Bool) → [] ≡ beginning ++ more → EndsInSix beginning → ⊥
no_six beginning more e (v, b, is) =
    omega (arith, ap length e, length-append beginning more, ap length is, length-append v (replicate 6 b))

pub passive_begins : (role : Role) (text : List Bool) (later : ℕ) →
    Agrees (PassiveErrorFlag role false 0 0) text later (PassiveFlag [] role) [] []
passive_begins role text later = in_passive [] [] (record {
  without_six = no_six;
  ones_is = refl;
  zeros_is = refl;
  owes_error = λ yes. absurd (cc yes);
  none_yet = λ yes. refl;
  owes_nothing = λ no more. nothing_owed (list_any not more) false;
})

-- the flag of a passive sender that nobody acknowledged
pub owing_begins : (text : List Bool) (later : ℕ) →
    Agrees (PassiveErrorFlag Sender true 0 0) text later (PassiveFlag (SenderError ∷ []) Sender) [] []
owing_begins text later = in_passive (SenderError ∷ []) [] (record {
  without_six = no_six;
  ones_is = refl;
  zeros_is = refl;
  owes_error = λ yes. (refl, refl);
  none_yet = λ yes. refl;
  owes_nothing = λ no. absurd (cc no);
})

pub off_begins : (text : List Bool) (later : ℕ) → Agrees (BusOffRecovery 0 0) text later BusOff [] []
off_begins text later = in_off {runs = 0} {n = 0} [] [] (omega arith) no_run none (omega arith)

pub delimit_on : (role : Role) (k now : ℕ) (e : ErrorState) → k < 7 →
    Goes (InDelimiter role k) now e true (transition (InDelimiter role (k + 1)) None)
delimit_on role k now e room text at before phase part events clock err (in_delimiter kind run n some below) =
    goes_on (rw (listening_more, append_assoc, replicate_more, append-nil)
    (in_delimiter {k = k + 1} kind run n (omega arith) (omega arith))) refl

pub delimit_ends : (role : Role) (k now : ℕ) (e : ErrorState) → 7 ≤ k →
    Goes (InDelimiter role k) now e true (transition (InIntermission role 0) None)
delimit_ends role k now e full text at before phase part events clock err (in_delimiter kind run n some below) =
    let seven : k ≡ 7 = omega arith in
    is_over (Intermission role) (rw (seven, listening_more, append_assoc, append-nil) (delimited kind role run n))
    (λ later. in_intermission {k = 0} (omega arith))

pub delimit_truncated : (role : Role) (k now : ℕ) (e : ErrorState) (flag : State) → k < 7 →
    ((text : List Bool) (later : ℕ) → Agrees flag text later (flag_of e [] role) [] []) →
    Goes (InDelimiter role k) now e false (record {
      state = flag;
      event = Some (error_of role);
      outcome = Errored Form;
    })
delimit_truncated role k now e flag early begins text at before phase part events clock err
    (in_delimiter kind run n some below) =
    is_over (flag_of _ [] role) (rw listening_more (truncated kind role run n k some early))
    (subst (λ s. (later : ℕ) → Agrees flag (false ∷ []) later (flag_of s [] role) [] []) err (begins (false ∷ [])))

pub delimit_overload : (role : Role) (k now : ℕ) (e : ErrorState) → 7 ≤ k →
    Goes (InDelimiter role k) now e false (transition (DominantFlag Overload role 0 14) None)
delimit_overload role k now e full text at before phase part events clock err (in_delimiter kind run n some below) =
    let seven : k ≡ 7 = omega arith in
    is_over (OverloadFlag role) (rw (seven, listening_more, append-nil) (overloaded kind role run n))
    (overload_begins role)
