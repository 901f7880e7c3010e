-- Flags, delimiters and intermission: how their levels determine where they end, and how.
use Rattle.std.proofs.Common.{◌≡◌, ℕ, zero, suc, ◌+◌, ◌<◌, cond, ◌||◌, Bool, true, false, not, List, [], ◌∷◌, ◌++◌}
use Rattle.std.proofs.Common.{length, refl, sym, ap, subst, arith, ◌∙◌}
use Rattle.std.specs.List.{list_any}
use Rattle.std.proofs.lemmas.List.{append_assoc, append_cancel_left, length-append, length-replicate}
use Rattle.std.proofs.lemmas.List.Folds.{list_any-append}
use Rattle.std.proofs.lemmas.Grind.{flat_map-append}
use Rattle.can_confinement.specs.declared.confinement.Role.{Role}
use Rattle.can_confinement.specs.declared.confinement.ErrorEvent.{ErrorEvent}
use Rattle.can_node.specs.declared.flag.FlagKind.{FlagKind}
use Rattle.can_node.specs.declared.outcome.ErrorKind.TheVariants.{Form}
use Rattle.can_node.specs.declared.outcome.Outcome.{Outcome}
use Rattle.can_node.specs.declared.outcome.Outcome.TheVariants.{Nothing, Errored}
use Rattle.can_confinement.specs.Confinement.{state_after}
use Rattle.can_node.specs.Pairs.{Pair, listening, recessive, dominant}
use Rattle.can_node.specs.Flags.{flag_bit, flag_bits, owed_events, dominant_end, dominant_events}
use Rattle.can_node.specs.Phases.{Phase, flag_of, suspends}
use Rattle.can_node.specs.Phases.Phase.{Idle, Take, OverloadFlag, Delimiter, Intermission, Suspend}
use Rattle.can_node.specs.Episodes.{Course, error_of}
use Rattle.can_node.specs.Episodes.Course.{delimited, truncated, overloaded, intermission_ended, intermission_suspended, pressed, hurried}
use Rattle.can_node.specs.Copies.{sampled_in}
use Rattle.can_node.proofs.OneSplitLists.{listening_front, listening_same, run_is, no_dominant, no_more_dominant}
use Rattle.can_node.proofs.OneSplitLists.{no_fewer_dominant}
use Rattle.can_node.proofs.OneSplitEvents.{StayOff, More, no_more, flag_bits_stay, SameEnd, same_end}

-- more levels of a flag that drives dominant
pub flag_bits_more : (role : Role) (levels more : List Bool) →
    More (flag_bits role levels) (flag_bits role (levels ++ more))
flag_bits_more role levels more = record {
  more = flag_bits role more;
  is = flat_map-append (flag_bit role) levels more;
  stays = flag_bits_stay role more;
}

pub flag_same : (kind : FlagKind) (role : Role) (levels others : List Bool) → levels ≡ others →
    SameEnd (flag_bits role levels) (flag_bits role others) Nothing Nothing
    (Delimiter kind role (dominant_end levels)) (Delimiter kind role (dominant_end others))
flag_same kind role levels others e = record {
  events_are = ap (flag_bits role) e;
  outcome_is = refl;
  next_is = ap (λ t. Delimiter kind role (dominant_end t)) e;
}

-- more levels of a passive error flag
owed_by : (first later : Bool) (owed : List ErrorEvent) → StayOff owed →
    More (cond first owed []) (cond (first || later) owed [])
owed_by true later owed stays = no_more owed
owed_by false true owed stays = record { more = owed; is = refl; stays = stays }
owed_by false false owed stays = no_more []

pub owed_more : (owed : List ErrorEvent) (levels more : List Bool) → StayOff owed →
    More (owed_events owed levels) (owed_events owed (levels ++ more))
owed_more owed levels more stays =
    subst (λ b. More (owed_events owed levels) (cond b owed [])) (sym (list_any-append not levels more))
    (owed_by (list_any not levels) (list_any not more) owed stays)

-- How a delimiter ends: so many dominant levels, a recessive one, and these.
pub data DelimiterEnd (before : List ErrorEvent) (kind : FlagKind) (role : Role) (run : ℕ) :
    (n : ℕ) → List Bool → List ErrorEvent → Outcome → Phase → Type 0 where
  was_whole : {n : ℕ} → DelimiterEnd before kind role run n (recessive 7) (dominant_events kind role run n) Nothing
      (Intermission role)
  was_truncated : {n : ℕ} (k : ℕ) → k < 6 → DelimiterEnd before kind role run n (recessive k ++ false ∷ [])
      (dominant_events kind role run n ++ error_of role ∷ []) (Errored Form)
      (flag_of (state_after (before ++ dominant_events kind role run n)) [] role)
  was_late : {n : ℕ} → DelimiterEnd before kind role run n (recessive 6 ++ false ∷ []) (dominant_events kind role run n)
      Nothing (OverloadFlag role)

pub record Delimited (before : List ErrorEvent) (kind : FlagKind) (role : Role) (run : ℕ) (pairs : List Pair)
    (events : List ErrorEvent) (outcome : Outcome) (next : Phase) : Type 0 where
  pub n : ℕ
  pub rest : List Bool
  pub is : pairs ≡ listening (dominant n ++ true ∷ rest)
  pub end : DelimiterEnd before kind role run n rest events outcome next

pub delimiter_end : {at : ℕ} {before : List ErrorEvent} {kind : FlagKind} {role : Role} {run : ℕ} {pairs : List Pair}
    {events : List ErrorEvent} {outcome : Outcome} {next : Phase} →
    Course at before (Delimiter kind role run) pairs events outcome next →
    Delimited before kind role run pairs events outcome next
delimiter_end (delimited kind role run n) = record { n = n; rest = recessive 7; is = refl; end = was_whole }
delimiter_end (truncated kind role run n zero some below) = absurd (omega (arith, some))
delimiter_end (truncated kind role run n (suc k) some below) = record {
  n = n;
  rest = recessive k ++ false ∷ [];
  is = ap listening (append_assoc (dominant n) (recessive (suc k)) (false ∷ []));
  end = was_truncated k (omega (arith, below));
}
delimiter_end (overloaded kind role run n) = record {
  n = n;
  rest = recessive 6 ++ false ∷ [];
  is = ap listening (append_assoc (dominant n) (recessive 7) (false ∷ []));
  end = was_late;
}

tails : (x y : Bool) (xs ys : List Bool) → x ∷ xs ≡ y ∷ ys → xs ≡ ys
tails x y xs ys e = cc e

end_same : {before : List ErrorEvent} {kind : FlagKind} {role : Role} {run n : ℕ} {rest others : List Bool}
    {events counted : List ErrorEvent} {outcome reported : Outcome} {next other : Phase} →
    DelimiterEnd before kind role run n rest events outcome next →
    DelimiterEnd before kind role run n others counted reported other → others ≡ rest →
    SameEnd events counted outcome reported next other
end_same was_whole was_whole e = same_end
end_same was_whole (was_truncated k few) e = absurd (no_dominant k 7 [] (sym e))
end_same was_whole was_late e = absurd (no_dominant 6 7 [] (sym e))
end_same (was_truncated k few) was_whole e = absurd (no_dominant k 7 [] e)
end_same (was_truncated k few) (was_truncated m below) e = same_end
end_same (was_truncated k few) was_late e = absurd (omega (arith, run_is true false 6 k [] [] (λ h. cc h) e, few))
end_same was_late was_whole e = absurd (no_dominant 6 7 [] e)
end_same was_late (was_truncated k few) e = absurd (omega (arith, run_is true false k 6 [] [] (λ h. cc h) e, few))
end_same was_late was_late e = same_end

-- equal pairs end a delimiter in one way
pub delimiter_same : {before : List ErrorEvent} {kind : FlagKind} {role : Role} {run : ℕ} {pairs more : List Pair}
    {events counted : List ErrorEvent} {outcome reported : Outcome} {next other : Phase} →
    Delimited before kind role run pairs events outcome next →
    Delimited before kind role run more counted reported other → more ≡ pairs →
    SameEnd events counted outcome reported next other
delimiter_same {before = before} {kind = kind} {role = role} {run = run} {counted = counted} {reported = reported}
    {other = other} h k e =
    let levels : dominant k.n ++ true ∷ k.rest ≡ dominant h.n ++ true ∷ h.rest =
    listening_same _ _ (sym k.is ∙ e ∙ h.is) in
    let same : k.n ≡ h.n = run_is false true k.n h.n k.rest h.rest (λ b. cc b) levels in
    let rest : k.rest ≡ h.rest =
    tails true true k.rest h.rest (append_cancel_left (dominant k.n) (true ∷ k.rest) (true ∷ h.rest)
    (levels ∙ ap (λ n. dominant n ++ true ∷ h.rest) (sym same))) in
    end_same h.end (subst (λ n. DelimiterEnd before kind role run n k.rest counted reported other) same k.end) rest

short_recessive : (k : ℕ) (rest : List Bool) → k < 8 → recessive k ≡ true ∷ rest →
    (j : ℕ) × (j < 7) × (recessive j ≡ rest)
short_recessive zero rest few e = absurd (cc e)
short_recessive (suc k) rest few e = (k, omega (arith, few), tails true true (recessive k) rest e)

end_over : {before : List ErrorEvent} {kind : FlagKind} {role : Role} {run n : ℕ} {rest : List Bool}
    {events : List ErrorEvent} {outcome : Outcome} {next : Phase} (j : ℕ) (more : List Bool) →
    DelimiterEnd before kind role run n rest events outcome next → j < 7 → recessive j ≡ rest ++ more → ⊥
end_over j more was_whole few e =
    omega (arith, few, ap length e, length-append (recessive 7) more, length-replicate j true)
end_over j more (was_truncated k below) few e = no_dominant k j more (e ∙ append_assoc (recessive k) (false ∷ []) more)
end_over j more was_late few e = no_dominant 6 j more e

-- what ends a delimiter is no part of one that goes on
pub delimiter_over : {before : List ErrorEvent} {kind : FlagKind} {role : Role} {run : ℕ} {pairs : List Pair}
    {events : List ErrorEvent} {outcome : Outcome} {next : Phase} (n k : ℕ) (r : List Pair) →
    Delimited before kind role run pairs events outcome next → k < 8 →
    listening (dominant n ++ recessive k) ≡ pairs ++ r → ⊥
delimiter_over n k r h few e =
    let more = sampled_in r in
    let levels : dominant n ++ recessive k ≡ dominant h.n ++ true ∷ (h.rest ++ more) =
    listening_front (dominant h.n ++ true ∷ h.rest) (dominant n ++ recessive k) r (e ∙ ap (λ p. p ++ r) h.is)
    ∙ append_assoc (dominant h.n) (true ∷ h.rest) more in
    let up = no_more_dominant h.n n k (true ∷ (h.rest ++ more)) levels in
    let down = no_fewer_dominant h.n n (h.rest ++ more) (recessive k) levels in
    let same : h.n ≡ n = omega (arith, up, down) in
    let j = short_recessive k (h.rest ++ more) few (append_cancel_left (dominant n) (recessive k)
    (true ∷ (h.rest ++ more)) (levels ∙ ap (λ m. dominant m ++ true ∷ (h.rest ++ more)) same)) in
    end_over j.0 more h.end j.1 j.2

-- what comes behind an intermission with these levels
pub intermission_next : ℕ → Role → List ErrorEvent → List Bool → Phase
intermission_next at role before (first ∷ second ∷ true ∷ []) = cond (suspends role (state_after before)) Suspend Idle
intermission_next at role before (first ∷ second ∷ false ∷ []) =
    Take (at + 2) (false ∷ []) (not (suspends role (state_after before)))
intermission_next at role before levels = OverloadFlag role

pub record IntermissionEnd (at : ℕ) (role : Role) (before : List ErrorEvent) (pairs : List Pair) (events : List ErrorEvent)
    (outcome : Outcome) (next : Phase) : Type 0 where
  pub events_are : events ≡ []
  pub outcome_is : outcome ≡ Nothing
  pub next_is : next ≡ intermission_next at role before (sampled_in pairs)

pub intermission_end : {at : ℕ} {before : List ErrorEvent} {role : Role} {pairs : List Pair} {events : List ErrorEvent}
    {outcome : Outcome} {next : Phase} →
    Course at before (Intermission role) pairs events outcome next → IntermissionEnd at role before pairs events outcome next
unfolding intermission_next
intermission_end (intermission_ended role goes) =
    record { events_are = refl; outcome_is = refl; next_is = ap (λ b. cond b Suspend Idle) (sym goes) }
intermission_end (intermission_suspended role waits) =
    record { events_are = refl; outcome_is = refl; next_is = ap (λ b. cond b Suspend Idle) (sym waits) }
intermission_end (pressed role zero below) = record { events_are = refl; outcome_is = refl; next_is = refl }
intermission_end (pressed role (suc zero) below) = record { events_are = refl; outcome_is = refl; next_is = refl }
intermission_end (pressed role (suc (suc k)) below) = absurd (omega (arith, below))
intermission_end (hurried role) = record { events_are = refl; outcome_is = refl; next_is = refl }

pub intermission_same : {at : ℕ} {before : List ErrorEvent} {role : Role} {pairs more : List Pair}
    {events counted : List ErrorEvent} {outcome reported : Outcome} {next other : Phase} →
    IntermissionEnd at role before pairs events outcome next → IntermissionEnd at role before more counted reported other → more ≡ pairs →
    SameEnd events counted outcome reported next other
intermission_same {at = at} {before = before} {role = role} h k e = record {
  events_are = h.events_are ∙ sym k.events_are;
  outcome_is = h.outcome_is ∙ sym k.outcome_is;
  next_is = h.next_is ∙ ap (λ p. intermission_next at role before (sampled_in p)) (sym e) ∙ sym k.next_is;
}
