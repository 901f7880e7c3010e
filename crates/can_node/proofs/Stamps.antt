-- The bits with which a history notes what it begins and what it reports: each is within its episode.
use Rattle.std.proofs.Common.{◌≡◌, inl, inr, ◌⊎◌, ℕ, zero, suc, ◌+◌, ◌-◌, ◌≤◌, Bool, true, List, [], ◌∷◌, ◌++◌, length}
use Rattle.std.proofs.Common.{sym, ap, subst, arith, ◌∙◌}
use Rattle.std.specs.List.{Contains}
use Rattle.std.proofs.lemmas.List.{append-nil, length-append, length-map}
use Rattle.std.proofs.lemmas.List.Elements.{Contains-append_cases}
use Rattle.can_frame.specs.Frames.{FrameValue}
use Rattle.can_confinement.specs.declared.confinement.ErrorEvent.{ErrorEvent}
use Rattle.can_node.specs.declared.outcome.Outcome.{Outcome}
use Rattle.can_node.specs.declared.outcome.Outcome.TheVariants.{Nothing, Took, Completed, Lost, Errored, WentOff}
use Rattle.can_node.specs.declared.outcome.Outcome.TheVariants.{CameBack}
use Rattle.can_node.specs.Pairs.{Pair, recessive}
use Rattle.can_node.specs.Phases.{Phase}
use Rattle.can_node.specs.Phases.Phase.{Sync, Idle, Send, Take, LastBit, ActiveFlag, OverloadFlag, PassiveFlag}
use Rattle.can_node.specs.Phases.Phase.{Delimiter, Intermission, Suspend, BusOff}
use Rattle.can_node.specs.Episodes.{Episode}
use Rattle.can_node.specs.Episodes.Course.{synced}
use Rattle.can_node.specs.Episodes.Episode.{ends, off_within, off_at_end}
use Rattle.can_node.specs.Histories.{Past, Whole, noted, begins}
use Rattle.can_node.specs.Histories.Whole.{switched_on, then}
use Rattle.can_node.specs.Splits.{Onward, Continues}
use Rattle.can_node.specs.Splits.Onward.{stays, goes_on}

pub one_noted : {X : Type 0} (x y : X) → Contains (x ∷ []) y → x ≡ y
one_noted x y (zero, within, e) = e
one_noted x y (suc k, within, e) = absurd (omega (arith, within))

same_pair : (a b : ℕ) (o r : Outcome) → ◌≡◌ {A = ℕ × Outcome} (a, o) (b, r) → (b ≡ a) × (o ≡ r)
same_pair a b o r e = (sym (ap (λ (p : ℕ × Outcome). p.0) e), ap (λ (p : ℕ × Outcome). p.1) e)

-- an outcome is noted with its own bit
pub noted_is : (at b : ℕ) (o outcome : Outcome) → Contains (noted at o) (b, outcome) → (b ≡ at) × (o ≡ outcome)
noted_is at b Nothing outcome c = absurd (omega (arith, c.1))
noted_is at b (Took start frame) outcome c = same_pair _ b _ outcome (one_noted _ _ c)
noted_is at b Completed outcome c = same_pair _ b _ outcome (one_noted _ _ c)
noted_is at b Lost outcome c = same_pair _ b _ outcome (one_noted _ _ c)
noted_is at b (Errored kind) outcome c = same_pair _ b _ outcome (one_noted _ _ c)
noted_is at b WentOff outcome c = same_pair _ b _ outcome (one_noted _ _ c)
noted_is at b CameBack outcome c = same_pair _ b _ outcome (one_noted _ _ c)

-- a frame begins with the first bit of its send
pub record BeginsAt (at b : ℕ) (phase : Phase) (frame : FrameValue) : Type 0 where
  pub start : ℕ
  pub given : List Bool
  pub bit_is : b ≡ at
  pub phase_is : phase ≡ Send start given frame

begins_send : (at b start : ℕ) (given : List Bool) (frame other : FrameValue) →
    ◌≡◌ {A = ℕ × FrameValue} (at, frame) (b, other) → BeginsAt at b (Send start given frame) other
begins_send at b start given frame other e = record {
  start = start;
  given = given;
  bit_is = sym (ap (λ (p : ℕ × FrameValue). p.0) e);
  phase_is = ap (λ (p : ℕ × FrameValue). Send start given p.1) e;
}

none_begins : {X : Type 0} (x : ℕ × FrameValue) → Contains [] x → X
none_begins x c = absurd (omega (arith, c.1))

pub begins_is : (at b : ℕ) (phase : Phase) (frame : FrameValue) → Contains (begins at phase) (b, frame) →
    BeginsAt at b phase frame
begins_is at b (Send start given frame) other c = begins_send at b start given frame other (one_noted _ _ c)
begins_is at b Sync other c = none_begins _ c
begins_is at b Idle other c = none_begins _ c
begins_is at b (Take start given may_begin) other c = none_begins _ c
begins_is at b LastBit other c = none_begins _ c
begins_is at b (ActiveFlag role) other c = none_begins _ c
begins_is at b (OverloadFlag role) other c = none_begins _ c
begins_is at b (PassiveFlag owed role) other c = none_begins _ c
begins_is at b (Delimiter kind role run) other c = none_begins _ c
begins_is at b (Intermission role) other c = none_begins _ c
begins_is at b Suspend other c = none_begins _ c
begins_is at b BusOff other c = none_begins _ c

-- a node that was switched on has made some bits when its first episode is over
sync_some : {at : ℕ} {before : List ErrorEvent} {pairs : List Pair} {events : List ErrorEvent} {outcome : Outcome}
    {next : Phase} →
    Episode at before Sync pairs events outcome next → 1 ≤ length pairs
sync_some (ends (synced broken b) on) =
    omega (
      arith,
      length-map {B = Pair} (broken ++ recessive 11) (λ (l : Bool). record { driven = true; sampled = l }),
      length-append broken (recessive 11),
    )
sync_some (off_within {pairs = pairs} pair event goes on more off) = omega (arith, length-append pairs (pair ∷ []))
sync_some (off_at_end {pairs = pairs} pair event goes on course off) = omega (arith, length-append pairs (pair ∷ []))

pub some_bits : {past : Past} {phase next : Phase} {pairs : List Pair} {events : List ErrorEvent} {outcome : Outcome} →
    Whole past phase →
    Episode (past.first + length past.pairs) past.events phase pairs events outcome next →
    1 ≤ length (past.pairs ++ pairs)
some_bits (switched_on first) episode = sync_some episode
some_bits {pairs = more} (then {past = past} {pairs = pairs} whole episode) last =
    omega (arith, some_bits whole episode, length-append (past.pairs ++ pairs) more)

-- what whole episodes report has a bit before their end
pub reported_before : {past : Past} {phase : Phase} (bit : ℕ) (outcome : Outcome) → Whole past phase →
    Contains past.outcomes (bit, outcome) → bit + 1 ≤ past.first + length past.pairs
reported_before bit outcome (switched_on first) c = absurd (omega (arith, c.1))
reported_before bit outcome (then {past = past} {pairs = pairs} {outcome = reported} whole episode) c =
    elim (Contains-append_cases past.outcomes (noted (past.first + length (past.pairs ++ pairs) - 1) reported)
    (bit, outcome) c) [
      | inl before ↦ omega (arith, reported_before bit outcome whole before, length-append past.pairs pairs)
      | inr now ↦ (let n = noted_is (past.first + length (past.pairs ++ pairs) - 1) bit reported outcome now in
          omega (arith, n.0, some_bits whole episode))
    ]

-- and what they begin stands no later than it
pub begun_before : {past : Past} {phase : Phase} (bit : ℕ) (frame : FrameValue) → Whole past phase →
    Contains past.begun (bit, frame) → bit ≤ past.first + length past.pairs
begun_before bit frame (switched_on first) c = absurd (omega (arith, c.1))
begun_before bit frame (then {past = past} {phase = phase} {pairs = pairs} whole episode) c =
    elim (Contains-append_cases past.begun (begins (past.first + length past.pairs) phase) (bit, frame) c) [
      | inl before ↦ omega (arith, begun_before bit frame whole before, length-append past.pairs pairs)
      | inr now ↦ (let b = begins_is (past.first + length past.pairs) bit phase frame now in
          omega (arith, b.bit_is, length-append past.pairs pairs))
    ]

-- what is reported after a place of the history comes no earlier than the bit before that place
reported_onward : {from to : Past} {phase last : Phase} (bit : ℕ) (outcome : Outcome) → Onward from phase to last →
    Contains to.outcomes (bit, outcome) →
    Contains from.outcomes (bit, outcome) ⊎ (from.first + length from.pairs ≤ bit + 1)
reported_onward bit outcome stays c = inl c
reported_onward bit outcome (goes_on {past = past} {pairs = pairs} {outcome = reported} episode onward) c =
    elim (reported_onward bit outcome onward c) [
      | inl here ↦ elim (Contains-append_cases past.outcomes
          (noted (past.first + length (past.pairs ++ pairs) - 1) reported) (bit, outcome) here) [
            | inl before ↦ inl before
            | inr now ↦ (let n = noted_is (past.first + length (past.pairs ++ pairs) - 1) bit reported outcome now in
                inr (omega (arith, n.0, length-append past.pairs pairs)))
          ]
      | inr later ↦ inr (omega (arith, later, length-append past.pairs pairs))
    ]

-- and what is begun there no earlier than that place
begun_onward : {from to : Past} {phase last : Phase} (bit : ℕ) (frame : FrameValue) → Onward from phase to last →
    Contains to.begun (bit, frame) →
    Contains from.begun (bit, frame) ⊎ (from.first + length from.pairs ≤ bit)
begun_onward bit frame stays c = inl c
begun_onward bit frame (goes_on {past = past} {phase = phase} {pairs = pairs} episode onward) c =
    elim (begun_onward bit frame onward c) [
      | inl here ↦ elim (Contains-append_cases past.begun (begins (past.first + length past.pairs) phase)
          (bit, frame) here) [
            | inl before ↦ inl before
            | inr now ↦ (let b = begins_is (past.first + length past.pairs) bit phase frame now in
                inr (omega (arith, b.bit_is)))
          ]
      | inr later ↦ inr (omega (arith, later, length-append past.pairs pairs))
    ]

-- it has made at least as many bits
longer : {from to : Past} {phase last : Phase} → Onward from phase to last →
    from.first + length from.pairs ≤ to.first + length to.pairs
longer stays = omega arith
longer (goes_on {past = past} {pairs = pairs} episode onward) =
    omega (arith, longer onward, length-append past.pairs pairs)

-- the same of a whole history behind a place of it
pub reported_behind : {from past : Past} {phase : Phase} (bit : ℕ) (outcome : Outcome) → Continues from phase past →
    Contains past.outcomes (bit, outcome) →
    Contains from.outcomes (bit, outcome) ⊎ (from.first + length from.pairs ≤ bit + 1)
reported_behind bit outcome h c =
    reported_onward bit outcome h.onward
    (subst (λ os. Contains os (bit, outcome)) (ap (λ (p : Past). p.outcomes) h.past_is ∙ append-nil h.to.outcomes)
    c)

pub begun_behind : {from past : Past} {phase : Phase} (bit : ℕ) (frame : FrameValue) → Continues from phase past →
    Contains past.begun (bit, frame) →
    Contains from.begun (bit, frame) ⊎ (from.first + length from.pairs ≤ bit)
begun_behind bit frame h c =
    elim (Contains-append_cases h.to.begun (begins (h.to.first + length h.to.pairs) h.last) (bit, frame)
    (subst (λ bs. Contains bs (bit, frame)) (ap (λ (p : Past). p.begun) h.past_is) c)) [
      | inl whole ↦ begun_onward bit frame h.onward whole
      | inr now ↦ (let b = begins_is (h.to.first + length h.to.pairs) bit h.last frame now in
          inr (omega (arith, b.bit_is, longer h.onward)))
    ]
