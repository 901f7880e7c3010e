-- Flags, and what is counted in and behind them. Bosch CAN Specification 2.0, part B, 3.2.3 ERROR FRAME,
-- 3.2.4 OVERLOAD FRAME and 8 FAULT CONFINEMENT.
use Rattle.std.specs.Prelude.{◌≡◌, ℕ, zero, suc, ◌+◌, ◌-◌, ◌%◌, ◌==◌, ◌&&◌, nat_le, not}
use Rattle.std.specs.Prelude.{Bool, true, false, List, [], ◌∷◌, ◌++◌, replicate, if◌then◌else◌}
use Rattle.std.specs.List.{flat_map, list_any, suffix_len}
use Rattle.can_node.specs.declared.flag.FlagKind.{FlagKind}
use Rattle.can_node.specs.declared.flag.FlagKind.TheVariants.{ActiveError, PassiveError, Overload}
use Rattle.can_confinement.specs.declared.confinement.Role.{Role}
use Rattle.can_confinement.specs.declared.confinement.Role.TheVariants.{Sender, Receiver}
use Rattle.can_confinement.specs.declared.confinement.ErrorEvent.{ErrorEvent}
use Rattle.can_confinement.specs.declared.confinement.ErrorEvent.TheVariants.{ReceiverDominant, FlagBit, DominantRun}

-- a recessive sample in a flag that drives dominant is counted, and the flag goes on
abbrev pub flag_bit : Role → Bool → List ErrorEvent
flag_bit role true = FlagBit role ∷ []
flag_bit role false = []

-- the bit errors of an active error flag or an overload flag that samples these levels
abbrev pub flag_bits : Role → List Bool → List ErrorEvent
flag_bits role = flat_map (flag_bit role)

-- the text ends in six equal levels
abbrev pub EndsInSix : List Bool → Type 0
EndsInSix text = (before : List Bool) × (level : Bool) × (text ≡ before ++ replicate 6 level)

-- no beginning of the text ends in six equal levels, so a passive error flag that samples it goes on
abbrev pub IsWithoutSix : List Bool → Type 0
IsWithoutSix text = (beginning more : List Bool) → text ≡ beginning ++ more → EndsInSix beginning → ⊥

-- what a passive error flag owes is counted at its first dominant sample
abbrev pub owed_events : List ErrorEvent → List Bool → List ErrorEvent
owed_events owed text = if list_any not text then owed else []

-- how many dominant levels in a row the text ends in
abbrev pub dominant_end : List Bool → ℕ
dominant_end text = suffix_len not text

-- The first dominant sample in a row that is counted: the 14th from the start of an active error flag or an
-- overload flag, the 8th behind a passive error flag.
abbrev pub first_counted : FlagKind → ℕ
first_counted ActiveError = 14
first_counted PassiveError = 8
first_counted Overload = 14

-- that one, and each eighth behind it
abbrev pub is_counted : FlagKind → ℕ → Bool
is_counted kind n = nat_le (first_counted kind) n && ((n - first_counted kind) % 8 == 0)

-- a dominant sample right behind an error flag is counted by a receiver
abbrev pub behind_flag : FlagKind → Role → List ErrorEvent
behind_flag ActiveError Receiver = ReceiverDominant ∷ []
behind_flag PassiveError Receiver = ReceiverDominant ∷ []
behind_flag Overload Receiver = []
behind_flag kind Sender = []

-- the events of a dominant sample behind a flag, before which `run` dominant ones in a row were counted
-- in the flag and n behind it
abbrev pub dominant_event : FlagKind → Role → ℕ → ℕ → List ErrorEvent
dominant_event kind role run n =
    (if n == 0 then behind_flag kind role else [])
    ++ (if is_counted kind (run + n + 1) then (DominantRun role ∷ []) else [])

-- the events of n dominant samples behind a flag
unfoldable pub dominant_events : FlagKind → Role → ℕ → ℕ → List ErrorEvent
dominant_events kind role run zero = []
dominant_events kind role run (suc n) = dominant_events kind role run n ++ dominant_event kind role run n
