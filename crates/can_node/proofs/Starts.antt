-- A frame that is read begins with its SOF.
use Rattle.std.proofs.lemmas.List.{append-nil}
use Rattle.std.proofs.Common.{◌≡◌, ℕ, List, Bool, true, false, [], ◌∷◌, ◌++◌, length, refl, sym, ap, subst, inl, arith}
use Rattle.std.proofs.Common.{length-append}
use Rattle.can_frame.specs.Stuffing.{IsStuffed, unstuffed}
use Rattle.can_frame.specs.Reading.{Inside}
use Rattle.can_frame.proofs.Regions.{completes}
use Rattle.can_frame.proofs.Undecided.{part_rough, region_undecided}
use Rattle.can_node.specs.Takes.Reads.{no_slot}
use Rattle.can_node.specs.Phases.Phase.{Take}
use Rattle.can_node.specs.Machine.{Agrees}
use Rattle.can_node.specs.Machine.Agrees.{in_take}
use Rattle.can_node.specs.declared.state.State.TheVariants.{Receiving}
use Rattle.can_node.specs.declared.state.Stage.TheVariants.{Region}

-- SOF alone is within a stuffed region
pub sof_inside : Inside (false ∷ []) (false ∷ [])
unfolding IsStuffed unstuffed
sof_inside =
    record { stuffed = ((λ e. absurd (cc e)), tt); stands = refl; start = refl; unfinished = inl (omega arith) }

no_split : (before more : List Bool) (level : Bool) → [] ≡ before ++ level ∷ more → ⊥
no_split before more level e = omega (arith, ap length e, length-append before (level ∷ more))

-- a node that reads on behind such a text, which it has before the episode
pub reads_from : (w u : List Bool) → Inside w u → (start : ℕ) (may : Bool) → (may ≡ true → w ≡ false ∷ []) →
    (later : ℕ) → Agrees (Receiving start may Region) w later (Take start w may) [] []
reads_from w u h start may sof later =
    in_take w [] may [] [] (sym (append-nil w))
    (record { begins = part_rough w (completes w u h); undecided = region_undecided w u h })
    (no_slot [] (λ before more slot is _. no_split before more slot is)) refl sof (completes w u h)

-- a node that has just read SOF
pub starts : (now start : ℕ) → start ≡ now → (may : Bool) (later : ℕ) →
    Agrees (Receiving now may Region) (false ∷ []) later (Take start (false ∷ []) may) [] []
starts now start e may later =
    subst (λ n. Agrees (Receiving n may Region) (false ∷ []) later (Take start (false ∷ []) may) [] []) e
    (reads_from (false ∷ []) (false ∷ []) sof_inside start may (λ is. refl) later)
