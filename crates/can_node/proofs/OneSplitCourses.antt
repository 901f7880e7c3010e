-- One episode's pairs: how far it goes on, and how it ends.
use Rattle.std.proofs.Common.{◌≡◌, ℕ, ◌-◌, ◌<◌, true, false, List, [], ◌∷◌, ◌++◌, length, sym, ap, subst, arith, ◌∙◌}
use Rattle.std.proofs.lemmas.List.{append_assoc, length-append, length-replicate}
use Rattle.can_confinement.specs.declared.confinement.ErrorEvent.{ErrorEvent}
use Rattle.can_node.specs.declared.outcome.Outcome.{Outcome}
use Rattle.can_node.specs.Pairs.{Pair, listening, recessive, dominant}
use Rattle.can_node.specs.Flags.{flag_bits, owed_events}
use Rattle.can_node.specs.Phases.{Phase}
use Rattle.can_node.specs.Episodes.{Begun, Course}
use Rattle.can_node.specs.Episodes.Begun.{syncing, idling, sending, taking, last_bit, active_flag, overload_flag}
use Rattle.can_node.specs.Episodes.Begun.{passive_flag, delimiting, in_pause, suspended, recovering}
use Rattle.can_node.specs.Episodes.Course.{synced, resumed, completed, lost, stuff_lost, unacknowledged, bit_differs}
use Rattle.can_node.specs.Episodes.Course.{took, spoiled, recessive_last_bit, late_overload, flagged, overload_flagged}
use Rattle.can_node.specs.Episodes.Course.{passive_flagged, delimited, truncated, overloaded, intermission_ended, intermission_suspended}
use Rattle.can_node.specs.Episodes.Course.{pressed, hurried, waited, overtaken, recovered}
use Rattle.can_node.specs.Copies.{sampled_in}
use Rattle.can_node.proofs.SameFronts.{faulty}
use Rattle.can_node.proofs.OneSplitLists.{listening_front, dominating_front, no_dominant, no_more_dominant}
use Rattle.can_node.proofs.OneSplitLists.{not_synced, not_recovered}
use Rattle.can_node.proofs.OneSplitEvents.{More, no_more, dominant_more, Fit}
use Rattle.can_node.proofs.OneSplitTakes.{reads_front, reads_grow}
use Rattle.can_node.proofs.OneSplitSends.{send_end, send_over}
use Rattle.can_node.proofs.OneSplitFlags.{flag_bits_more, owed_more, delimiter_end, delimiter_over}

-- An episode that goes on counts what it counted before, and more.
pub grows : {phase : Phase} {pairs longer : List Pair} {events counted : List ErrorEvent} (r : List Pair) → Fit phase →
    Begun phase pairs events → Begun phase longer counted → longer ≡ pairs ++ r → More events counted
grows r fit (syncing broken n b few) (syncing others m c below) e = no_more []
grows r fit (idling n) (idling m) e = no_more []
grows r fit (sending start given frame before seen driven expected bit)
    (sending s g f others samples drives expects later) e = no_more []
grows r fit (taking start given may_begin levels pairs events on reads)
    (taking s g may others longer counted here more) e =
    reads_grow (sampled_in r) reads more (reads_front r reads more e)
grows r fit last_bit last_bit e = no_more []
grows r fit (active_flag role levels few) (active_flag q others below) e =
    subst (λ t. More (flag_bits role levels) (flag_bits role t)) (sym (dominating_front levels others r e))
    (flag_bits_more role levels (sampled_in r))
grows r fit (overload_flag role levels few) (overload_flag q others below) e =
    subst (λ t. More (flag_bits role levels) (flag_bits role t)) (sym (dominating_front levels others r e))
    (flag_bits_more role levels (sampled_in r))
grows r fit (passive_flag owed role levels none) (passive_flag o q others never) e =
    subst (λ t. More (owed_events owed levels) (owed_events owed t)) (sym (listening_front levels others r e))
    (owed_more owed levels (sampled_in r) fit)
grows r fit (delimiting kind role run n k few) (delimiting c q s m j below) e =
    let more = sampled_in r in
    let levels : dominant m ++ recessive j ≡ dominant n ++ (recessive k ++ more) =
    listening_front (dominant n ++ recessive k) (dominant m ++ recessive j) r e
    ∙ append_assoc (dominant n) (recessive k) more in
    let up = no_more_dominant n m j (recessive k ++ more) levels in
    dominant_more kind role run n (m - n) m (omega (arith, up))
grows r fit (in_pause role k few) (in_pause q j below) e = no_more []
grows r fit (suspended k few) (suspended j below) e = no_more []
grows r fit (recovering runs text broken n few counted b short)
    (recovering others rest more m below all c shorter) e = no_more []

-- fewer recessive levels hold neither more of them nor a dominant one
too_long : (n k : ℕ) (r : List Pair) → k < n → listening (recessive k) ≡ listening (recessive n) ++ r → ⊥
too_long n k r few e =
    omega (
      arith,
      few,
      ap length (listening_front (recessive n) (recessive k) r e),
      length-append (recessive n) (sampled_in r),
      length-replicate n true,
      length-replicate k true,
    )

dominant_end : (n k : ℕ) (r : List Pair) → listening (recessive k) ≡ listening (recessive n ++ false ∷ []) ++ r → ⊥
dominant_end n k r e =
    no_dominant n k (sampled_in r) (listening_front (recessive n ++ false ∷ []) (recessive k) r e
    ∙ append_assoc (recessive n) (false ∷ []) (sampled_in r))

-- what ends an episode is no part of one that goes on
pub course_over : {at : ℕ} {before : List ErrorEvent} {phase next : Phase} {pairs longer : List Pair}
    {events counted : List ErrorEvent} {outcome : Outcome} (r : List Pair) →
    Course at before phase pairs events outcome next → Begun phase longer counted → longer ≡ pairs ++ r → ⊥
course_over r (synced broken b) (syncing others n c few) e =
    not_synced others broken (sampled_in r) n c few b
    (listening_front (broken ++ recessive 11) (others ++ recessive n) r e)
course_over r (resumed n) (idling m) e =
    no_dominant n m (sampled_in r) (listening_front (recessive n ++ false ∷ []) (recessive m) r e
    ∙ append_assoc (recessive n) (false ∷ []) (sampled_in r))
course_over r (completed start given frame driven sampled send) (sending s g f others samples drives expects bit) e =
    send_over {before = []} r (send_end {at = 0} (completed start given frame driven sampled send)) bit e
course_over {before = before} r (lost start given frame driven seen bit place)
    (sending s g f others samples drives expects later) e =
    send_over r (send_end {at = 0} {before = before} (lost start given frame driven seen bit place)) later e
course_over {before = before} r (stuff_lost start given frame driven seen bit place)
    (sending s g f others samples drives expects later) e =
    send_over r (send_end {at = 0} {before = before} (stuff_lost start given frame driven seen bit place)) later e
course_over {before = before} r (unacknowledged start given frame driven seen bit)
    (sending s g f others samples drives expects later) e =
    send_over r (send_end {at = 0} {before = before} (unacknowledged start given frame driven seen bit)) later e
course_over {before = before} r (bit_differs start given frame driven seen level bit no_loss no_stuff)
    (sending s g f others samples drives expects later) e =
    send_over r
    (send_end {at = 0} {before = before} (bit_differs start given frame driven seen level bit no_loss no_stuff)) later e
course_over r (took start given may_begin levels pairs events frame reads front)
    (taking s g may others longer counted on more) e =
    on.undecided.no_front frame (given ++ levels) (sampled_in r)
    (ap (λ t. given ++ t) (reads_front r reads more e) ∙ sym (append_assoc given levels (sampled_in r))) front
course_over r (spoiled start given may_begin levels level pairs events kind reads fault)
    (taking s g may others longer counted on more) e =
    let whole : given ++ others ≡ ((given ++ levels) ++ level ∷ []) ++ sampled_in r =
    ap (λ t. given ++ t) (reads_front r reads more e)
    ∙ sym (append_assoc given (levels ++ level ∷ []) (sampled_in r))
    ∙ ap (λ t. t ++ sampled_in r) (sym (append_assoc given levels (level ∷ []))) in
    on.undecided.no_fault ((given ++ levels) ++ level ∷ []) (sampled_in r) whole
    (faulty kind (given ++ levels) level fault.fault_is)
course_over r recessive_last_bit last_bit e = absurd (cc e)
course_over r late_overload last_bit e = absurd (cc e)
course_over r (flagged role levels size) (active_flag q others few) e =
    omega (arith, size, few, ap length (dominating_front levels others r e), length-append levels (sampled_in r))
course_over r (overload_flagged role levels size) (overload_flag q others few) e =
    omega (arith, size, few, ap length (dominating_front levels others r e), length-append levels (sampled_in r))
course_over r (passive_flagged owed role levels level none six) (passive_flag o q others never) e =
    never (levels ++ level ∷ []) (sampled_in r) (listening_front (levels ++ level ∷ []) others r e) six
course_over {before = before} r (delimited kind role run n) (delimiting c q s m k few) e =
    delimiter_over {before = before} m k r (delimiter_end {at = 0} (delimited kind role run n)) few e
course_over {before = before} r (truncated kind role run n j some below) (delimiting c q s m k few) e =
    delimiter_over {before = before} m k r (delimiter_end {at = 0} (truncated kind role run n j some below)) few e
course_over {before = before} r (overloaded kind role run n) (delimiting c q s m k few) e =
    delimiter_over {before = before} m k r (delimiter_end {at = 0} (overloaded kind role run n)) few e
course_over r (intermission_ended role goes) (in_pause q k few) e = too_long 3 k r few e
course_over r (intermission_suspended role waits) (in_pause q k few) e = too_long 3 k r few e
course_over r (pressed role n below) (in_pause q k few) e = dominant_end n k r e
course_over r (hurried role) (in_pause q k few) e = dominant_end 2 k r e
course_over r waited (suspended k few) e = too_long 8 k r few e
course_over r (overtaken n below) (suspended k few) e = dominant_end n k r e
course_over r (recovered whole all) (recovering runs text broken n few counted b short) e =
    not_recovered runs n text broken whole (sampled_in r) few counted b short all
    (listening_front whole (text ++ broken ++ recessive n) r e)
