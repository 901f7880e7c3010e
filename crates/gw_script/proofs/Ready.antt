-- What is needed for all segments, one after another.
use Rattle.std.proofs.Common.{◌≡◌, ◌∙◌, sym, ap, subst, arith, ℕ, ◌+◌, ◌≤◌, inl, inr, List, [], ◌∷◌, ◌++◌, Some}
use Rattle.std.proofs.Common.{◌<◌, All, get_or, refl, length, length-append, length-set, set, slice_get}
use Rattle.std.proofs.lemmas.Option.{get_or_from_slice_get, slice_get_read, slice_get_within}
use Rattle.bx_core.proofs.Words.{pushed}
use Rattle.can_station.proofs.Places.{get_set_other, same_some}
use Rattle.can_segment.specs.declared.record.Record.{Record}
use Rattle.gw_config.specs.Scripts.{ScriptValue}
use Rattle.gw_script.specs.declared.segment_lines.SegmentLines.{SegmentLines}
use Rattle.gw_script.specs.SegmentLines.{IsReady, AreReady}

-- a record that was read at its place stands there
pub record-at : (shown kept : List Record) (i : ℕ) (x : Record) → shown ≡ kept → i < length shown →
    x ≡ get_or shown i x → slice_get kept i ≡ Some x
record-at shown kept i x same lt is =
    ap (λ rs. slice_get rs i) (sym same) ∙ slice_get_read shown (length shown) i x refl lt is

-- where it is said of a place, the record there and what is needed whether that is ready
module _ {L : Type 0} (Is : ℕ → Record → L → Type 0) (records : List Record) where
  -- that of the first segments, so many of them
  pub record ReadyBelow (all : List L) (i : ℕ) : Type 0 where
    pub each : (segment : ℕ) (of : Record) (lines : L) → slice_get records segment ≡ Some of →
        slice_get all segment ≡ Some lines → Is segment of lines
    pub count : length all ≡ i

  pub ready-more : (all : List L) (i : ℕ) (x : Record) (new : L) → slice_get records i ≡ Some x → Is i x new →
      ReadyBelow all i → ReadyBelow (all ++ new ∷ []) (i + 1)
  ready-more all i x new here ready below = record {
    each = λ k y n e f. elim (pushed all new k n f) [
      | inl is ↦ below.each k y n e is
      | inr is ↦ (let place : k ≡ i = omega (arith, is.0, below.count) in
          let same : x ≡ y = same_some x y (sym here ∙ ap (slice_get records) (sym place) ∙ e) in
          subst (λ z. Is k y z) is.1
          (subst (λ z. Is k z new) same (subst (λ j. Is j x new) (sym place) ready)))
    ];
    count = omega (arith, length-append all (new ∷ []), below.count);
  }

  -- that of the segments from this place on
  pub record ReadyFrom (i : ℕ) (all : List L) : Type 0 where
    pub each : (segment : ℕ) (of : Record) (lines : L) → i ≤ segment → slice_get records segment ≡ Some of →
        slice_get all segment ≡ Some lines → Is segment of lines
    pub count : length all ≡ length records

  -- with what was used for the first of them no other is reported
  pub ready-next : (i : ℕ) (all : List L) (new : L) → ReadyFrom i all → ReadyFrom (i + 1) (set all i new)
  ready-next i all new from = record {
    each = λ k of lines le e f.
        from.each k of lines (omega (arith, le)) e (sym (get_set_other all i k new (λ is. omega (arith, le, is))) ∙ f);
    count = length-set all i new ∙ from.count;
  }

-- that of the segment at this place, with lines for which there is room
pub record IsReadyWithin (s : ScriptValue) (room segment : ℕ) (of : Record) (lines : SegmentLines) : Type 0 where
  pub ready : IsReady s segment of lines
  pub short : lines.events.longest ≤ room

pub ready-from : (s : ScriptValue) (records : List Record) (room : ℕ) (all : List SegmentLines) →
    AreReady s records all → All (λ (lines : SegmentLines). lines.events.longest ≤ room) all →
    ReadyFrom (IsReadyWithin s room) records 0 all
ready-from s records room all ready short = record {
  each = λ k of lines le e f.
      let within = slice_get_within all k lines f in record {
        ready = ready.each k of lines e f;
        short = subst (λ (l : SegmentLines). l.events.longest ≤ room) (get_or_from_slice_get all k lines lines f)
            (short k lines within);
      };
  count = ready.count;
}
