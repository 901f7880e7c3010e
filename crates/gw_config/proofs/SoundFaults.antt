-- Planned faults that are read without a fault are sound.
use Rattle.std.proofs.Common.{◌≡◌, ◌∙◌, ap, refl, subst, ℕ, suc, ◌+◌, ◌<◌, ◌==◌, List, [], ◌∷◌, length, slice_get}
use Rattle.std.proofs.Common.{Bool, true, false, cond, Option, Some, None, Ok, codes, arith}
use Rattle.std.specs.List.{position_from}
use Rattle.std.specs.Str.{bytes_eq}
use Rattle.serde_json.specs.Data.{Data}
use Rattle.serde_json.specs.Find.{get}
use Rattle.bx_core.specs.Lists.{Each}
use Rattle.gw_config.specs.declared.format.Format.{Format}
use Rattle.gw_config.specs.declared.node_place.NodePlace.{NodePlace}
use Rattle.gw_config.specs.declared.planned_fault.PlannedFault.{PlannedFault}
use Rattle.gw_config.specs.declared.planned_fault.PlannedFault.TheVariants.{AtNode, OnLine}
use Rattle.gw_fields.specs.Faults.{unknown_name}
use Rattle.gw_fields.specs.Fields.{or_fault, whole, text_of, optional_list}
use Rattle.gw_fields.specs.Names.{place_named}
use Rattle.gw_config.specs.Objects.{element_of}
use Rattle.gw_config.specs.Formats.{bit_of}
use Rattle.gw_config.specs.Segments.{SegmentValue, segment_names}
use Rattle.gw_config.specs.Controllers.{ControllerValue, node_names}
use Rattle.gw_config.specs.PlannedFaults.{or_later, node_from, until_of, node_fault, line_fault, fault_with}
use Rattle.gw_config.specs.PlannedFaults.{fault_fields, planned_fault_of, planned_faults_of}
use Rattle.gw_fields.proofs.Readings.{from_bind, found_ok, each_after_keeps}
use Rattle.gw_config.proofs.Lists.{each-push}

-- a planned fault is at a node of its segment, by the names of the nodes there
abbrev pub IsNamed : List SegmentValue → List ControllerValue → NodePlace → Type 0
IsNamed segments controllers node = (s : SegmentValue) × (slice_get segments node.segment ≡ Some s)
    × (node.place < length (node_names controllers node.segment s))

abbrev pub IsFaultAtNode : List SegmentValue → List ControllerValue → PlannedFault → Type 0
IsFaultAtNode segments controllers (AtNode node bit until) = IsNamed segments controllers node
IsFaultAtNode segments controllers (OnLine segment bit until level) = Unit {0}

position-below : (test : List ℕ → Bool) (first k : ℕ) (xs : List (List ℕ)) → position_from test first xs ≡ Some k →
    k < first + length xs
position-below test first k [] e = cc
position-below test first k (x ∷ xs) e =
    elim (test x) as (λ b. cond b (Some first) (position_from test (first + 1) xs) ≡ Some k →
    k < first + length (x ∷ xs)) [
      | true ↦ λ h. let same : first ≡ k = cc in omega (arith, same)
      | false ↦ λ h. omega (arith, position-below test (first + 1) k xs h)
    ] e

-- where a node is found
record IsFound (controllers : List ControllerValue) (first : ℕ) (ss : List SegmentValue)
    (node : NodePlace) : Type 0 where
  pub later : ℕ
  pub at : node.segment ≡ first + later
  pub segment : SegmentValue
  pub is : slice_get ss later ≡ Some segment
  pub below : node.place < length (node_names controllers node.segment segment)

found_from : (controllers : List ControllerValue) (name : List ℕ) (first : ℕ) (ss : List SegmentValue)
    (node : NodePlace) → node_from controllers name first ss ≡ Some node →
    IsFound controllers first ss node
found_from controllers name first [] node e = cc
found_from controllers name first (s ∷ ss) node e =
    elim (position_from (bytes_eq name) 0 (node_names controllers first s)) as
    (λ o. position_from (bytes_eq name) 0 (node_names controllers first s) ≡ o →
    or_later first o (node_from controllers name (first + 1) ss) ≡ Some node →
    IsFound controllers first (s ∷ ss) node) [
      | Some k ↦ λ found is.
          let below : k < 0 + length (node_names controllers first s) =
          position-below (bytes_eq name) 0 k (node_names controllers first s) found in
          let same : record { segment = first; place = k } ≡ node = cc in
          subst (λ (one : NodePlace). IsFound controllers first (s ∷ ss) one) same
          (record {
            later = 0;
            at = (let none : first ≡ first + 0 = omega arith in none);
            segment = s;
            is = refl;
            below = omega (arith, below);
          })
      | None ↦ λ found is.
          let rest = found_from controllers name (first + 1) ss node is in
          record {
            later = suc rest.later;
            at = (let more : node.segment ≡ first + suc rest.later = omega (arith, rest.at) in more);
            segment =
                rest.segment;
            is = rest.is;
            below = rest.below;
          }
    ] refl e

named_ok : (segments : List SegmentValue) (controllers : List ControllerValue) (node : NodePlace) →
    IsFound controllers 0 segments node → IsNamed segments controllers node
named_ok segments controllers node found = (
  found.segment,
  ap (slice_get segments) (let same : node.segment ≡ found.later = omega (arith, found.at) in same)
      ∙ found.is,
  found.below,
)

fault_ok : (format : Format) (segments : List SegmentValue) (controllers : List ControllerValue) (from : Data)
    (given : Option Data) (f : PlannedFault) →
    fault_with format segments controllers from given ≡ Ok f → IsFaultAtNode segments controllers f
unfolding node_fault line_fault
fault_ok format segments controllers from (Some value) f e =
    from_bind (text_of (codes "node") value) _ f e (λ name is_name e1.
    from_bind (or_fault (unknown_name (codes "node")) (node_from controllers name 0 segments)) _ f e1
    (λ node is_node e2.
    from_bind (bit_of format (codes "bit") from) _ f e2 (λ bit is_bit e3.
    from_bind (until_of format.version format bit from) _ f e3 (λ until is_until e4.
    let same : AtNode node bit until ≡ f = cc in
    let P : PlannedFault → Type 0 = IsFaultAtNode segments controllers in
    subst P same
    (named_ok segments controllers node (found_from controllers name 0 segments node
    (found_ok (unknown_name (codes "node")) (node_from controllers name 0 segments) node is_node)))))))
fault_ok format segments controllers from None f e =
    from_bind (place_named (codes "segment") (segment_names segments) from) _ f e (λ segment is_segment e1.
    from_bind (bit_of format (codes "bit") from) _ f e1 (λ bit is_bit e2.
    from_bind (until_of format.version format bit from) _ f e2 (λ until is_until e3.
    from_bind (whole (codes "level") 0 1 from) _ f e3 (λ level is_level e4.
    let same : OnLine segment bit until (level == 1) ≡ f = cc in
    let P : PlannedFault → Type 0 = IsFaultAtNode segments controllers in
    subst P same tt))))

planned_ok : (format : Format) (segments : List SegmentValue) (controllers : List ControllerValue) (value : Data)
    (f : PlannedFault) → planned_fault_of format segments controllers value ≡ Ok f →
    IsFaultAtNode segments controllers f
unfolding planned_fault_of
planned_ok format segments controllers value f e =
    from_bind (element_of format.version (codes "faults") fault_fields value) _ f e
    (λ from is_object e1. fault_ok format segments controllers from (get (codes "node") from) f e1)

pub faults_ok : (format : Format) (segments : List SegmentValue) (controllers : List ControllerValue) (from : Data)
    (fs : List PlannedFault) → planned_faults_of format segments controllers from ≡ Ok fs →
    Each (IsFaultAtNode segments controllers) fs
unfolding planned_faults_of
faults_ok format segments controllers from fs e =
    from_bind (optional_list (codes "faults") 10000 from) _ fs e (λ items is_list e1.
    each_after_keeps (λ front. planned_fault_of format segments controllers) (Each (IsFaultAtNode segments controllers))
    (λ front d f before is. each-push (IsFaultAtNode segments controllers) front f before
    (planned_ok format segments controllers d f is)) [] fs items tt e1)
