-- A script that is read without a fault is sound.
use Rattle.std.proofs.Common.{◌≡◌, ◌≢◌, ◌∙◌, ap, sym, refl, subst, ℕ, ◌-◌, ◌<◌, ◌≤◌, nat_lt, List, [], ◌∷◌, ◌++◌}
use Rattle.std.proofs.Common.{length, get_or, Bool, true, false, Ok, append_assoc, length-append, codes, arith}
use Rattle.std.proofs.lemmas.Bool.{ltb-true}
use Rattle.std.proofs.lemmas.List.{append-nil, map-append}
use Rattle.std.proofs.lemmas.List.Folds.{list_any_at}
use Rattle.std.proofs.lemmas.List.Quantifiers.{all_pairs_push}
use Rattle.std.proofs.lemmas.Grind.{flat_map-append}
use Rattle.std.proofs.lemmas.Slice.Eq.{bytes_eq-Decides}
use Rattle.std.specs.List.{list_any}
use Rattle.std.specs.Str.{bytes_eq}
use Rattle.serde_json.specs.Data.{Data, Items}
use Rattle.bx_core.specs.Lists.{Each}
use Rattle.gw_fields.specs.Faults.{too_many}
use Rattle.gw_fields.specs.Fields.{list, some_list, filled_list, each_after}
use Rattle.gw_fields.specs.Names.{is_among, new_name}
use Rattle.gw_config.specs.declared.version.Version.{Version}
use Rattle.gw_config.specs.declared.version.Version.TheVariants.{One, Two, Three}
use Rattle.gw_config.specs.declared.format.Format.{Format}
use Rattle.gw_config.specs.Versions.{most_nodes}
use Rattle.gw_config.specs.Objects.{element_of}
use Rattle.gw_config.specs.Formats.{bit_of}
use Rattle.gw_config.specs.Messages.{message_after, messages_of}
use Rattle.gw_config.specs.Talkers.{TalkerValue, talker_names, talker_instances, talker_fields, talker_of}
use Rattle.gw_config.specs.Segments.{SegmentValue, segment_names, segment_fields, all_talker_names, instances_left}
use Rattle.gw_config.specs.Segments.{segment_of, segments_of}
use Rattle.gw_config.specs.SoundScripts.{HasFewMessages, AreApart}
use Rattle.gw_fields.proofs.Readings.{from_bind, passed_ok, each_after_keeps, new_name_ok, count_ok, list_ok}
use Rattle.gw_config.proofs.Lists.{each-push}

-- no element passes a test that none of them passes
pub none_passes : {A : Type 0} (p : A → Bool) (xs : List A) (k : ℕ) (d : A) → list_any p xs ≡ false → k < length xs →
    p (get_or xs k d) ≡ true → ⊥
none_passes p xs k d none lt passes = let contrary = sym (list_any_at p xs k d lt passes) ∙ none in cc

bytes_eq-refl : (name : List ℕ) → bytes_eq name name ≡ true
bytes_eq-refl name = (bytes_eq-Decides name name).1 refl

-- one name more, which none of the others is
pub apart_more : (names : List (List ℕ)) (name : List ℕ) → AreApart names → is_among name names ≡ false →
    AreApart (names ++ name ∷ [])
apart_more names name apart new = all_pairs_push (λ one later. one ≢ later) names name apart
    (λ k d lt same. none_passes (bytes_eq name) names k d new lt (ap (bytes_eq name) same ∙ bytes_eq-refl name))

-- no version allows more than 64 nodes
pub nodes_below : (version : Version) (count : ℕ) → nat_lt count (most_nodes version) ≡ true → count < 64
nodes_below One count e = omega (arith, ltb-true count 16 e)
nodes_below Two count e = omega (arith, ltb-true count 16 e)
nodes_below Three count e = ltb-true count 64 e

-- a talker has a new name and few messages, and few stand in front of it
record IsNewTalker (taken : List (List ℕ)) (front : List TalkerValue) (t : TalkerValue) : Type 0 where
  pub name : is_among t.name (taken ++ talker_names front) ≡ false
  pub messages : length t.messages ≤ 10000
  pub few : length front < 64

new_talker : (taken : List (List ℕ)) (front : List TalkerValue) (read t : TalkerValue) → read ≡ t →
    is_among read.name (taken ++ talker_names front) ≡ false → length read.messages ≤ 10000 → length front < 64 →
    IsNewTalker taken front t
new_talker taken front read t same name messages few = let P : TalkerValue → Type 0 = IsNewTalker taken front in
    subst P same (record { name = name; messages = messages; few = few })

talker_ok : (format : Format) (taken : List (List ℕ)) (left : ℕ) (front : List TalkerValue) (value : Data)
    (t : TalkerValue) → talker_of format taken left front value ≡ Ok t → IsNewTalker taken front t
unfolding talker_of
talker_ok format taken left front value t e =
    from_bind (element_of format.version (codes "talkers") talker_fields value) _ t e (λ from is_object e1.
    from_bind (new_name (codes "talkers") (taken ++ talker_names front) from) _ t e1 (λ name is_name e2.
    from_bind (bit_of format (codes "on") from) _ t e2 (λ on is_on e3.
    from_bind (list (codes "frames") 10000 from) _ t e3 (λ items is_list e4.
    from_bind (messages_of format (left - talker_instances front) items) _ t e4 (λ messages are_messages e5.
    let test = passed_ok (nat_lt (length front) (most_nodes format.version))
    (record { name = name; on = on; messages = messages }) t (too_many (codes "talkers")) e5 in
    new_talker taken front (record { name = name; on = on; messages = messages }) t test.1
    (new_name_ok (codes "talkers") (taken ++ talker_names front) from name is_name)
    (let few : length messages ≤ 10000 = omega (
      arith,
      count_ok (message_after format (left - talker_instances front)) [] messages items are_messages,
      list_ok (codes "frames") 10000 from items is_list,
    ) in few)
    (nodes_below format.version (length front) test.0))))))

-- talkers that are read have names of their own, few messages each, and are few
record AreNewTalkers (taken : List (List ℕ)) (ts : List TalkerValue) : Type 0 where
  pub names : AreApart (taken ++ talker_names ts)
  pub messages : Each HasFewMessages ts
  pub few : length ts ≤ 64

talkers_more : (taken : List (List ℕ)) (front : List TalkerValue) (t : TalkerValue) → AreNewTalkers taken front →
    IsNewTalker taken front t → AreNewTalkers taken (front ++ t ∷ [])
talkers_more taken front t before here = record {
  names = subst AreApart (append_assoc taken (talker_names front) (t.name ∷ [])
      ∙ ap (λ ns. taken ++ ns) (sym (map-append (λ (one : TalkerValue). one.name) front (t ∷ []))))
      (apart_more (taken ++ talker_names front) t.name before.names here.name);
  messages = each-push HasFewMessages front t before.messages here.messages;
  few = omega (arith, here.few, length-append front (t ∷ []));
}

talkers_ok : (format : Format) (taken : List (List ℕ)) (left : ℕ) (items : Items) (ts : List TalkerValue) →
    AreApart taken → each_after (talker_of format taken left) [] items ≡ Ok ts → AreNewTalkers taken ts
talkers_ok format taken left items ts apart e =
    each_after_keeps (talker_of format taken left) (AreNewTalkers taken)
    (λ front d t before is. talkers_more taken front t before (talker_ok format taken left front d t is)) [] ts items
    (record { names = subst AreApart (sym (append-nil taken)) apart; messages = tt; few = omega arith }) e

-- segments that are read have names of their own, and their talkers are as above
abbrev pub HasFewTalkers : SegmentValue → Type 0
HasFewTalkers s = length s.talkers ≤ 64

pub record AreNewSegments (ss : List SegmentValue) : Type 0 where
  pub names : AreApart (segment_names ss)
  pub talkers : AreApart (all_talker_names ss)
  pub messages : Each (λ (s : SegmentValue). Each HasFewMessages s.talkers) ss
  pub few : Each HasFewTalkers ss

segments_more : (front : List SegmentValue) (s : SegmentValue) → AreNewSegments front →
    is_among s.name (segment_names front) ≡ false → AreNewTalkers (all_talker_names front) s.talkers →
    AreNewSegments (front ++ s ∷ [])
segments_more front s before new talkers = record {
  names = subst AreApart (sym (map-append (λ (one : SegmentValue). one.name) front (s ∷ [])))
      (apart_more (segment_names front) s.name before.names new);
  talkers = subst AreApart (ap (λ ns. all_talker_names front ++ ns) (sym (append-nil (talker_names s.talkers)))
      ∙ sym (flat_map-append (λ (one : SegmentValue). talker_names one.talkers) front (s ∷ []))) talkers.names;
  messages =
      each-push (λ (one : SegmentValue). Each HasFewMessages one.talkers) front s before.messages talkers.messages;
  few = each-push HasFewTalkers front s before.few talkers.few;
}

segment_ok : (format : Format) (front : List SegmentValue) (value : Data) (s : SegmentValue) → AreNewSegments front →
    segment_of format front value ≡ Ok s → AreNewSegments (front ++ s ∷ [])
unfolding segment_of
segment_ok format front value s before e =
    from_bind (element_of format.version (codes "segments") segment_fields value) _ s e (λ from is_object e1.
    from_bind (new_name (codes "segments") (segment_names front) from) _ s e1 (λ name is_name e2.
    from_bind (some_list (codes "talkers") from) _ s e2 (λ items is_list e3.
    from_bind (each_after (talker_of format (all_talker_names front) (instances_left front)) [] items) _ s e3
    (λ talkers are_talkers e4.
    let same : record { name = name; talkers = talkers } ≡ s = cc in
    let P : SegmentValue → Type 0 = λ one. AreNewSegments (front ++ one ∷ []) in
    subst P same (segments_more front (record { name = name; talkers = talkers }) before
    (new_name_ok (codes "segments") (segment_names front) from name is_name)
    (talkers_ok format (all_talker_names front) (instances_left front) items talkers before.talkers are_talkers))))))

pub segments_ok : (format : Format) (from : Data) (ss : List SegmentValue) → segments_of format from ≡ Ok ss →
    AreNewSegments ss
unfolding segments_of
segments_ok format from ss e =
    from_bind (filled_list (codes "segments") 8 from) _ ss e (λ items is_list e1.
    each_after_keeps (segment_of format) AreNewSegments (segment_ok format) [] ss items
    (record {
      names = λ i j d below within. absurd (omega arith);
      talkers = λ i j d below within. absurd (omega arith);
      messages = tt;
      few = tt;
    }) e1)
