-- Controllers, routes and planned faults that are read without a fault are sound.
use Rattle.std.proofs.Common.{◌≡◌, ◌∙◌, ap, sym, refl, subst, ℕ, zero, suc, ◌+◌, ◌<◌, ◌≤◌, ◌==◌, ◌&&◌, nat_lt}
use Rattle.std.proofs.Common.{List, [], ◌∷◌, ◌++◌, length, count_by, get_or, slice_get, Bool, true, false, cond, Option}
use Rattle.std.proofs.Common.{Some, None, Ok, Err, if◌then◌else◌, AllPairs, append_assoc, codes, arith}
use Rattle.std.proofs.lemmas.Bool.{ltb-true, eq-eqb, eqb-true}
use Rattle.std.proofs.lemmas.List.{append-nil, map-append}
use Rattle.std.proofs.lemmas.List.Quantifiers.{all_pairs_push}
use Rattle.std.proofs.lemmas.List.Sums.{sum_by-append}
use Rattle.std.specs.List.{list_any}
use Rattle.serde_json.specs.Data.{Data}
use Rattle.bx_core.specs.Lists.{Each}
use Rattle.gw_config.specs.declared.version.Version.{Version}
use Rattle.gw_config.specs.declared.format.Format.{Format}
use Rattle.gw_config.specs.declared.planned_fault.PlannedFault.{PlannedFault}
use Rattle.gw_config.specs.declared.planned_fault.PlannedFault.TheVariants.{AtNode, OnLine}
use Rattle.gw_fields.specs.Faults.{Fault, too_many, fifo_twice}
use Rattle.gw_fields.specs.Fields.{whole, optional_truth, list}
use Rattle.gw_fields.specs.Names.{is_among, new_name, place_named}
use Rattle.gw_config.specs.Versions.{most_nodes}
use Rattle.gw_config.specs.Objects.{element_of}
use Rattle.gw_config.specs.Formats.{bit_of}
use Rattle.gw_config.specs.Talkers.{talker_names}
use Rattle.gw_config.specs.Segments.{SegmentValue, segment_names, all_talker_names, segments_of}
use Rattle.gw_config.specs.BankLists.{banks_of}
use Rattle.gw_config.specs.Rewrites.{rewrites_of}
use Rattle.gw_config.specs.Controllers.{ControllerValue, controller_names, controllers_on, node_names, node_count}
use Rattle.gw_config.specs.Controllers.{controller_with, controller_fields, controller_of, controllers_of}
use Rattle.gw_config.specs.Paces.{pace_of}
use Rattle.gw_config.specs.Routes.{queue_of, RouteValue, route_names, takes_from, routes_into, placed, route_with}
use Rattle.gw_config.specs.Routes.{route_fields, route_of, routes_of}
use Rattle.gw_config.specs.PlannedFaults.{planned_faults_of}
use Rattle.gw_config.specs.Scripts.{ScriptValue}
use Rattle.gw_config.specs.Nodes.{talkers_on, names_of_nodes}
use Rattle.gw_config.specs.SoundScripts.{HasFewMessages, IsAtNode, AreApart, TakesElsewhere}
use Rattle.gw_config.proofs.NodeLaws.{length-names}
use Rattle.gw_fields.proofs.Readings.{from_bind, passed_ok, each_after_keeps, new_name_ok}
use Rattle.gw_config.proofs.Lists.{each_weaker}
use Rattle.gw_config.proofs.SoundLaws.{HasFewTalkers, nodes_below, segments_ok, apart_more, none_passes}
use Rattle.gw_config.proofs.SoundFaults.{IsFaultAtNode, faults_ok}

-- one element more is counted where it passes
count-more : {A : Type 0} (test : A → Bool) (xs : List A) (x : A) →
    count_by test (xs ++ x ∷ []) ≡ count_by test xs + cond (test x) 1 0
count-more test xs x =
    let parts : count_by test (xs ++ x ∷ []) ≡ count_by test xs + count_by test (x ∷ []) =
    sum_by-append (λ y. cond (test y) 1 0) xs (x ∷ []) in
    parts ∙ ap (λ n. count_by test xs + n) (let one : 0 + cond (test x) 1 0 ≡ cond (test x) 1 0 = omega arith in one)

-- no segment has more than 64 nodes with these controllers
abbrev pub HaveFewNodes : List SegmentValue → List ControllerValue → Type 0
HaveFewNodes segments cs = (place : ℕ) → node_count cs place (slice_get segments place) ≤ 64

pub record AreNewControllers (segments : List SegmentValue) (cs : List ControllerValue) : Type 0 where
  pub names : AreApart (all_talker_names segments ++ controller_names cs)
  pub few : HaveFewNodes segments cs

record IsNewController (segments : List SegmentValue) (front : List ControllerValue)
    (c : ControllerValue) : Type 0 where
  pub name : is_among c.name (all_talker_names segments ++ controller_names front) ≡ false
  pub room : node_count front c.segment (slice_get segments c.segment) < 64

-- one controller more, where its segment has room
count_stays : (b : Bool) (few count : ℕ) → few + count ≤ 64 → (b ≡ true → few + count < 64) →
    few + (count + cond b 1 0) ≤ 64
count_stays true few count before room = omega (arith, room refl)
count_stays false few count before room = omega (arith, before)

more_on : (o : Option SegmentValue) (front : List ControllerValue) (c : ControllerValue) (place : ℕ) →
    node_count front place o ≤ 64 → (c.segment ≡ place → node_count front place o < 64) →
    node_count (front ++ c ∷ []) place o ≤ 64
more_on None front c place before room = omega arith
more_on (Some s) front c place before room =
    let test : ControllerValue → Bool = λ one. one.segment == place in
    rw (count-more test front c) (count_stays (c.segment == place) (length s.talkers) (count_by test front) before
    (λ on. room (eqb-true c.segment place on)))

nodes_more : (segments : List SegmentValue) (front : List ControllerValue) (c : ControllerValue) →
    HaveFewNodes segments front → node_count front c.segment (slice_get segments c.segment) < 64 →
    HaveFewNodes segments (front ++ c ∷ [])
nodes_more segments front c before room place = more_on (slice_get segments place) front c place (before place)
    (λ on. let P : ℕ → Type 0 = λ k. node_count front k (slice_get segments k) < 64 in subst P on room)

controllers_more : (segments : List SegmentValue) (front : List ControllerValue) (c : ControllerValue) →
    AreNewControllers segments front → IsNewController segments front c →
    AreNewControllers segments (front ++ c ∷ [])
controllers_more segments front c before here = record {
  names = subst AreApart (append_assoc (all_talker_names segments) (controller_names front) (c.name ∷ [])
      ∙ ap (λ ns. all_talker_names segments ++ ns)
      (sym (map-append (λ (one : ControllerValue). one.name) front (c ∷ []))))
      (apart_more (all_talker_names segments ++ controller_names front) c.name before.names here.name);
  few = nodes_more segments front c before.few here.room;
}

controller_room : (format : Format) (segments : List SegmentValue) (front : List ControllerValue) (name : List ℕ)
    (segment : ℕ) (from : Data) (c : ControllerValue) →
    controller_with format segments front name segment from ≡ Ok c → (name ≡ c.name)
    × (node_count front c.segment (slice_get segments c.segment) < 64)
unfolding controller_with
controller_room format segments front name segment from c e =
    from_bind (bit_of format (codes "on") from) _ c e (λ on is_on e1.
    from_bind (optional_truth (codes "txfp") true from) _ c e1 (λ txfp is_txfp e2.
    from_bind (banks_of format.version from) _ c e2 (λ banks are_banks e3.
    let read : ControllerValue = record { name = name; segment = segment; on = on; txfp = txfp; banks = banks } in
    let count : ℕ = node_count front segment (slice_get segments segment) in
    let test = passed_ok (nat_lt count (most_nodes format.version)) read c (too_many (codes "controllers")) e3 in
    let P : ControllerValue → Type 0 =
    λ one. (name ≡ one.name) × (node_count front one.segment (slice_get segments one.segment) < 64) in
    subst P test.1 (refl, nodes_below format.version count test.0))))

controller_ok : (format : Format) (segments : List SegmentValue) (front : List ControllerValue) (value : Data)
    (c : ControllerValue) → controller_of format segments front value ≡ Ok c → IsNewController segments front c
unfolding controller_of
controller_ok format segments front value c e =
    from_bind (element_of format.version (codes "controllers") controller_fields value) _ c e (λ from is_object e1.
    from_bind (new_name (codes "controllers") (all_talker_names segments ++ controller_names front) from) _ c e1
    (λ name is_name e2.
    from_bind (place_named (codes "segment") (segment_names segments) from) _ c e2 (λ segment is_segment e3.
    let room = controller_room format segments front name segment from c e3 in
    record {
      name = ap (λ n. is_among n (all_talker_names segments ++ controller_names front)) (sym room.0)
          ∙ new_name_ok (codes "controllers") (all_talker_names segments ++ controller_names front) from name is_name;
      room = room.1;
    })))

-- without controllers
few_at : (segments : List SegmentValue) (k place : ℕ) → Each HasFewTalkers segments →
    node_count [] place (slice_get segments k) ≤ 64
few_at [] k place few = omega arith
few_at (s ∷ ss) zero place few = omega (arith, few.0)
few_at (s ∷ ss) (suc k) place few = few_at ss k place few.1

pub controllers_ok : (format : Format) (segments : List SegmentValue) (from : Data) (cs : List ControllerValue) →
    AreApart (all_talker_names segments) → Each HasFewTalkers segments → controllers_of format segments from ≡ Ok cs →
    AreNewControllers segments cs
unfolding controllers_of
controllers_ok format segments from cs apart few e =
    from_bind (list (codes "controllers") 16 from) _ cs e (λ items is_list e1.
    each_after_keeps (controller_of format segments) (AreNewControllers segments)
    (λ front d c before is. controllers_more segments front c before (controller_ok format segments front d c is)) [] cs
    items
    (record {
      names = subst AreApart (sym (append-nil (all_talker_names segments))) apart;
      few = λ place. few_at segments place place few;
    }) e1)

-- routes that are read have names and FIFOs of their own, and at most eight lead into one controller
pub record AreNewRoutes (rs : List RouteValue) : Type 0 where
  pub names : AreApart (route_names rs)
  pub fifos : AllPairs TakesElsewhere rs
  pub few : (controller : ℕ) → routes_into controller rs ≤ 8

record IsNewRoute (front : List RouteValue) (r : RouteValue) : Type 0 where
  pub name : is_among r.name (route_names front) ≡ false
  pub fifo : list_any (takes_from r.source r.fifo) front ≡ false
  pub room : routes_into r.target front < 8

elsewhere : (front : List RouteValue) (r : RouteValue) (k : ℕ) (d : RouteValue) →
    list_any (takes_from r.source r.fifo) front ≡ false → k < length front → TakesElsewhere (get_or front k d) r
elsewhere front r k d none lt same =
    let other = get_or front k d in
    none_passes (takes_from r.source r.fifo) front k d none lt
    (ap (λ b. b && (other.fifo == r.fifo)) (eq-eqb other.source r.source same.0) ∙ eq-eqb other.fifo r.fifo same.1)

into_stays : (b : Bool) (count : ℕ) → count ≤ 8 → (b ≡ true → count < 8) → count + cond b 1 0 ≤ 8
into_stays true count before room = omega (arith, room refl)
into_stays false count before room = omega (arith, before)

into_more : (front : List RouteValue) (r : RouteValue) → ((controller : ℕ) → routes_into controller front ≤ 8) →
    routes_into r.target front < 8 → (controller : ℕ) → routes_into controller (front ++ r ∷ []) ≤ 8
into_more front r before room controller =
    let test : RouteValue → Bool = λ one. one.target == controller in
    let P : ℕ → Type 0 = λ k. routes_into k front < 8 in
    rw (count-more test front r) (into_stays (r.target == controller) (count_by test front) (before controller)
    (λ on. subst P (eqb-true r.target controller on) room))

routes_more : (front : List RouteValue) (r : RouteValue) → AreNewRoutes front → IsNewRoute front r →
    AreNewRoutes (front ++ r ∷ [])
routes_more front r before here = record {
  names = subst AreApart (sym (map-append (λ (one : RouteValue). one.name) front (r ∷ [])))
      (apart_more (route_names front) r.name before.names here.name);
  fifos = all_pairs_push TakesElsewhere front r before.fifos (λ k d lt. elsewhere front r k d here.fifo lt);
  few = into_more front r before.few here.room;
}

both_tests : (b t : Bool) (read r : RouteValue) (f g : Fault) →
    (if b then Err f else (if t then Ok read else Err g)) ≡ Ok r → (read ≡ r) × (b ≡ false) × (t ≡ true)
both_tests true t read r f g e = cc
both_tests false true read r f g e = (let same : read ≡ r = cc in same, refl, refl)
both_tests false false read r f g e = cc

placed_ok : (front : List RouteValue) (read r : RouteValue) → placed front read ≡ Ok r → (read ≡ r)
    × (list_any (takes_from r.source r.fifo) front ≡ false) × (routes_into r.target front < 8)
placed_ok front read r e =
    let h = both_tests (list_any (takes_from read.source read.fifo) front)
    (nat_lt (routes_into read.target front) 8) read r (fifo_twice (length front)) (too_many (codes "routes")) e in (
      h.0,
      ap (λ (one : RouteValue). list_any (takes_from one.source one.fifo) front) (sym h.0) ∙ h.1,
      let P : RouteValue → Type 0 = λ one. routes_into one.target front < 8 in
          subst P h.0 (ltb-true (routes_into read.target front) 8 h.2),
    )

route_ok : (format : Format) (controllers : List ControllerValue) (front : List RouteValue) (value : Data)
    (r : RouteValue) → route_of format controllers front value ≡ Ok r → IsNewRoute front r
unfolding route_of route_with
route_ok format controllers front value r e =
    from_bind (element_of format.version (codes "routes") route_fields value) _ r e (λ from is_object e1.
    from_bind (new_name (codes "routes") (route_names front) from) _ r e1 (λ name is_name e2.
    from_bind (place_named (codes "from") (controller_names controllers) from) _ r e2 (λ source is_source e3.
    from_bind (whole (codes "fifo") 0 1 from) _ r e3 (λ fifo is_fifo e4.
    from_bind (place_named (codes "to") (controller_names controllers) from) _ r e4 (λ target is_target e5.
    from_bind (rewrites_of format.version from) _ r e5 (λ rewrites are_rewrites e6.
    from_bind (pace_of format.version format.rate from) _ r e6 (λ pace is_pace e7.
    from_bind (queue_of format.version from) _ r e7 (λ queue is_queue e8.
    let h = placed_ok front (record {
      name = name;
      source = source;
      fifo = fifo;
      target = target;
      rewrites = rewrites;
      pace = pace;
      queue = queue;
    }) r e8 in
    record {
      name = ap (λ (one : RouteValue). is_among one.name (route_names front)) (sym h.0)
          ∙ new_name_ok (codes "routes") (route_names front) from name is_name;
      fifo = h.1;
      room = h.2;
    }))))))))

pub routes_ok : (format : Format) (controllers : List ControllerValue) (from : Data) (rs : List RouteValue) →
    routes_of format controllers from ≡ Ok rs → AreNewRoutes rs
unfolding routes_of
routes_ok format controllers from rs e =
    from_bind (list (codes "routes") 16 from) _ rs e (λ items is_list e1.
    each_after_keeps (route_of format controllers) AreNewRoutes
    (λ front d r before is. routes_more front r before (route_ok format controllers front d r is)) [] rs items
    (record {
      names = λ i j d below within. absurd (omega arith);
      fifos = λ i j d below within. absurd (omega arith);
      few = λ controller. omega arith;
    }) e1)

-- what the lists of a script keep
pub record IsOrderly (s : ScriptValue) : Type 0 where
  pub few_nodes : (segment : ℕ) → segment < length s.segments → length (names_of_nodes s segment) ≤ 64
  pub few_into : (controller : ℕ) → routes_into controller s.routes ≤ 8
  pub few_messages : Each (λ (segment : SegmentValue). Each HasFewMessages segment.talkers) s.segments
  pub own_fifos : AllPairs TakesElsewhere s.routes
  pub fault_nodes : Each (IsAtNode s) s.faults
  pub segment_names : AreApart (segment_names s.segments)
  pub node_names : AreApart (all_talker_names s.segments ++ controller_names s.controllers)
  pub route_names : AreApart (route_names s.routes)

within : {A : Type 0} (xs : List A) (k : ℕ) → k < length xs → (x : A) × (slice_get xs k ≡ Some x)
within [] k lt = absurd (omega (arith, lt))
within (x ∷ xs) zero lt = (x, refl)
within (x ∷ xs) (suc k) lt = within xs k (omega (arith, lt))

-- as many names as nodes
names-count : (controllers : List ControllerValue) (place : ℕ) (s : SegmentValue) →
    length (node_names controllers place s) ≡ node_count controllers place (Some s)
names-count controllers place s = length-names s.talkers place controllers

few_on : (s : ScriptValue) (segment : ℕ) (here : SegmentValue) → slice_get s.segments segment ≡ Some here →
    HaveFewNodes s.segments s.controllers → length (names_of_nodes s segment) ≤ 64
few_on s segment here is few =
    let P : ℕ → Type 0 = λ n. n ≤ 64 in
    let at : length (node_names s.controllers segment here) ≤ 64 =
    subst P (ap (node_count s.controllers segment) is ∙ sym (names-count s.controllers segment here)) (few segment) in
    subst P (ap (λ o. length (talker_names (talkers_on o) ++ controller_names (controllers_on segment s.controllers)))
    (sym is)) at

at_node : (s : ScriptValue) (f : PlannedFault) → IsFaultAtNode s.segments s.controllers f → IsAtNode s f
at_node s (AtNode node bit until) (here, is, below) =
    let P : ℕ → Type 0 = λ n. node.place < n in
    subst P
    (ap (λ o. length (talker_names (talkers_on o) ++ controller_names (controllers_on node.segment s.controllers)))
    (sym is)) below
at_node s (OnLine segment bit until level) at = tt

-- a script whose lists are read is orderly
pub script_orderly : (format : Format) (s : ScriptValue) (from : Data) → segments_of format from ≡ Ok s.segments →
    controllers_of format s.segments from ≡ Ok s.controllers → routes_of format s.controllers from ≡ Ok s.routes →
    planned_faults_of format s.segments s.controllers from ≡ Ok s.faults → IsOrderly s
script_orderly format s from segments controllers routes faults =
    let a = segments_ok format from s.segments segments in
    let b = controllers_ok format s.segments from s.controllers a.talkers a.few controllers in
    let d = routes_ok format s.controllers from s.routes routes in
    record {
      few_nodes = λ segment lt. let h = within s.segments segment lt in few_on s segment h.0 h.1 b.few;
      few_into = d.few;
      few_messages = a.messages;
      own_fifos = d.fifos;
      fault_nodes = each_weaker (IsFaultAtNode s.segments s.controllers) (IsAtNode s) (at_node s) s.faults
          (faults_ok format s.segments s.controllers from s.faults faults);
      segment_names = a.names;
      node_names = b.names;
      route_names = d.names;
    }
