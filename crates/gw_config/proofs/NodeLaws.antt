-- Laws of nodes and their places.
use Rattle.std.proofs.Common.{◌≡◌, ◌∙◌, ap, sym, ℕ, suc, ◌+◌, ◌<◌, ◌≤◌, ◌==◌, List, [], ◌∷◌, ◌++◌, length, drop, get_or}
use Rattle.std.proofs.Common.{count_by, length-append, Bool, true, false, cond, Some, None, drop-cons, add-one, arith}
use Rattle.std.proofs.lemmas.Bool.{eq-eqb}
use Rattle.std.proofs.lemmas.List.{drop_all, length-map}
use Rattle.std.proofs.lemmas.List.Sums.{length-filter}
use Rattle.std.specs.List.{position_from}
use Rattle.std.specs.Str.{bytes_eq}
use Rattle.gw_config.specs.Talkers.{TalkerValue, talker_names}
use Rattle.gw_config.specs.Segments.{SegmentValue}
use Rattle.gw_config.specs.Controllers.{ControllerValue, controller_names, controllers_on, node_names}
use Rattle.gw_config.specs.PlannedFaults.{node_from, or_later}

-- the controllers on a segment, among those that are left, by whether the first is on it
abbrev pub names_left : Bool → ControllerValue → ℕ → List ControllerValue → List (List ℕ)
names_left b c place cs = controller_names (cond b (c ∷ controllers_on place cs) (controllers_on place cs))

left-step : (place : ℕ) (cs : List ControllerValue) (i : ℕ) (c : ControllerValue) → i < length cs → c ≡ get_or cs i c →
    controller_names (controllers_on place (drop i cs)) ≡ names_left (c.segment == place) c place (drop (i + 1) cs)
left-step place cs i c lt is =
    ap (λ xs. controller_names (controllers_on place xs)) (drop-cons cs i c lt ∙ ap (λ x. x ∷ drop (suc i) cs) (sym is)
    ∙ ap (λ n. c ∷ drop n cs) (sym (add-one i)))

pub on_here : (place : ℕ) (cs : List ControllerValue) (i : ℕ) (c : ControllerValue) → i < length cs →
    c ≡ get_or cs i c → c.segment ≡ place →
    controller_names (controllers_on place (drop i cs)) ≡ c.name ∷ controller_names
    (controllers_on place (drop (i + 1) cs))
on_here place cs i c lt is on =
    left-step place cs i c lt is ∙ ap (λ b. names_left b c place (drop (i + 1) cs)) (eq-eqb c.segment place on)

pub on_found : (name : List ℕ) (node place : ℕ) (cs : List ControllerValue) (i : ℕ) (c : ControllerValue) →
    i < length cs → c ≡ get_or cs i c → c.segment ≡ place →
    bytes_eq name c.name ≡ true → position_from (bytes_eq name) node
    (controller_names (controllers_on place (drop i cs))) ≡ Some node
on_found name node place cs i c lt is on found =
    ap (position_from (bytes_eq name) node) (on_here place cs i c lt is on)
    ∙ ap
    (λ b. cond b (Some node) (position_from (bytes_eq name) (node + 1)
    (controller_names (controllers_on place (drop (i + 1) cs))))) found

pub on_passed : (name : List ℕ) (node place : ℕ) (cs : List ControllerValue) (i : ℕ) (c : ControllerValue) →
    i < length cs → c ≡ get_or cs i c → c.segment ≡ place →
    bytes_eq name c.name ≡ false → position_from (bytes_eq name) node
    (controller_names (controllers_on place (drop i cs)))
    ≡ position_from (bytes_eq name) (node + 1) (controller_names (controllers_on place (drop (i + 1) cs)))
on_passed name node place cs i c lt is on passed =
    ap (position_from (bytes_eq name) node) (on_here place cs i c lt is on)
    ∙ ap
    (λ b. cond b (Some node) (position_from (bytes_eq name) (node + 1)
    (controller_names (controllers_on place (drop (i + 1) cs))))) passed

pub on_end : (name : List ℕ) (node place : ℕ) (cs : List ControllerValue) (i : ℕ) → length cs ≤ i →
    position_from (bytes_eq name) node (controller_names (controllers_on place (drop i cs))) ≡ None
on_end name node place cs i beyond =
    ap (λ xs. position_from (bytes_eq name) node (controller_names (controllers_on place xs))) (drop_all i cs beyond)

-- a name that the first part has
pub position-append-found : (test : List ℕ → Bool) (n k : ℕ) (xs ys : List (List ℕ)) →
    position_from test n xs ≡ Some k → position_from test n (xs ++ ys) ≡ Some k
position-append-found test n k [] ys e = cc
position-append-found test n k (x ∷ xs) ys e =
    elim (test x) as (λ b. cond b (Some n) (position_from test (n + 1) xs) ≡ Some k →
    cond b (Some n) (position_from test (n + 1) (xs ++ ys)) ≡ Some k) [
      | true ↦ λ h. h
      | false ↦ λ h. position-append-found test (n + 1) k xs ys h
    ] e

-- and one that it doesn't have
pub position-append-later : (test : List ℕ → Bool) (n m : ℕ) (xs ys : List (List ℕ)) → position_from test n xs ≡ None →
    m ≡ n + length xs →
    position_from test n (xs ++ ys) ≡ position_from test m ys
position-append-later test n m [] ys e is =
    ap (λ k. position_from test k ys) (let same : n ≡ m = omega (arith, is) in same)
position-append-later test n m (x ∷ xs) ys e is =
    elim (test x) as (λ b. cond b (Some n) (position_from test (n + 1) xs) ≡ None →
    cond b (Some n) (position_from test (n + 1) (xs ++ ys)) ≡ position_from test m ys) [
      | true ↦ λ h. cc
      | false ↦ λ h. position-append-later test (n + 1) m xs ys h (omega (arith, is))
    ] e

-- the first segment of those that are left
node-step : (cs : List ControllerValue) (name : List ℕ) (ss : List SegmentValue) (i : ℕ) (s : SegmentValue) →
    i < length ss → s ≡ get_or ss i s →
    node_from cs name i (drop i ss) ≡ or_later i (position_from (bytes_eq name) 0 (node_names cs i s))
    (node_from cs name (i + 1) (drop (i + 1) ss))
node-step cs name ss i s lt is =
    ap (node_from cs name i) (drop-cons ss i s lt ∙ ap (λ x. x ∷ drop (suc i) ss) (sym is)
    ∙ ap (λ n. s ∷ drop n ss) (sym (add-one i)))

pub node_here : (cs : List ControllerValue) (name : List ℕ) (ss : List SegmentValue) (i node : ℕ) (s : SegmentValue) →
    i < length ss → s ≡ get_or ss i s →
    position_from (bytes_eq name) 0 (node_names cs i s) ≡ Some node →
    node_from cs name i (drop i ss) ≡ Some (record { segment = i; place = node })
node_here cs name ss i node s lt is found =
    node-step cs name ss i s lt is ∙ ap (λ o. or_later i o (node_from cs name (i + 1) (drop (i + 1) ss))) found

pub node_later : (cs : List ControllerValue) (name : List ℕ) (ss : List SegmentValue) (i : ℕ) (s : SegmentValue) →
    i < length ss → s ≡ get_or ss i s →
    position_from (bytes_eq name) 0 (node_names cs i s) ≡ None →
    node_from cs name i (drop i ss) ≡ node_from cs name (i + 1) (drop (i + 1) ss)
node_later cs name ss i s lt is none =
    node-step cs name ss i s lt is ∙ ap (λ o. or_later i o (node_from cs name (i + 1) (drop (i + 1) ss))) none

pub node_nowhere : (cs : List ControllerValue) (name : List ℕ) (ss : List SegmentValue) (i : ℕ) → length ss ≤ i →
    node_from cs name i (drop i ss) ≡ None
node_nowhere cs name ss i beyond = ap (node_from cs name i) (drop_all i ss beyond)

-- as many names as talkers and controllers
pub length-names : (ts : List TalkerValue) (place : ℕ) (cs : List ControllerValue) →
    length (talker_names ts ++ controller_names (controllers_on place cs)) ≡ length ts
    + count_by (λ (c : ControllerValue). c.segment == place) cs
length-names ts place cs =
    let on = controllers_on place cs in
    length-append (talker_names ts) (controller_names on)
    ∙ ap (λ n. n + length (controller_names on)) (length-map ts (λ (t : TalkerValue). t.name))
    ∙ ap (λ n. length ts + n) (length-map on (λ (one : ControllerValue). one.name)
    ∙ length-filter (λ (one : ControllerValue). one.segment == place) cs)
