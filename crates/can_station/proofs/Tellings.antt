-- What the nodes' actions tell, node by node.
use Rattle.std.proofs.Common.{◌≡◌, ℕ, suc, ◌+◌, ◌<◌, List, [], ◌∷◌, ◌++◌, length, get_or, take, refl, sym, ap, arith}
use Rattle.std.proofs.Common.{◌∙◌, append_assoc}
use Rattle.std.proofs.lemmas.List.{append-nil, length-take}
use Rattle.std.proofs.Math.Seq.{take-suc}
use Rattle.can_station.specs.declared.event.EventKind.{EventKind}
use Rattle.can_station.specs.declared.action.Action.{Action}
use Rattle.can_station.specs.declared.member.Member.{Member}
use Rattle.can_station.specs.Lines.{lines}
use Rattle.can_station.specs.Tellings.{events_by}

pub reported-nil : (tells : Action → List EventKind) (bit node : ℕ) → events_by tells bit node [] ≡ []
unfolding events_by
reported-nil tells bit node = refl

pub reported-append : (tells : Action → List EventKind) (bit node : ℕ) (xs : List Member) (m : Member) →
    events_by tells bit node (xs ++ m ∷ []) ≡ events_by tells bit node xs ++ lines bit (node + length xs) (tells m.action)
unfolding events_by
reported-append tells bit node [] m =
    append-nil (lines bit node (tells m.action)) ∙ ap (λ n. lines bit n (tells m.action)) (omega arith)
reported-append tells bit node (x ∷ xs) m =
    ap (λ es. lines bit node (tells x.action) ++ es) (reported-append tells bit (node + 1) xs m)
    ∙ sym (append_assoc (lines bit node (tells x.action)) (events_by tells bit (node + 1) xs)
    (lines bit (node + 1 + length xs) (tells m.action)))
    ∙ ap (λ n. (lines bit node (tells x.action) ++ events_by tells bit (node + 1) xs) ++ lines bit n (tells m.action))
    (omega arith)

-- one node more
pub reported_next : (tells : Action → List EventKind) (bit node : ℕ) (members : List Member) (i : ℕ) (d : Member) →
    i < length members →
    events_by tells bit node (take (i + 1) members) ≡ events_by tells bit node (take i members)
    ++ lines bit (node + i) (tells (get_or members i d).action)
reported_next tells bit node members i d room =
    let one : i + 1 ≡ suc i = omega arith in
    ap (λ n. events_by tells bit node (take n members)) one ∙ ap (events_by tells bit node) (take-suc members i d room)
    ∙ reported-append tells bit node (take i members) (get_or members i d)
    ∙ ap (λ n. events_by tells bit node (take i members) ++ lines bit (node + n) (tells (get_or members i d).action))
    (length-take i members ∙ omega (arith, room))
