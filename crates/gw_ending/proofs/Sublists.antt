-- What counts as aborted is a part of the log, in its order.
use Rattle.std.proofs.Common.{ℕ, Bool, true, false, cond, List, [], ◌∷◌, ◌++◌, fold, subst, append_assoc}
use Rattle.gw_route.specs.Sublists.{IsSublist}
use Rattle.gw_route.proofs.Sublists.{sublist_more, sublist_push, sublist_left}
use Rattle.gw_ending.specs.Headline.{is_among}
use Rattle.gw_ending.specs.Links.{settle, settled}

settle_sublist : (a b : Bool) (so_far front : List ℕ) (n : ℕ) → IsSublist so_far front →
    IsSublist (cond a so_far (cond b so_far (so_far ++ n ∷ []))) (front ++ n ∷ [])
settle_sublist true b so_far front n h = sublist_more so_far front n h
settle_sublist false true so_far front n h = sublist_more so_far front n h
settle_sublist false false so_far front n h = sublist_push so_far front n h

settled_from : (ended so_far front logged : List ℕ) → IsSublist so_far front →
    IsSublist (fold (settle ended) so_far logged) (front ++ logged)
settled_from ended so_far front [] h = sublist_left so_far front [] h
settled_from ended so_far front (n ∷ logged) h =
    subst (IsSublist (fold (settle ended) (settle ended so_far n) logged)) (append_assoc front (n ∷ []) logged)
    (settled_from ended (settle ended so_far n) (front ++ n ∷ []) logged
    (settle_sublist (is_among ended n) (is_among so_far n) so_far front n h))

-- what counts as aborted is of the log, in its order
pub settled_sublist : (ended logged : List ℕ) → IsSublist (settled ended logged) logged
settled_sublist ended logged = settled_from ended [] [] logged tt
