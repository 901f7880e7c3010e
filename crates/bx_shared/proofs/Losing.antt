-- What a route's seat knows where its request lost and its claim is given back.
use Rattle.std.proofs.Common.{◌≡◌, ℕ, List, ◌++◌, refl, subst, append_assoc}
use Rattle.bx_core.specs.declared.point.Point.{Point}
use Rattle.bx_core.specs.Gate.{Passes}
use Rattle.bx_words.specs.Lanes.{lane_of, filling}
use Rattle.bx_shared.specs.declared.route_view.RouteView.{RouteView}
use Rattle.bx_shared.specs.Steps.{looked, missed, withdrawn, IsOwn}
use Rattle.bx_shared.specs.Seats.{SameFilling, IsLost}

-- in both words the mailbox that the seat fills is its own, and no other is
pub fills_same : (p : RouteView) (seen found : ℕ) → IsOwn p seen → IsOwn (looked p seen) found →
    SameFilling p.route seen found
fills_same p seen found a b = record {
  on = λ m small is. let t = a.only m small is in subst (λ (k : ℕ). lane_of found k ≡ filling p.route) t.1 (b.own t.0);
  back = λ m small is. let t = b.only m small is in subst (λ (k : ℕ). lane_of seen k ≡ filling p.route) t.1 (a.own t.0);
}

pub gives_back : (p : RouteView) (seen found : ℕ) → IsOwn p seen → IsOwn (looked p seen) found → ¬ (found ≡ seen) →
    IsLost p (withdrawn (missed (looked p seen) found)) found
gives_back p seen found a b n = record {
  rests = record { route = refl; aborted = refl; asked = refl; claims = refl };
  contended = record { requested = refl; last = refl; found = refl; differs = n; same = fills_same p seen found a b };
  looks = refl;
}

-- what a gate heard over two stretches
pub passes_on : {G : Type 0} (may_have_heard : G → List Point → Type 0) (xs ys : List Point) (a b c : G) →
    Passes may_have_heard xs a b → Passes may_have_heard ys b c → Passes may_have_heard (xs ++ ys) a c
passes_on may_have_heard xs ys a b c f g told h =
    subst (may_have_heard c) (append_assoc told xs ys) (g (told ++ xs) (f told h))
