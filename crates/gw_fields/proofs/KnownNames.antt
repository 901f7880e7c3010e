-- Laws of the names of an object's fields.
use Rattle.std.proofs.Common.{◌≡◌, List, [], ◌∷◌, map, Bool, refl, ap, ◌||◌, ◌&&◌, string_bytes, String, ℕ}
use Rattle.std.specs.List.{list_all, list_any}
use Rattle.std.specs.Map.{keys_of}
use Rattle.std.specs.declared.alloc.Global.{Global}
use Rattle.serde_json.specs.View.{members_view}
use Rattle.serde_json.specs.declared.value.Value.{Value}
use Rattle.gw_fields.specs.Known.{member_names}

pub any_map : {X Y : Type 0} (p : Y → Bool) (f : X → Y) (xs : List X) →
    list_any p (map f xs) ≡ list_any (λ x. p (f x)) xs
any_map p f [] = refl
any_map p f (x ∷ xs) = ap (λ b. p (f x) || b) (any_map p f xs)

-- a test of the names of an object's members is one of the keys of its map
pub all_names : (p : List ℕ → Bool) (ms : List (String Global × Value)) →
    list_all p (member_names (members_view ms)) ≡ list_all (λ name. p (string_bytes name)) (keys_of ms)
all_names p [] = refl
all_names p (m ∷ ms) = ap (λ b. p (string_bytes m.0) && b) (all_names p ms)
