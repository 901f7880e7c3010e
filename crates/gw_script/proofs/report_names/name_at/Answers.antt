-- What stands at a place of the list has the name that stands there.
use Rattle.std.proofs.Common.{◌≡◌, ◌<◌, ℕ, List, length, map, get_or}
use Rattle.std.proofs.lemmas.Option.{slice_get-map, slice_get-get_or}
use Rattle.gw_script.specs.ReportTexts.{name_at}
use Rattle.gw_script.proofs.report_names.name_at.Goals as goal

read-name : {A : Type 0} (name : A → List ℕ) (xs : List A) (i : ℕ) (d : A) → i < length xs →
    name (get_or xs i d) ≡ name_at (map name xs) i
read-name name xs i d within = rw (slice_get-map name xs i, slice_get-get_or xs i d within)

pub returns : goal.returns
returns c = read-name (λ name. name.now) c.args.names.now c.args.place _ c.requires
