use Rattle.std.proofs.Common.{◌≡◌, drop, map}
use Rattle.std.specs.List.{position_from}
use Rattle.std.specs.Str.{bytes_eq}
use Rattle.gw_fields.proofs.name.place_of.Given as goal

abbrev pub invariant-loop-place : goal.invariant-loop-place
invariant-loop-place g l = position_from (bytes_eq l.name) l.place (map g.T.Named.name_of (drop l.place l.all))
    ≡ position_from (bytes_eq l.name) 0 (map g.T.Named.name_of l.all)
