use Rattle.std.proofs.Common.{◌∙◌, ap, is_some, map}
use Rattle.std.specs.Str.{bytes_eq}
use Rattle.gw_fields.proofs.Places.{any-position}
use Rattle.gw_fields.proofs.name.is_among.Goals as goal

pub returns : goal.returns
returns g c = c.is_some.ensures ∙ ap is_some c.place_of.ensures.value
    ∙ any-position (bytes_eq c.args.name.now) 0 (map g.T.Named.name_of c.args.all.now)
