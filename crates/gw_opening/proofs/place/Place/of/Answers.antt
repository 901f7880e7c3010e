use Rattle.std.proofs.Common.{◌≡◌, ◌+◌, ◌==◌, Some, length, take, count_by, slice_get, refl, arith, ap, sym, ◌∙◌}
use Rattle.std.proofs.lemmas.Bool.{eq-eqb}
use Rattle.std.proofs.lemmas.Option.{slice_get_read}
use Rattle.gw_config.specs.Controllers.{ControllerValue}
use Rattle.gw_config.specs.Nodes.{controller_places}
use Rattle.gw_opening.proofs.PlacesWhere.{place-found}
use Rattle.gw_opening.proofs.place.Place.of.Goals as goal

pub returns : goal.returns
returns c =
    let segment = c.segment-site.result in
    let all = c.controllers-controllers.result.now in
    let said = c.args.script.now.controllers in
    let k = c.args.controller in
    let test = λ (x : ControllerValue). x.segment == segment in
    let one = c.index-controllers-controller.result in
    let found : slice_get all k ≡ Some one = slice_get_read all (length all) k one refl
    (omega (arith, c.requires, ap length c.controllers-controllers.ensures)) c.index-controllers-controller.is in
    let here : slice_get said k ≡ Some one =
    ap (λ xs. slice_get xs k) (sym c.controllers-controllers.ensures) ∙ found in
    ap (slice_get (controller_places c.args.script.now segment)) (c.among_controllers-port.ensures
    ∙ ap (λ xs. count_by test (take k xs)) c.controllers-controllers.ensures)
    ∙ place-found test 0 said k one here (eq-eqb one.segment segment (sym c.segment-site.ensures))
    ∙ ap Some (let same : 0 + k ≡ k = omega arith in same)
