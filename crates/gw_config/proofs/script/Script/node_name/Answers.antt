-- A talker, or a controller behind the talkers.
use Rattle.std.proofs.Common.{◌≡◌, ◌∙◌, ap, sym, refl, ℕ, ◌-◌, ◌≤◌, List, ◌++◌, length, get_or, slice_get, Option, Some}
use Rattle.std.proofs.Common.{None, arith}
use Rattle.std.proofs.lemmas.List.{length-map}
use Rattle.std.proofs.lemmas.Option.{slice_get_read, slice_get-map}
use Rattle.std.specs.Option.{option_map}
use Rattle.gw_config.specs.Talkers.{TalkerValue, talker_names}
use Rattle.gw_config.specs.Controllers.{ControllerValue, controller_names, controllers_on}
use Rattle.gw_config.specs.Nodes.{talkers_on}
use Rattle.gw_config.specs.Scripts.{ScriptValue}
use Rattle.gw_config.proofs.WhereLaws.{get-append-second}
use Rattle.gw_config.proofs.script.Script.node_name.Goals as goal

-- a name behind those of the talkers
behind : (ts all : List TalkerValue) (on : List ControllerValue) (node : ℕ) (found : Option ControllerValue) →
    ts ≡ all → length ts ≤ node →
    found ≡ slice_get on (node - length ts) → option_map (λ (one : ControllerValue). one.name) found
    ≡ slice_get (talker_names all ++ controller_names on) node
behind ts all on node found same beyond is =
    let names = talker_names ts in
    let size : length names ≡ length ts = length-map ts (λ (t : TalkerValue). t.name) in
    ap (option_map (λ (one : ControllerValue). one.name)) is
    ∙ sym (slice_get-map (λ (one : ControllerValue). one.name) on (node - length ts))
    ∙ ap (λ n. slice_get (controller_names on) (node - n)) (sym size)
    ∙ sym (get-append-second names (controller_names on) node
    (let least : length names ≤ node = omega (arith, size, beyond) in least))
    ∙ ap (λ (us : List TalkerValue). slice_get (talker_names us ++ controller_names on) node) same

pub returns-in-Some : goal.returns-in-Some
returns-in-Some c =
    let s = c.args.self.now in
    let here : slice_get s.controllers c.in-Some.place ≡ Some c.index.result.now =
    slice_get_read s.controllers (length s.controllers) c.in-Some.place c.index.result.now refl c.in-Some.ensures.range
    (c.index.ensures ∙ ap (λ (v : ScriptValue). get_or v.controllers c.in-Some.place c.index.result.now)
    c.self.view_is) in
    ap Some c.name-in-Some.ensures
    ∙ behind c.talkers_on-talkers.result.now (talkers_on (slice_get s.segments c.args.segment))
    (controllers_on c.args.segment s.controllers) c.args.node (Some c.index.result.now)
    c.talkers_on-talkers.ensures c.if-node-talkers.false (sym here ∙ c.in-Some.ensures.controller)

pub returns-in-None : goal.returns-in-None
returns-in-None c =
    let s = c.args.self.now in
    behind c.talkers_on-talkers.result.now (talkers_on (slice_get s.segments c.args.segment))
    (controllers_on c.args.segment s.controllers) c.args.node None
    c.talkers_on-talkers.ensures c.if-node-talkers.false c.in-None.ensures.controller
