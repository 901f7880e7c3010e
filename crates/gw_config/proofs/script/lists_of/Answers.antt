-- The script is sound.
use Rattle.std.proofs.Common.{◌∙◌, ap, sym, subst, List, rules}
use Rattle.serde_json.specs.View.{view}
use Rattle.bx_core.specs.Lists.{Each}
use Rattle.gw_config.specs.Segments.{SegmentValue}
use Rattle.gw_config.specs.SoundScripts.{IsFaultIn}
use Rattle.gw_config.specs.Controllers.{controllers_of}
use Rattle.gw_config.specs.Routes.{routes_of}
use Rattle.gw_config.specs.PlannedFaults.{planned_faults_of}
use Rattle.gw_config.specs.Scripts.{ScriptValue}
use Rattle.gw_config.proofs.SoundNodes.{script_orderly}
use Rattle.gw_config.proofs.script.lists_of.Goals as goal

pub returns-clause-sound : goal.returns-clause-sound
returns-clause-sound c =
    let from = view c.args.from.now in
    let s : ScriptValue = record {
      rate = c.args.format.rate;
      bits = c.args.format.bits;
      segments = c.in_ok-segments.segments.items;
      controllers = c.in_ok-controllers.controllers.items;
      routes = c.in_ok-routes.routes.items;
      faults = c.in_ok-faults.faults.items;
      aborts = c.in_ok-aborts.aborts.items;
    } in
    let format = c.args.format in
    let orderly = script_orderly format s from c.in_ok-segments.ensures.value
    (ap (λ ss. controllers_of format ss from) (sym c.as_slice.ensures.value) ∙ c.in_ok-controllers.ensures.value)
    (ap (λ cs. routes_of format cs from) (sym c.as_slice-2.ensures.value) ∙ c.in_ok-routes.ensures.value)
    (ap (λ ss. planned_faults_of format ss s.controllers from) (sym c.as_slice-3.ensures.value)
    ∙ ap (λ cs. planned_faults_of format c.as_slice-3.result.now cs from) (sym c.as_slice-4.ensures.value)
    ∙ c.in_ok-faults.ensures.value) in
    record {
      some_bits = search rules;
      few_bits = search rules;
      some_segments = search rules;
      few_segments = search rules;
      few_controllers = search rules;
      few_routes = search rules;
      few_faults = search rules;
      few_aborts = search rules;
      segments = search rules;
      controllers = search rules;
      routes = search rules;
      faults =
          let P : List SegmentValue → Type 0 = λ ss. Each (IsFaultIn format.bits ss) s.faults in
          subst P c.as_slice-3.ensures.value c.in_ok-faults.ensures.range;
      aborts = search rules;
      few_nodes = orderly.few_nodes;
      few_into = orderly.few_into;
      few_messages = orderly.few_messages;
      own_fifos = orderly.own_fifos;
      fault_nodes = orderly.fault_nodes;
      segment_names = orderly.segment_names;
      node_names = orderly.node_names;
      route_names = orderly.route_names;
    }
