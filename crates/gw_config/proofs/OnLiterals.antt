-- Readings of JSON texts, which are computed.
use Rattle.std.proofs.Common.{ℕ, List, option_map, Option, Result}
use Rattle.std.specs.Prelude.{⊤}
use Rattle.hex.proofs.OnLiterals.{hex_on_literals}
use Rattle.serde_json.proofs.OnLiterals.{serde_json_on_literals}
use Rattle.serde_json.specs.Data.{Data}
use Rattle.serde_json.specs.Read.{read}
use Rattle.gw_fields.specs.Faults.{Fault}
use Rattle.gw_fields.specs.Fields.{object_of, field, natural_of, whole_of, natural, whole, truth, text_of, text}
use Rattle.gw_fields.specs.Fields.{list_of, list, some_list, filled_list, optional_list, optional_truth}
use Rattle.gw_fields.specs.Known.{known_fields}
use Rattle.gw_fields.specs.Optional.{optional_whole, optional_text, maybe_truth}
use Rattle.gw_fields.specs.Durations.{duration_text, duration_of, duration, optional_duration}
use Rattle.gw_fields.specs.IdentifierTexts.{identifier_text, accept_text}
use Rattle.gw_fields.specs.FrameTexts.{frame_text}
use Rattle.gw_fields.specs.Frames.{identifier_of, data_frame, remote_frame, frame_of}
use Rattle.gw_fields.specs.Names.{formed_name, new_name, place_named}
use Rattle.gw_config.specs.Versions.{version_of}
use Rattle.gw_config.specs.Objects.{element_of}
use Rattle.gw_config.specs.Messages.{message_with, object_message, plain_message, next_message}
use Rattle.gw_config.specs.Talkers.{talker_of}
use Rattle.gw_config.specs.Segments.{segment_of, segments_of}
use Rattle.gw_config.specs.Filters.{filter_of, listed_filters}
use Rattle.gw_config.specs.BankLists.{scale_of, mode_of, settings_of, number_of, listed_bank, banks_of}
use Rattle.gw_config.specs.Controllers.{controller_with, controller_of, controllers_of}
use Rattle.gw_config.specs.Rewrites.{number_rewrite, identifier_in, text_rewrite, listed_rewrites}
use Rattle.gw_config.specs.Paces.{pace_with}
use Rattle.gw_config.specs.Routes.{route_with, route_of, routes_of}
use Rattle.gw_config.specs.PlannedFaults.{listed_until, node_fault, line_fault, planned_fault_of, planned_faults_of}
use Rattle.gw_config.specs.PlannedAborts.{planned_abort_of, planned_aborts_of}
use Rattle.gw_config.specs.Scripts.{lists_of, known_script, format_of, script_of}

-- what a JSON text reads as; `None` where it is no JSON
abbrev pub read_as : {A : Type 0} → (Data → Result A Fault) → List ℕ → Option (Result A Fault)
read_as reading text = option_map reading (read text)

unfoldable values_on_literals : ⊤
unfolding object_of field natural_of whole_of natural whole truth text_of text list_of list some_list filled_list
values_on_literals = tt

unfoldable optional_on_literals : ⊤
unfolding optional_list optional_truth optional_whole optional_text maybe_truth optional_duration known_fields
optional_on_literals = tt

unfoldable texts_on_literals : ⊤
unfolding duration_text duration_of duration identifier_text accept_text frame_text formed_name new_name place_named
texts_on_literals = tt

unfoldable frames_on_literals : ⊤
unfolding identifier_of data_frame remote_frame frame_of message_with object_message plain_message next_message
frames_on_literals = tt

unfoldable nodes_on_literals : ⊤
unfolding element_of talker_of segment_of segments_of controller_with controller_of controllers_of
nodes_on_literals = tt

unfoldable banks_on_literals : ⊤
unfolding filter_of listed_filters scale_of mode_of settings_of number_of listed_bank banks_of
banks_on_literals = tt

unfoldable routes_on_literals : ⊤
unfolding number_rewrite identifier_in text_rewrite listed_rewrites pace_with route_with route_of routes_of
routes_on_literals = tt

unfoldable plans_on_literals : ⊤
unfolding listed_until node_fault line_fault planned_fault_of planned_faults_of planned_abort_of planned_aborts_of
plans_on_literals = tt

unfoldable scripts_on_literals : ⊤
unfolding version_of known_script format_of lists_of script_of
scripts_on_literals = tt

unfoldable readers_on_literals : ⊤
unfolding nodes_on_literals banks_on_literals routes_on_literals plans_on_literals scripts_on_literals
readers_on_literals = tt

unfoldable fields_on_literals : ⊤
unfolding values_on_literals optional_on_literals texts_on_literals frames_on_literals
fields_on_literals = tt

-- what an answer unfolds to compute what a text reads as
unfoldable pub on_literals : ⊤
unfolding serde_json_on_literals hex_on_literals fields_on_literals readers_on_literals
on_literals = tt
