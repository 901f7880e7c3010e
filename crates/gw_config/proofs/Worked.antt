-- Worked values of scripts, by computing.
use Rattle.std.proofs.Common.{◌≡◌, refl, ℕ, List, [], ◌∷◌, ◌++◌, codes, Some, None, Ok, Err, true, false, replicate}
use Rattle.std.proofs.Common.{Result}
use Rattle.serde_json.specs.Data.{Data}
use Rattle.can_frame.specs.Frames.{standard, extended, data_bytes}
use Rattle.bx_rx.specs.Bank.{BankValue, unlisted}
use Rattle.gw_fields.specs.Faults.{Fault, wrong_kind, out_of_range, unknown_field, wrong_version}
use Rattle.gw_config.specs.declared.version.Version.TheVariants.{Two, Three}
use Rattle.gw_config.specs.declared.pace.Pace.{Pace}
use Rattle.gw_config.specs.declared.planned_fault.PlannedFault.TheVariants.{AtNode, OnLine}
use Rattle.gw_config.specs.Messages.{MessageValue, once}
use Rattle.gw_config.specs.Segments.{SegmentValue}
use Rattle.gw_config.specs.Rewrites.{entry_of}
use Rattle.gw_config.specs.PlannedFaults.{planned_fault_of}
use Rattle.gw_config.specs.Paces.{pace_of, pace_of_the_run}
use Rattle.gw_config.specs.Routes.{queue_of}
use Rattle.gw_config.specs.Scripts.{format_of, script_of}
use Rattle.gw_config.proofs.OnLiterals.{read_as, on_literals}
use Rattle.gw_config.proofs.WorkedMessages.{at_a_rate, version_two}
use Rattle.gw_config.proofs.WorkedFilters.{mask_bank}

-- rewrites

as_texts : read_as (entry_of Three) (codes "{\"from\":\"100\",\"to\":\"18FF0100\"}")
    ≡ Some (Ok (record { from = standard 0x100; to = extended 0x18FF_0100 }))
unfolding on_literals
as_texts = refl

from_before_to : read_as (entry_of Three) (codes "{\"from\":\"800\",\"to\":7}")
    ≡ Some (Err (out_of_range (codes "from")))
unfolding on_literals
from_before_to = refl

to_too_large : read_as (entry_of Three) (codes "{\"from\":\"7FF\",\"to\":\"20000000\"}")
    ≡ Some (Err (out_of_range (codes "to")))
unfolding on_literals
to_too_large = refl

as_numbers : read_as (entry_of Three) (codes "{\"id\":1,\"ext\":false,\"new_id\":2,\"new_ext\":false}")
    ≡ Some (Err (unknown_field (codes "rewrite")))
unfolding on_literals
as_numbers = refl

-- faults

abbrev one_segment : List SegmentValue
one_segment = record { name = codes "a"; talkers = record { name = codes "t"; on = 0; messages = [] } ∷ [] } ∷ []

one_bit : read_as (planned_fault_of at_a_rate one_segment []) (codes "{\"node\":\"t\",\"bit\":\"1ms\"}")
    ≡ Some (Ok (AtNode (record { segment = 0; place = 0 }) 500 501))
unfolding on_literals
one_bit = refl

one_millisecond : read_as (planned_fault_of at_a_rate one_segment [])
    (codes "{\"segment\":\"a\",\"bit\":\"5ms\",\"until\":\"6ms\",\"level\":1}")
    ≡ Some (Ok (OnLine 0 2500 3000 true))
unfolding on_literals
one_millisecond = refl

to_the_end :
    read_as (planned_fault_of at_a_rate one_segment []) (codes "{\"node\":\"t\",\"bit\":9999999,\"until\":\"20s\"}")
    ≡ Some (Ok (AtNode (record { segment = 0; place = 0 }) 9999999 10000000))
unfolding on_literals
to_the_end = refl

beyond_the_end :
    read_as (planned_fault_of at_a_rate one_segment []) (codes "{\"node\":\"t\",\"bit\":9999999,\"until\":10000001}")
    ≡ Some (Err (out_of_range (codes "until")))
unfolding on_literals
beyond_the_end = refl

ends_as_it_begins :
    read_as (planned_fault_of at_a_rate one_segment []) (codes "{\"node\":\"t\",\"bit\":5,\"until\":5}")
    ≡ Some (Err (out_of_range (codes "until")))
unfolding on_literals
ends_as_it_begins = refl

until_before_level :
    read_as (planned_fault_of at_a_rate one_segment []) (codes "{\"segment\":\"a\",\"bit\":5,\"until\":5}")
    ≡ Some (Err (out_of_range (codes "until")))
unfolding on_literals
until_before_level = refl

unread_at_a_node :
    read_as (planned_fault_of at_a_rate one_segment []) (codes "{\"node\":\"t\",\"segment\":1,\"bit\":5,\"level\":7}")
    ≡ Some (Ok (AtNode (record { segment = 0; place = 0 }) 5 6))
unfolding on_literals
unread_at_a_node = refl

unknown_of_a_fault :
    read_as (planned_fault_of at_a_rate one_segment []) (codes "{\"node\":\"t\",\"bit\":5,\"end\":6}")
    ≡ Some (Err (unknown_field (codes "faults")))
unfolding on_literals
unknown_of_a_fault = refl

one_bit_in_version_two :
    read_as (planned_fault_of version_two one_segment []) (codes "{\"node\":\"t\",\"bit\":5,\"until\":0}")
    ≡ Some (Ok (AtNode (record { segment = 0; place = 0 }) 5 6))
unfolding on_literals
one_bit_in_version_two = refl

-- rates

bits_of_a_time : read_as format_of (codes "{\"version\":3,\"bitrate\":500000,\"bits\":\"20s\"}")
    ≡ Some (Ok (record { version = Three; rate = Some 500000; bits = 10000000 }))
unfolding on_literals
bits_of_a_time = refl

longest_run : read_as format_of (codes "{\"version\":3,\"$schema\":\"s\",\"bits\":100000000}")
    ≡ Some (Ok (record { version = Three; rate = None; bits = 100000000 }))
unfolding on_literals
longest_run = refl

too_long_a_run : read_as format_of (codes "{\"version\":3,\"bits\":100000001}")
    ≡ Some (Err (out_of_range (codes "bits")))
unfolding on_literals
too_long_a_run = refl

too_slow : read_as format_of (codes "{\"version\":3,\"bitrate\":999}") ≡ Some (Err (out_of_range (codes "bitrate")))
unfolding on_literals
too_slow = refl

time_without_a_rate : read_as format_of (codes "{\"version\":3,\"bits\":\"20s\"}")
    ≡ Some (Err (wrong_kind (codes "bits")))
unfolding on_literals
time_without_a_rate = refl

unknown_before_the_rate : read_as format_of (codes "{\"version\":3,\"bitrate\":0,\"expect\":[]}")
    ≡ Some (Err (unknown_field (codes "script")))
unfolding on_literals
unknown_before_the_rate = refl

no_rate_in_version_two : read_as format_of (codes "{\"version\":2,\"bitrate\":0,\"bits\":300}")
    ≡ Some (Ok (record { version = Two; rate = None; bits = 300 }))
unfolding on_literals
no_rate_in_version_two = refl

too_long_in_version_two : read_as format_of (codes "{\"version\":2,\"bits\":1000001}")
    ≡ Some (Err (out_of_range (codes "bits")))
unfolding on_literals
too_long_in_version_two = refl

version_before_unknown : read_as format_of (codes "{\"version\":4,\"expect\":[]}") ≡ Some (Err wrong_version)
unfolding on_literals
version_before_unknown = refl

-- when a route makes its turns

abbrev pub at_half_a_megabit : Data → Result Pace Fault
at_half_a_megabit = pace_of Three (Some 500000)

eight_each_millisecond : read_as at_half_a_megabit (codes "{\"burst\":8,\"every\":\"1ms\"}")
    ≡ Some (Ok (record { every = Some 500; burst = 8 }))
unfolding on_literals
eight_each_millisecond = refl

no_pace : read_as at_half_a_megabit (codes "{\"queue\":16}") ≡ Some (Ok pace_of_the_run)
unfolding on_literals
no_pace = refl

slowest_pace : read_as at_half_a_megabit (codes "{\"every\":\"2s\",\"burst\":1000}")
    ≡ Some (Ok (record { every = Some 1000000; burst = 1000 }))
unfolding on_literals
slowest_pace = refl

too_slow_a_pace : read_as at_half_a_megabit (codes "{\"every\":1000001,\"burst\":0}")
    ≡ Some (Err (out_of_range (codes "every")))
unfolding on_literals
too_slow_a_pace = refl

less_than_a_tick : read_as at_half_a_megabit (codes "{\"every\":\"1us\"}")
    ≡ Some (Err (out_of_range (codes "every")))
unfolding on_literals
less_than_a_tick = refl

pace_without_a_rate : read_as (pace_of Three None) (codes "{\"every\":\"1ms\"}")
    ≡ Some (Err (wrong_kind (codes "every")))
unfolding on_literals
pace_without_a_rate = refl

burst_of_no_turn : read_as (pace_of Three None) (codes "{\"burst\":0}") ≡ Some (Err (out_of_range (codes "burst")))
unfolding on_literals
burst_of_no_turn = refl

burst_of_1001 : read_as (pace_of Three None) (codes "{\"burst\":1001}") ≡ Some (Err (out_of_range (codes "burst")))
unfolding on_literals
burst_of_1001 = refl

no_pace_in_version_two : read_as (pace_of Two None) (codes "{\"every\":0,\"burst\":0}") ≡ Some (Ok pace_of_the_run)
unfolding on_literals
no_pace_in_version_two = refl

-- the size of a queue

longest_queue : read_as (queue_of Three) (codes "{\"queue\":1024}") ≡ Some (Ok (Some 1024))
unfolding on_literals
longest_queue = refl

too_long_a_queue : read_as (queue_of Three) (codes "{\"queue\":1025}") ≡ Some (Err (out_of_range (codes "queue")))
unfolding on_literals
too_long_a_queue = refl

queue_of_none : read_as (queue_of Three) (codes "{\"queue\":0}") ≡ Some (Err (out_of_range (codes "queue")))
unfolding on_literals
queue_of_none = refl

queue_as_a_text : read_as (queue_of Three) (codes "{\"queue\":\"16\"}") ≡ Some (Err (wrong_kind (codes "queue")))
unfolding on_literals
queue_as_a_text = refl

no_queue : read_as (queue_of Three) (codes "{\"every\":1}") ≡ Some (Ok None)
unfolding on_literals
no_queue = refl

no_queue_in_version_two : read_as (queue_of Two) (codes "{\"queue\":0}") ≡ Some (Ok None)
unfolding on_literals
no_queue_in_version_two = refl

-- a script

abbrev two_buses : List ℕ
two_buses =
    codes "{\"version\":3,\"comment\":\"engine data to the dashboard\",\"bitrate\":500000,\"bits\":\"20s\","
    ++ codes "\"segments\":[{\"name\":\"powertrain\",\"talkers\":[{\"name\":\"engine\",\"on\":0,\"frames\":[{"
    ++ codes "\"frame\":\"0C0#0102030405060708\",\"at\":\"1ms\",\"every\":\"10ms\"},{"
    ++ codes "\"frame\":\"18FEF100#FF00\",\"every\":\"100ms\",\"times\":50},\"7E8#0341\"]},{\"name\":\"abs\","
    ++ codes "\"on\":\"3ms\",\"frames\":[]}]},{\"name\":\"body\",\"talkers\":[{\"name\":\"dashboard\",\"on\":0,"
    ++ codes "\"frames\":[]}]}],\"controllers\":[{\"name\":\"gw_pt\",\"segment\":\"powertrain\",\"on\":0,"
    ++ codes "\"filters\":[{\"accept\":\"0C0\",\"fifo\":0},{\"accept\":\"120:7F0\",\"fifo\":0},{"
    ++ codes "\"accept\":\"18FEF100\",\"fifo\":1}]},{\"name\":\"gw_body\",\"segment\":\"body\",\"on\":0,"
    ++ codes "\"txfp\":false}],\"routes\":[{\"name\":\"signals\",\"from\":\"gw_pt\",\"fifo\":0,"
    ++ codes "\"to\":\"gw_body\",\"every\":\"1ms\",\"burst\":8,\"queue\":16}],\"faults\":[{"
    ++ codes "\"segment\":\"body\",\"bit\":\"5ms\",\"until\":\"6ms\",\"level\":1}]}"

abbrev engine_messages : List MessageValue
engine_messages =
    record {
      frame = record { id = standard 0x0C0; content = data_bytes (1 ∷ 2 ∷ 3 ∷ 4 ∷ 5 ∷ 6 ∷ 7 ∷ 8 ∷ []) };
      at = 500;
      every = 5000;
      count = 2000;
    }
    ∷ record {
      frame = record { id = extended 0x18FE_F100; content = data_bytes (0xFF ∷ 0 ∷ []) };
      at = 0;
      every = 50000;
      count = 50;
    }
    ∷ once (record { id = standard 0x7E8; content = data_bytes (0x03 ∷ 0x41 ∷ []) }) 0 ∷ []

abbrev filter_banks : List BankValue
filter_banks =
    mask_bank 0 0x1800_0000 0xFFE0_0004 ∷ mask_bank 0 0x2400_0000 0xFE00_0004
    ∷ mask_bank 1 0xC7F7_8804 0xFFFF_FFFC ∷ replicate 25 unlisted

abbrev two_segments : List SegmentValue
two_segments =
    record {
      name = codes "powertrain";
      talkers =
          record { name = codes "engine"; on = 0; messages = engine_messages }
          ∷ record { name = codes "abs"; on = 1500; messages = [] } ∷ [];
    }
    ∷ record {
      name = codes "body";
      talkers = record { name = codes "dashboard"; on = 0; messages = [] } ∷ [];
    } ∷ []

read_two_buses : read_as script_of two_buses ≡ Some (Ok (record {
  rate = Some 500000;
  bits = 10000000;
  segments = two_segments;
  controllers =
      record { name = codes "gw_pt"; segment = 0; on = 0; txfp = true; banks = filter_banks }
      ∷ record { name = codes "gw_body"; segment = 1; on = 0; txfp = false; banks = replicate 28 unlisted } ∷ [];
  routes = record {
    name = codes "signals";
    source = 0;
    fifo = 0;
    target = 1;
    rewrites = [];
    pace = record { every = Some 500; burst = 8 };
    queue = Some 16;
  } ∷ [];
  faults = OnLine 1 2500 3000 true ∷ [];
  aborts = [];
}))
unfolding on_literals
read_two_buses = refl
