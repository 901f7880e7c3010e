-- Worked values of messages, by computing.
use Rattle.std.proofs.Common.{◌≡◌, refl, [], ◌∷◌, codes, Some, None, Ok, Err}
use Rattle.can_frame.specs.Frames.{standard, data_bytes, FrameValue}
use Rattle.gw_fields.specs.Faults.{missing, wrong_kind, out_of_range, too_many, unknown_field}
use Rattle.gw_config.specs.declared.version.Version.TheVariants.{Two, Three}
use Rattle.gw_config.specs.declared.format.Format.{Format}
use Rattle.gw_config.specs.Messages.{once, message_of, next_message}
use Rattle.gw_config.proofs.OnLiterals.{read_as, on_literals}

-- 20 s at 500,000 bits a second
abbrev pub at_a_rate : Format
at_a_rate = record { version = Three; rate = Some 500000; bits = 10000000 }

abbrev pub version_two : Format
version_two = record { version = Two; rate = None; bits = 300 }

abbrev two_bytes : FrameValue
two_bytes = record { id = standard 0x0C0; content = data_bytes (1 ∷ 2 ∷ []) }

periodic : read_as (message_of Three at_a_rate) (codes "{\"frame\":\"0C0#0102\",\"at\":\"1ms\",\"every\":\"10ms\"}")
    ≡ Some (Ok (record { frame = two_bytes; at = 500; every = 5000; count = 2000 }))
unfolding on_literals
periodic = refl

fifty_times : read_as (message_of Three at_a_rate) (codes "{\"frame\":\"0C0#0102\",\"every\":\"100ms\",\"times\":50}")
    ≡ Some (Ok (record { frame = two_bytes; at = 0; every = 50000; count = 50 }))
unfolding on_literals
fifty_times = refl

more_times_than_room :
    read_as (message_of Three at_a_rate) (codes "{\"frame\":\"0C0#0102\",\"every\":\"10s\",\"times\":5}")
    ≡ Some (Ok (record { frame = two_bytes; at = 0; every = 5000000; count = 2 }))
unfolding on_literals
more_times_than_room = refl

at_the_last_bit : read_as (message_of Three at_a_rate) (codes "{\"frame\":\"0C0#0102\",\"at\":9999999,\"every\":1}")
    ≡ Some (Ok (record { frame = two_bytes; at = 9999999; every = 1; count = 1 }))
unfolding on_literals
at_the_last_bit = refl

behind_the_last_bit : read_as (message_of Three at_a_rate) (codes "{\"frame\":\"0C0#0102\",\"at\":10000000}")
    ≡ Some (Err (out_of_range (codes "at")))
unfolding on_literals
behind_the_last_bit = refl

text_alone : read_as (message_of Three at_a_rate) (codes "\"0C0#0102\"") ≡ Some (Ok (once two_bytes 0))
unfolding on_literals
text_alone = refl

fields_of_a_frame : read_as (message_of Three at_a_rate) (codes "{\"id\":192,\"ext\":false,\"data\":[1,2],\"at\":7}")
    ≡ Some (Ok (once two_bytes 7))
unfolding on_literals
fields_of_a_frame = refl

times_without_every : read_as (message_of Three at_a_rate) (codes "{\"frame\":\"0C0#0102\",\"times\":2}")
    ≡ Some (Err (unknown_field (codes "frames")))
unfolding on_literals
times_without_every = refl

frame_and_id : read_as (message_of Three at_a_rate) (codes "{\"frame\":\"0C0#0102\",\"id\":192}")
    ≡ Some (Err (unknown_field (codes "frames")))
unfolding on_literals
frame_and_id = refl

no_frame : read_as (message_of Three at_a_rate) (codes "{\"at\":3}") ≡ Some (Err (missing (codes "id")))
unfolding on_literals
no_frame = refl

every_zero_bits : read_as (message_of Three at_a_rate) (codes "{\"frame\":\"0C0#0102\",\"every\":0}")
    ≡ Some (Err (out_of_range (codes "every")))
unfolding on_literals
every_zero_bits = refl

every_too_many_bits : read_as (message_of Three at_a_rate) (codes "{\"frame\":\"0C0#0102\",\"every\":100000001}")
    ≡ Some (Err (out_of_range (codes "every")))
unfolding on_literals
every_too_many_bits = refl

at_before_every : read_as (message_of Three at_a_rate) (codes "{\"frame\":\"0C0#0102\",\"every\":0,\"at\":null}")
    ≡ Some (Err (wrong_kind (codes "at")))
unfolding on_literals
at_before_every = refl

times_a_million :
    read_as (message_of Three at_a_rate) (codes "{\"frame\":\"0C0#0102\",\"every\":1,\"times\":1000000}")
    ≡ Some (Ok (record { frame = two_bytes; at = 0; every = 1; count = 1000000 }))
unfolding on_literals
times_a_million = refl

times_too_many : read_as (message_of Three at_a_rate) (codes "{\"frame\":\"0C0#0102\",\"every\":1,\"times\":1000001}")
    ≡ Some (Err (out_of_range (codes "times")))
unfolding on_literals
times_too_many = refl

no_element : read_as (message_of Three at_a_rate) (codes "7") ≡ Some (Err (wrong_kind (codes "frames")))
unfolding on_literals
no_element = refl

frame_of_a_number : read_as (message_of Three at_a_rate) (codes "{\"frame\":7}")
    ≡ Some (Err (wrong_kind (codes "frame")))
unfolding on_literals
frame_of_a_number = refl

frame_badly_formed : read_as (message_of Three at_a_rate) (codes "\"0C0\"")
    ≡ Some (Err (out_of_range (codes "frame")))
unfolding on_literals
frame_badly_formed = refl

ignored_in_version_two :
    read_as (message_of Two version_two) (codes "{\"id\":192,\"ext\":false,\"data\":[1,2],\"at\":5,\"every\":7}")
    ≡ Some (Ok (once two_bytes 0))
unfolding on_literals
ignored_in_version_two = refl

no_text_in_version_two : read_as (message_of Two version_two) (codes "\"0C0#0102\"")
    ≡ Some (Err (wrong_kind (codes "frames")))
unfolding on_literals
no_text_in_version_two = refl

-- instances

just_enough_left :
    read_as (next_message at_a_rate 2000) (codes "{\"frame\":\"0C0#0102\",\"at\":\"1ms\",\"every\":\"10ms\"}")
    ≡ Some (Ok (record { frame = two_bytes; at = 500; every = 5000; count = 2000 }))
unfolding on_literals
just_enough_left = refl

one_too_many :
    read_as (next_message at_a_rate 1999) (codes "{\"frame\":\"0C0#0102\",\"at\":\"1ms\",\"every\":\"10ms\"}")
    ≡ Some (Err (too_many (codes "instances")))
unfolding on_literals
one_too_many = refl

no_limit_in_version_two : read_as (next_message version_two 0) (codes "{\"id\":192,\"ext\":false,\"data\":[1,2]}")
    ≡ Some (Ok (once two_bytes 0))
unfolding on_literals
no_limit_in_version_two = refl
