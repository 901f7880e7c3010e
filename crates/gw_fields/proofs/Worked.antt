-- Worked values of the definitions, by computing.
use Rattle.std.proofs.Common.{◌≡◌, refl, [], ◌∷◌, codes, Some, None, Ok, Err, false}
use Rattle.serde_json.specs.Data.{Data, string, number, null, boolean, unsigned, object, member, no_members}
use Rattle.hex.proofs.OnLiterals.{hex_on_literals}
use Rattle.can_frame.specs.Frames.{standard, extended, data_bytes, remote_code}
use Rattle.gw_fields.specs.Faults.{missing, wrong_kind, out_of_range, unknown_field}
use Rattle.gw_fields.specs.Fields.{field, natural_of, whole_of, text_of}
use Rattle.gw_fields.specs.IdentifierTexts.{identifier_text, accept_text}
use Rattle.gw_fields.specs.FrameTexts.{frame_text}
use Rattle.gw_fields.specs.Durations.{duration_text, duration_of, duration, optional_duration}
use Rattle.gw_fields.specs.Optional.{optional_whole, optional_text, maybe_truth}
use Rattle.gw_fields.specs.Known.{known_fields}

-- frames

two_bytes : frame_text (codes "0C0#0102") ≡ Ok (record { id = standard 192; content = data_bytes (1 ∷ 2 ∷ []) })
unfolding frame_text identifier_text hex_on_literals
two_bytes = refl

either_case : frame_text (codes "0c0#aBFf") ≡ Ok (record { id = standard 192; content = data_bytes (171 ∷ 255 ∷ []) })
unfolding frame_text identifier_text hex_on_literals
either_case = refl

no_bytes : frame_text (codes "7FF#") ≡ Ok (record { id = standard 2047; content = data_bytes [] })
unfolding frame_text identifier_text hex_on_literals
no_bytes = refl

eight_bytes : frame_text (codes "1FFFFFFF#0102030405060708")
    ≡ Ok (record { id = extended 536870911; content = data_bytes (1 ∷ 2 ∷ 3 ∷ 4 ∷ 5 ∷ 6 ∷ 7 ∷ 8 ∷ []) })
unfolding frame_text identifier_text hex_on_literals
eight_bytes = refl

zeros_lead : frame_text (codes "000000C0#FF00")
    ≡ Ok (record { id = extended 192; content = data_bytes (255 ∷ 0 ∷ []) })
unfolding frame_text identifier_text hex_on_literals
zeros_lead = refl

remote_of_three : frame_text (codes "18FEF100#R3") ≡ Ok (record { id = extended 419361024; content = remote_code 3 })
unfolding frame_text identifier_text hex_on_literals
remote_of_three = refl

remote_of_eight : frame_text (codes "7FF#R8") ≡ Ok (record { id = standard 2047; content = remote_code 8 })
unfolding frame_text identifier_text hex_on_literals
remote_of_eight = refl

remote_of_none : frame_text (codes "7FF#R") ≡ Ok (record { id = standard 2047; content = remote_code 0 })
unfolding frame_text identifier_text hex_on_literals
remote_of_none = refl

standard_too_large : frame_text (codes "800#") ≡ Err (out_of_range (codes "frame"))
unfolding frame_text identifier_text hex_on_literals
standard_too_large = refl

extended_too_large : frame_text (codes "20000000#") ≡ Err (out_of_range (codes "frame"))
unfolding frame_text identifier_text hex_on_literals
extended_too_large = refl

lower_r : frame_text (codes "0c0#r") ≡ Err (out_of_range (codes "frame"))
unfolding frame_text identifier_text hex_on_literals
lower_r = refl

half_a_byte : frame_text (codes "0C0#010") ≡ Err (out_of_range (codes "frame"))
unfolding frame_text identifier_text hex_on_literals
half_a_byte = refl

nine_bytes : frame_text (codes "0C0#010203040506070809") ≡ Err (out_of_range (codes "frame"))
unfolding frame_text identifier_text hex_on_literals
nine_bytes = refl

no_separator : frame_text (codes "0C0") ≡ Err (out_of_range (codes "frame"))
unfolding frame_text identifier_text hex_on_literals
no_separator = refl

code_nine : frame_text (codes "0C0#R9") ≡ Err (out_of_range (codes "frame"))
unfolding frame_text identifier_text hex_on_literals
code_nine = refl

two_digits : frame_text (codes "0C0#R08") ≡ Err (out_of_range (codes "frame"))
unfolding frame_text identifier_text hex_on_literals
two_digits = refl

two_separators : frame_text (codes "0C0##1") ≡ Err (out_of_range (codes "frame"))
unfolding frame_text identifier_text hex_on_literals
two_separators = refl

two_identifier_digits : frame_text (codes "C0#01") ≡ Err (out_of_range (codes "frame"))
unfolding frame_text identifier_text hex_on_literals
two_identifier_digits = refl

seven_identifier_digits : frame_text (codes "18FEF10#01") ≡ Err (out_of_range (codes "frame"))
unfolding frame_text identifier_text hex_on_literals
seven_identifier_digits = refl

dotted : frame_text (codes "0C0#01.02") ≡ Err (out_of_range (codes "frame"))
unfolding frame_text identifier_text hex_on_literals
dotted = refl

spaced : frame_text (codes "0C0# 01") ≡ Err (out_of_range (codes "frame"))
unfolding frame_text identifier_text hex_on_literals
spaced = refl

signed : frame_text (codes "+C0#01") ≡ Err (out_of_range (codes "frame"))
unfolding frame_text identifier_text hex_on_literals
signed = refl

no_text : frame_text (codes "") ≡ Err (out_of_range (codes "frame"))
unfolding frame_text identifier_text hex_on_literals
no_text = refl

no_hex : frame_text (codes "0G0#01") ≡ Err (out_of_range (codes "frame"))
unfolding frame_text identifier_text hex_on_literals
no_hex = refl

-- filters

accept_one : accept_text (codes "0c0") ≡ Ok (record { id = standard 192; mask = 2047 })
unfolding accept_text identifier_text
accept_one = refl

accept_masked : accept_text (codes "120:7F0") ≡ Ok (record { id = standard 288; mask = 2032 })
unfolding accept_text identifier_text
accept_masked = refl

accept_extended : accept_text (codes "18FEF100") ≡ Ok (record { id = extended 419361024; mask = 536870911 })
unfolding accept_text identifier_text
accept_extended = refl

accept_extended_masked : accept_text (codes "18FEF100:1FFFFF00")
    ≡ Ok (record { id = extended 419361024; mask = 536870656 })
unfolding accept_text identifier_text
accept_extended_masked = refl

mask_of_another_format : accept_text (codes "120:1FFFFFFF") ≡ Err (out_of_range (codes "accept"))
unfolding accept_text identifier_text
mask_of_another_format = refl

mask_too_large : accept_text (codes "120:800") ≡ Err (out_of_range (codes "accept"))
unfolding accept_text identifier_text
mask_too_large = refl

no_mask : accept_text (codes "120:") ≡ Err (out_of_range (codes "accept"))
unfolding accept_text identifier_text
no_mask = refl

no_identifier : accept_text (codes ":7F0") ≡ Err (out_of_range (codes "accept"))
unfolding accept_text identifier_text
no_identifier = refl

two_masks : accept_text (codes "120:7F0:7F0") ≡ Err (out_of_range (codes "accept"))
unfolding accept_text identifier_text
two_masks = refl

accept_too_large : accept_text (codes "800") ≡ Err (out_of_range (codes "accept"))
unfolding accept_text identifier_text
accept_too_large = refl

-- durations

ten_milliseconds : duration_text 500000 (codes "10ms") ≡ Some 5000
unfolding duration_text
ten_milliseconds = refl

below_one_bit : duration_text 125000 (codes "3us") ≡ Some 0
unfolding duration_text
below_one_bit = refl

rounded_down : duration_text 125000 (codes "15us") ≡ Some 1
unfolding duration_text
rounded_down = refl

twenty_seconds : duration_text 500000 (codes "20s") ≡ Some 10000000
unfolding duration_text
twenty_seconds = refl

nine_digits : duration_text 1000000 (codes "999999999s") ≡ Some 999999999000000
unfolding duration_text
nine_digits = refl

space_between : duration_text 500000 (codes "10 ms") ≡ None
unfolding duration_text
space_between = refl

fraction : duration_text 500000 (codes "1.5ms") ≡ None
unfolding duration_text
fraction = refl

ten_digits : duration_text 500000 (codes "1234567890us") ≡ None
unfolding duration_text
ten_digits = refl

no_digits : duration_text 500000 (codes "ms") ≡ None
unfolding duration_text
no_digits = refl

no_unit : duration_text 500000 (codes "10") ≡ None
unfolding duration_text
no_unit = refl

upper_case_unit : duration_text 500000 (codes "10MS") ≡ None
unfolding duration_text
upper_case_unit = refl

two_units : duration_text 500000 (codes "10mss") ≡ None
unfolding duration_text
two_units = refl

nanoseconds : duration_text 500000 (codes "10ns") ≡ None
unfolding duration_text
nanoseconds = refl

sign : duration_text 500000 (codes "+10ms") ≡ None
unfolding duration_text
sign = refl

no_duration : duration_text 500000 (codes "") ≡ None
unfolding duration_text
no_duration = refl

time_at_a_rate : duration_of (codes "at") 0 5000 (Some 500000) (string (codes "10ms")) ≡ Ok 5000
unfolding duration_of duration_text natural_of
time_at_a_rate = refl

time_above : duration_of (codes "at") 0 4999 (Some 500000) (string (codes "10ms")) ≡ Err (out_of_range (codes "at"))
unfolding duration_of duration_text natural_of
time_above = refl

time_below : duration_of (codes "every") 1 4999 (Some 125000) (string (codes "3us"))
    ≡ Err (out_of_range (codes "every"))
unfolding duration_of duration_text natural_of
time_below = refl

time_without_rate : duration_of (codes "at") 0 5000 None (string (codes "10ms")) ≡ Err (wrong_kind (codes "at"))
unfolding duration_of duration_text natural_of
time_without_rate = refl

no_time : duration_of (codes "at") 0 5000 (Some 500000) (string (codes "10 ms")) ≡ Err (wrong_kind (codes "at"))
unfolding duration_of duration_text natural_of
no_time = refl

bits_without_rate : duration_of (codes "at") 0 5000 None (number (unsigned 7)) ≡ Ok 7
unfolding duration_of duration_text natural_of
bits_without_rate = refl

bits_at_a_rate : duration_of (codes "at") 0 5000 (Some 500000) (number (unsigned 7)) ≡ Ok 7
unfolding duration_of duration_text natural_of
bits_at_a_rate = refl

null_duration : duration_of (codes "at") 0 5000 (Some 500000) null ≡ Err (wrong_kind (codes "at"))
unfolding duration_of duration_text natural_of
null_duration = refl

absent_duration : duration (codes "at") 0 5000 None (object no_members) ≡ Err (missing (codes "at"))
unfolding duration field
absent_duration = refl

absent_option : optional_duration (codes "at") 0 5000 None (object no_members) ≡ Ok None
unfolding optional_duration
absent_option = refl

-- fields that may be absent

one_field : Data → Data
one_field value = object (member (codes "x") value no_members)

whole_given : optional_whole (codes "x") 1 3 (one_field (number (unsigned 3))) ≡ Ok (Some 3)
unfolding optional_whole one_field whole_of natural_of
whole_given = refl

whole_above : optional_whole (codes "x") 1 3 (one_field (number (unsigned 4))) ≡ Err (out_of_range (codes "x"))
unfolding optional_whole one_field whole_of natural_of
whole_above = refl

whole_null : optional_whole (codes "x") 1 3 (one_field null) ≡ Err (wrong_kind (codes "x"))
unfolding optional_whole one_field whole_of natural_of
whole_null = refl

whole_absent : optional_whole (codes "y") 1 3 (one_field null) ≡ Ok None
unfolding optional_whole one_field
whole_absent = refl

text_given : optional_text (codes "x") (one_field (string (codes "a"))) ≡ Ok (Some (codes "a"))
unfolding optional_text one_field text_of
text_given = refl

text_absent : optional_text (codes "y") (one_field null) ≡ Ok None
unfolding optional_text one_field
text_absent = refl

truth_given : maybe_truth (codes "x") (one_field (boolean false)) ≡ Ok (Some false)
unfolding maybe_truth one_field
truth_given = refl

truth_null : maybe_truth (codes "x") (one_field null) ≡ Err (wrong_kind (codes "x"))
unfolding maybe_truth one_field
truth_null = refl

truth_absent : maybe_truth (codes "y") (one_field null) ≡ Ok None
unfolding maybe_truth one_field
truth_absent = refl

-- known fields

known_field : known_fields (codes "frames") (codes "at" ∷ codes "x" ∷ []) (one_field null) ≡ Ok tt
unfolding known_fields one_field
known_field = refl

unknown : known_fields (codes "frames") (codes "at" ∷ []) (one_field null) ≡ Err (unknown_field (codes "frames"))
unfolding known_fields one_field
unknown = refl

comment_is_free : known_fields (codes "frames") [] (object (member (codes "comment") null no_members)) ≡ Ok tt
unfolding known_fields
comment_is_free = refl

behind_a_known_one :
    known_fields (codes "frames") (codes "at" ∷ []) (object (member (codes "at") null (member (codes "x") null no_members)))
    ≡ Err (unknown_field (codes "frames"))
unfolding known_fields
behind_a_known_one = refl

no_object : known_fields (codes "frames") [] null ≡ Ok tt
unfolding known_fields
no_object = refl
