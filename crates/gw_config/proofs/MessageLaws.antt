-- Messages that are read without a fault are sound.
use Rattle.std.proofs.Common.{◌≡◌, ◌∙◌, ap, refl, subst, ℕ, ◌+◌, ◌-◌, ◌≤◌, nat_le, List, [], ◌∷◌, ◌++◌, length}
use Rattle.std.proofs.Common.{Ok, codes, length-append, arith}
use Rattle.std.proofs.lemmas.Bool.{leb-true}
use Rattle.std.proofs.lemmas.List.Sums.{sum_by-append}
use Rattle.serde_json.specs.Data.{Data, Items}
use Rattle.gw_fields.specs.Faults.{too_many}
use Rattle.gw_fields.specs.Fields.{object_of, items_count}
use Rattle.gw_fields.specs.Frames.{frame_of}
use Rattle.gw_fields.proofs.Readings.{from_bind, passed_ok, each_after_keeps, count_ok}
use Rattle.gw_config.specs.declared.version.Version.{Version}
use Rattle.gw_config.specs.declared.version.Version.TheVariants.{One, Two, Three}
use Rattle.gw_config.specs.declared.format.Format.{Format}
use Rattle.gw_config.specs.Messages.{MessageValue, instances_of, once, plain_message, message_of, fitting, next_message}
use Rattle.gw_config.specs.Messages.{message_after, messages_of}

instances-append : (front : List MessageValue) (m : MessageValue) →
    instances_of (front ++ m ∷ []) ≡ instances_of front + m.count
instances-append front m =
    let parts : instances_of (front ++ m ∷ []) ≡ instances_of front + instances_of (m ∷ []) =
    sum_by-append (λ (one : MessageValue). one.count) front (m ∷ []) in
    parts ∙ ap (λ n. instances_of front + n) (let one : 0 + m.count ≡ m.count = omega arith in one)

-- each message of versions 1 and 2 has one instance
plain_once : (value : Data) (m : MessageValue) → plain_message value ≡ Ok m → m.count ≡ 1
unfolding plain_message
plain_once value m e =
    from_bind (object_of (codes "frames") value) _ m e (λ from is_object e1.
    from_bind (frame_of from) _ m e1 (λ frame is_frame e2.
    let same : once frame 0 ≡ m = cc in
    let P : MessageValue → Type 0 = λ one. one.count ≡ 1 in subst P same refl))

-- messages of this version have few instances: as many as there are messages, or no more than are left
abbrev pub AreFew : Version → ℕ → List MessageValue → Type 0
AreFew One left ms = instances_of ms ≡ length ms
AreFew Two left ms = instances_of ms ≡ length ms
AreFew Three left ms = instances_of ms ≤ left

one_more : (front : List MessageValue) (m : MessageValue) → instances_of front ≡ length front → m.count ≡ 1 →
    instances_of (front ++ m ∷ []) ≡ length (front ++ m ∷ [])
one_more front m before here = omega (arith, instances-append front m, length-append front (m ∷ []))

few_more : (version : Version) (format : Format) (left : ℕ) (front : List MessageValue) (value : Data)
    (read m : MessageValue) → AreFew version left front → message_of version format value ≡ Ok read →
    fitting version (left - instances_of front) read ≡ Ok m → AreFew version left (front ++ m ∷ [])
few_more One format left front value read m before is e =
    let same : read ≡ m = cc in
    let P : MessageValue → Type 0 = λ one. one.count ≡ 1 in
    one_more front m before (subst P same (plain_once value read is))
few_more Two format left front value read m before is e =
    let same : read ≡ m = cc in
    let P : MessageValue → Type 0 = λ one. one.count ≡ 1 in
    one_more front m before (subst P same (plain_once value read is))
few_more Three format left front value read m before is e =
    let test = passed_ok (nat_le read.count (left - instances_of front)) read m (too_many (codes "instances")) e in
    let fits : read.count ≤ left - instances_of front = leb-true read.count (left - instances_of front) test.0 in
    let P : MessageValue → Type 0 = λ one. one.count ≤ left - instances_of front in
    let here : m.count ≤ left - instances_of front = subst P test.1 fits in
    let before_few : instances_of front ≤ left = before in
    omega (arith, instances-append front m)

next_few : (format : Format) (left : ℕ) (front : List MessageValue) (value : Data) (m : MessageValue) →
    AreFew format.version left front → message_after format left front value ≡ Ok m →
    AreFew format.version left (front ++ m ∷ [])
unfolding next_message
next_few format left front value m before e =
    from_bind (message_of format.version format value) _ m e
    (λ read is e1. few_more format.version format left front value read m before is e1)

few_at_first : (version : Version) (left : ℕ) → AreFew version left []
few_at_first One left = refl
few_at_first Two left = refl
few_at_first Three left = omega arith

few_enough : (version : Version) (left : ℕ) (ms : List MessageValue) → left ≤ 1000000 → length ms ≤ 10000 →
    AreFew version left ms → instances_of ms ≤ 1000000
few_enough One left ms limit short few = omega (arith, few)
few_enough Two left ms limit short few = omega (arith, few)
few_enough Three left ms limit short few = omega (arith, few)

-- the messages of a talker have few instances
pub messages_few : (format : Format) (left : ℕ) (items : Items) (ms : List MessageValue) → left ≤ 1000000 →
    items_count items ≤ 10000 → messages_of format left items ≡ Ok ms → instances_of ms ≤ 1000000
messages_few format left items ms limit short e =
    few_enough format.version left ms limit
    (let few : length ms ≤ 10000 = omega (arith, count_ok (message_after format left) [] ms items e, short) in few)
    (each_after_keeps (message_after format left) (AreFew format.version left)
    (λ front d m before is. next_few format left front d m before is) [] ms items
    (few_at_first format.version left) e)
