-- A controller: what its FIFOs were offered, and what the calls on it leave as it was.
use Rattle.std.specs.Prelude.{◌≡◌, ℕ, ◌<◌, Option, Some, None, List, length}
use Rattle.std.proofs.Common.{refl, ◌∙◌, sym, subst}
use Rattle.can_frame.specs.Frames.{FrameValue}
use Rattle.bx_rx.specs.Bank.{BankValue}
use Rattle.bx_controller.specs.Slots.{SlotStands, SameFifo}
use Rattle.bx_controller.specs.declared.intake.Intake.{Intake}
use Rattle.bx_controller.specs.declared.port.Port.{Port}

-- both FIFOs, where the counts of frames fit their 64 bits
pub record BothStand {B : Type 0} (port : Port B) (taken : List FrameValue) : Type 0 where
  pub first : SlotStands port.banks 0 port.first taken
  pub second : SlotStands port.banks 1 port.second taken

abbrev pub SinkStands : {B : Type 0} → Port B → List FrameValue → Type 0
SinkStands port taken = length taken < 18446744073709551616 → BothStand port taken

-- a call of the bus side leaves the FIFOs, the banks, and what routes may have done
pub record BusLeaves {B : Type 0} (stays : B → B → Type 0) (old new : Port B) : Type 0 where
  pub banks : new.banks ≡ old.banks
  pub first : new.first ≡ old.first
  pub second : new.second ≡ old.second
  pub mail : stays old.mail new.mail

-- any call of a segment leaves which FIFOs they are, the banks, and what routes may have done
pub record PortLeaves {B : Type 0} (stays : B → B → Type 0) (old new : Port B) : Type 0 where
  pub banks : new.banks ≡ old.banks
  pub first : SameFifo old.first new.first
  pub second : SameFifo old.second new.second
  pub mail : stays old.mail new.mail

pub bus_leaves-self : {B : Type 0} (stays : B → B → Type 0) → ((x : B) → stays x x) → (a : Port B) → BusLeaves stays a a
bus_leaves-self stays self a = record { banks = refl; first = refl; second = refl; mail = self a.mail }

pub bus_leaves-on : {B : Type 0} (stays : B → B → Type 0) → ((x y z : B) → stays x y → stays y z → stays x z) →
    (a b c : Port B) →
    BusLeaves stays a b → BusLeaves stays b c → BusLeaves stays a c
bus_leaves-on stays on a b c p q = record {
  banks = q.banks ∙ p.banks;
  first = q.first ∙ p.first;
  second = q.second ∙ p.second;
  mail = on a.mail b.mail c.mail p.mail q.mail;
}

same_fifo-self : (slot : Option Intake) → SameFifo slot slot
same_fifo-self None = tt
same_fifo-self (Some intake) = refl

same_fifo-on : (a b c : Option Intake) → SameFifo a b → SameFifo b c → SameFifo a c
same_fifo-on None None None p q = tt
same_fifo-on None None (Some z) p q = absurd q
same_fifo-on None (Some y) c p q = absurd p
same_fifo-on (Some x) None c p q = absurd p
same_fifo-on (Some x) (Some y) None p q = absurd q
same_fifo-on (Some x) (Some y) (Some z) p q = q ∙ p

pub same_fifo : (a b : Option Intake) → b ≡ a → SameFifo a b
same_fifo a b e = subst (λ x. SameFifo a x) (sym e) (same_fifo-self a)

pub port_leaves-on : {B : Type 0} (stays : B → B → Type 0) → ((x y z : B) → stays x y → stays y z → stays x z) →
    (a b c : Port B) →
    PortLeaves stays a b → PortLeaves stays b c → PortLeaves stays a c
port_leaves-on stays on a b c p q = record {
  banks = q.banks ∙ p.banks;
  first = same_fifo-on a.first b.first c.first p.first q.first;
  second = same_fifo-on a.second b.second c.second p.second q.second;
  mail = on a.mail b.mail c.mail p.mail q.mail;
}

pub port_of_bus : {B : Type 0} (stays : B → B → Type 0) (a b : Port B) → BusLeaves stays a b → PortLeaves stays a b
port_of_bus stays a b p = record {
  banks = p.banks;
  first = same_fifo a.first b.first p.first;
  second = same_fifo a.second b.second p.second;
  mail = p.mail;
}

pub slot_leaves : (banks other : List BankValue) (fifo : ℕ) (slot late : Option Intake) (taken : List FrameValue) →
    other ≡ banks → late ≡ slot → SlotStands banks fifo slot taken → SlotStands other fifo late taken
slot_leaves banks other fifo slot late taken b i h =
    subst (λ bs. SlotStands bs fifo late taken) (sym b) (subst (λ x. SlotStands banks fifo x taken) (sym i) h)

pub sink_leaves : {B : Type 0} (stays : B → B → Type 0) (a b : Port B) (taken : List FrameValue) →
    BusLeaves stays a b → SinkStands a taken → SinkStands b taken
sink_leaves stays a b taken p h few = let both = h few in record {
  first = slot_leaves a.banks b.banks 0 a.first b.first taken p.banks p.first both.first;
  second = slot_leaves a.banks b.banks 1 a.second b.second taken p.banks p.second both.second;
}
