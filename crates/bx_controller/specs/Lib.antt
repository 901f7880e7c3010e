pub mod Intakes
pub mod Slots
pub mod Ports
