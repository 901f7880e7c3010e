pub mod Intakes
pub mod Ports
