pub mod Places
pub mod Slots
pub mod Queues
pub mod Plans
pub mod Openings
