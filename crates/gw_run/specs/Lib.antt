pub mod Ports
pub mod Lanes
pub mod Sites
pub mod Schedules
pub mod Worlds
pub mod Faults
pub mod Finals
