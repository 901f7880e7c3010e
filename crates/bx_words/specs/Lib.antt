pub mod Lanes
pub mod Orders
pub mod Payloads
