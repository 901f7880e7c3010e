pub mod Pacing
pub mod Retiring
pub mod Seats
