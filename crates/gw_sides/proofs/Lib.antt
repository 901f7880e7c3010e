pub mod SeatLaws
pub mod Opens
pub mod Closes
