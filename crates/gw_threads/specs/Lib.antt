pub mod Clocks
pub mod Rests
pub mod Retired
