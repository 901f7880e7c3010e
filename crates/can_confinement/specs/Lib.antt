pub mod Confinement
pub mod Counters
pub mod KnownCounts
