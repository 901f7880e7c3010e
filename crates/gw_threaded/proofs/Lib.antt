pub mod Walks
pub mod Begins
pub mod Trips
pub mod Closings
