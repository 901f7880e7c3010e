pub mod Back
pub mod Dealt
pub mod Fair
pub mod Joins
pub mod Turns
