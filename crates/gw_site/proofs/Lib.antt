pub mod Pairs
pub mod Sites
