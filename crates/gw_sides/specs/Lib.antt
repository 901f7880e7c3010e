pub mod Seats
pub mod Sets
