pub mod Collecting
pub mod Pool
pub mod Couriers
