pub mod Bits
pub mod Cases
pub mod LaneSteps
pub mod Unpacking
pub mod Packed
