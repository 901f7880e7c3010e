pub mod Masks
pub mod Places
pub mod Choices
pub mod Relays
