mod Worked
pub mod Lists
pub mod Places
pub mod FaultLaws
pub mod Readings
pub mod KnownNames
pub mod Numerals
pub mod FrameLaws
