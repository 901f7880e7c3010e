pub mod RouteHand
pub mod Turn
pub mod Burst
pub mod Heard
pub mod Sublists
pub mod Plans
