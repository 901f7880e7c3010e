pub mod Postings
pub mod Rule
pub mod Sides
pub mod SideLaws
pub mod Boxes
pub mod BusParts
pub mod RouteParts
