pub mod PlacesWhere
pub mod Plans
pub mod Queues
pub mod Changes
pub mod Openings
pub mod Starts
