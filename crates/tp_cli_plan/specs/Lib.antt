pub mod FoundText
pub mod Parts
pub mod SearchStops
pub mod SearchTasks
pub mod Searches
pub mod Telling
