pub mod Allowed
pub mod Edges
pub mod GoingOn
pub mod Journal
pub mod Reasons
pub mod Sound
pub mod Writing
