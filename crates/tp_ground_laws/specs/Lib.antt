pub mod SamePlans
pub mod Needed
pub mod WholeTasks
