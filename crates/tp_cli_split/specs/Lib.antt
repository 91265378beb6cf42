pub mod Divides
pub mod IntervalLines
pub mod PartLines
pub mod Splits
pub mod Stops
