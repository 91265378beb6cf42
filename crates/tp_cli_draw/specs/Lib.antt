pub mod Draws
pub mod Pictures
pub mod Stops
pub mod Words
