pub mod Machine
pub mod Step
pub mod Run
pub mod Copies
pub mod OwnBounds
pub mod Partly
pub mod Orders
