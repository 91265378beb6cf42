mod Begins
pub mod Chains
pub mod Expanding
pub mod Listed
pub mod Lists
pub mod Loop
pub mod OnSides
pub mod Parts
pub mod Shuffled
pub mod Unreachable
pub mod Wanted
pub mod Whole
mod Within
